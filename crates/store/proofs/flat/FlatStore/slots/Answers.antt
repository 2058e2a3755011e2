use Rattle.std.proofs.Common.{arith, length-take}
use Rattle.store.proofs.flat.FlatStore.slots.Goals as goal

pub returns : goal.returns
returns c = rw (← c.self.view_is) (omega (arith, length-take 1024 c.self.inside.table.now))
