use Rattle.std.proofs.Common.{arith, length-take}
use Rattle.store.proofs.flat.Flat.place.Goals as goal

pub returns-then-slot-slots : goal.returns-then-slot-slots
returns-then-slot-slots c = (c.from.ensures, omega (arith, c.slots.ensures), omega (arith, c.from.ensures, c.slots.ensures, length-take 1024 c.args.self.now.table))
