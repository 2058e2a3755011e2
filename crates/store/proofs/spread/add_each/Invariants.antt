use Rattle.std.proofs.Common.{◌+◌, ◌*◌, ◌^◌, ◌≤◌, length, take, Ok}
use Rattle.store.specs.Meaning.{Live, Within, Spread}
use Rattle.store.proofs.spread.add_each.Given as goal

abbrev pub invariant-loop-slot : goal.invariant-loop-slot
invariant-loop-slot g l =
    Live g.S.Store.meaning l.initial.store → Within (g.S.Store.meaning.slots l.initial.store) l.row
    → g.S.Store.meaning.weight l.initial.store + length l.row * l.n ≤ 2 ^ 40
    → Spread g.S.Store.meaning l.initial.store l.store (take l.slot-index l.row) l.n (Ok (g.S.Store.meaning.weight l.store))
