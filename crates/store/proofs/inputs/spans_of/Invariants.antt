use Rattle.std.proofs.Common.{◌≡◌}
use Rattle.decoder.specs.Inputs.{spans_in}
use Rattle.store.specs.Meaning.{Live}
use Rattle.store.specs.Sums.{listed}
use Rattle.store.proofs.inputs.spans_of.Given as goal

abbrev pub invariant-loop-slot : goal.invariant-loop-slot
invariant-loop-slot g l =
    Live g.S.Store.meaning l.below
    → spans_in l.spans ≡ listed l.slot (g.S.Store.meaning.spans l.below (g.S.Store.meaning.rounds l.below))
