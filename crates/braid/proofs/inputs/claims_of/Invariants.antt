use Rattle.std.proofs.Common.{◌≡◌, length}
use Rattle.decoder.specs.Inputs.{claimants}
use Rattle.store.specs.Sums.{listed}
use Rattle.braid.specs.BraidMeaning.{claimant}
use Rattle.braid.specs.Layers.{Claimable}
use Rattle.braid.proofs.inputs.claims_of.Given as goal

abbrev pub invariant-loop-row : goal.invariant-loop-row
invariant-loop-row l = Claimable l.layer → claimants l.claims ≡ listed (length l.yielded) (claimant l.layer)
