use Rattle.rounds.proofs.Holding.{bounds_hold_lem}
use Rattle.rounds.proofs.bounds_hold.Goals as goal

pub returns : goal.returns
returns c = bounds_hold_lem
