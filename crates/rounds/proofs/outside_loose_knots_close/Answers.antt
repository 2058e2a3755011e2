use Rattle.rounds.proofs.Closing.{outside_loose_knots_close_lem}
use Rattle.rounds.proofs.outside_loose_knots_close.Goals as goal

pub returns : goal.returns
returns c = outside_loose_knots_close_lem
