use Rattle.rounds.proofs.Closing.{outside_knots_close_lem}
use Rattle.rounds.proofs.outside_knots_close.Goals as goal

pub returns : goal.returns
returns c = outside_knots_close_lem
