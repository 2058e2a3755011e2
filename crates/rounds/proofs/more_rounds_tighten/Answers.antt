use Rattle.rounds.proofs.Tightening.{more_rounds_tighten_lem}
use Rattle.rounds.proofs.more_rounds_tighten.Goals as goal

pub returns : goal.returns
returns c = more_rounds_tighten_lem
