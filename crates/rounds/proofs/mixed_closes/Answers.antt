use Rattle.rounds.proofs.Samples.{mixed_closes_lem}
use Rattle.rounds.proofs.mixed_closes.Goals as goal

pub returns : goal.returns
returns c = mixed_closes_lem
