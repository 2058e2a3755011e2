use Rattle.rounds.proofs.Samples.{twins_stay_open_lem}
use Rattle.rounds.proofs.twins_stay_open.Goals as goal

pub returns : goal.returns
returns c = twins_stay_open_lem
