use Rattle.decoder.proofs.Stepping.{odd_rem}
use Rattle.decoder.proofs.round.Round.up.Goals as goal

pub returns : goal.returns
returns c = odd_rem c.args.self.now.past
