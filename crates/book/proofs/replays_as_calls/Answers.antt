use Rattle.book.proofs.AsCalls.{replays_as_calls_lem}
use Rattle.book.proofs.replays_as_calls.Goals as goal

pub returns : goal.returns
returns c = replays_as_calls_lem
