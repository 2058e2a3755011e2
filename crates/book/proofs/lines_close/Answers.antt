use Rattle.book.proofs.Lines.{lines_close_lem}
use Rattle.book.proofs.lines_close.Goals as goal

pub returns : goal.returns
returns c = lines_close_lem
