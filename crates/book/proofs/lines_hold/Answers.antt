use Rattle.book.proofs.Lines.{lines_hold_lem}
use Rattle.book.proofs.lines_hold.Goals as goal

pub returns : goal.returns
returns c = lines_hold_lem
