use Rattle.book.proofs.Lines.{lines_tighten_lem}
use Rattle.book.proofs.lines_tighten.Goals as goal

pub returns : goal.returns
returns c = lines_tighten_lem
