use Rattle.book.proofs.AddingUp.{units_add_up_lem}
use Rattle.book.proofs.units_add_up.Goals as goal

pub returns : goal.returns
returns c = units_add_up_lem
