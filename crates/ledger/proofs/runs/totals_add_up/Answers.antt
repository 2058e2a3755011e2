use Rattle.ledger.proofs.AddingUp.{totals_add_up_lem}
use Rattle.ledger.proofs.runs.totals_add_up.Goals as goal

pub returns : goal.returns
returns c = totals_add_up_lem
