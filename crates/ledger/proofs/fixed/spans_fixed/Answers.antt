use Rattle.ledger.proofs.Fixing.{fixed_spans}
use Rattle.ledger.proofs.fixed.spans_fixed.Goals as goal

pub returns : goal.returns
returns c = fixed_spans
