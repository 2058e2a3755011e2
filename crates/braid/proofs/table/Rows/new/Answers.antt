use Rattle.braid.proofs.Tabling.{tabled_none}
use Rattle.braid.proofs.table.Rows.new.Goals as goal

pub invariant_of-result : goal.invariant_of-result
invariant_of-result c = tabled_none c.default.result c.default.ensures
