-- Counts of the records so far, one record more at a time.
use Rattle.std.proofs.Common.{◌≡◌, ℕ, ◌+◌, List, [], ◌∷◌, ◌++◌, arith}
use Rattle.trace.specs.declared.survey.Counts.{Counts}
use Rattle.trace.specs.Layout.{Entry}
use Rattle.trace.specs.Survey.{enrols_in, amounts_in, remarks_in, units_in, total, Counted}

total_push : (count : Entry → ℕ) (es : List Entry) (e : Entry) → total count (es ++ e ∷ []) ≡ total count es + count e
total_push count [] e = omega arith
total_push count (d ∷ es) e = omega (arith, total_push count es e)

-- the counts after a record are those before it, each with what the record counts for
pub counted_push : (es : List Entry) (e : Entry) (before after : Counts) → Counted es before
    → after.enrols ≡ before.enrols + enrols_in e → after.amounts ≡ before.amounts + amounts_in e
    → after.remarks ≡ before.remarks + remarks_in e → after.units ≡ before.units + units_in e
    → Counted (es ++ e ∷ []) after
counted_push es e before after so enrols amounts remarks units = record {
  enrols = omega (arith, total_push enrols_in es e);
  amounts = omega (arith, total_push amounts_in es e);
  remarks = omega (arith, total_push remarks_in es e);
  units = omega (arith, total_push units_in es e);
}
