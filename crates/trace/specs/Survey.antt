-- What a survey of a trace tells: the records of each kind, the units announced, and the outcome.
use Rattle.std.specs.Prelude.{◌≡◌, ℕ, ◌+◌, ◌*◌, ◌^◌, ◌≤◌, List, [], ◌∷◌, length, Ok, Err, Result}
use Rattle.trace.specs.declared.survey.Counts.{Counts}
use Rattle.trace.specs.declared.survey.Survey.{Survey}
use Rattle.trace.specs.declared.fault.Fault.{Fault}
use Rattle.trace.specs.Big.{big}
use Rattle.trace.specs.Layout.{Entry, enrol, amount, remark, Reading}
use Rattle.trace.specs.Answers.{Answer, ended, told_fault, outcome, place}

-- what a record counts for
abbrev pub enrols_in : Entry → ℕ
enrols_in (enrol id slots) = 1
enrols_in (amount id units) = 0
enrols_in (remark text) = 0

abbrev pub amounts_in : Entry → ℕ
amounts_in (enrol id slots) = 0
amounts_in (amount id units) = 1
amounts_in (remark text) = 0

abbrev pub remarks_in : Entry → ℕ
remarks_in (enrol id slots) = 0
remarks_in (amount id units) = 0
remarks_in (remark text) = 1

abbrev pub units_in : Entry → ℕ
units_in (enrol id slots) = 0
units_in (amount id units) = big units
units_in (remark text) = 0

abbrev pub total : (Entry → ℕ) → List Entry → ℕ
total count [] = 0
total count (e ∷ es) = count e + total count es

pub record Counted (es : List Entry) (counts : Counts) : Type 0 where
  pub enrols : counts.enrols ≡ total enrols_in es
  pub amounts : counts.amounts ≡ total amounts_in es
  pub remarks : counts.remarks ≡ total remarks_in es
  pub units : counts.units ≡ total units_in es

-- as much as n records can come to
pub record Within (n : ℕ) (counts : Counts) : Type 0 where
  pub enrols : counts.enrols ≤ n
  pub amounts : counts.amounts ≤ n
  pub remarks : counts.remarks ≤ n
  pub units : counts.units ≤ n * 2 ^ 64

-- an outcome by what it says
abbrev pub told_outcome : Result ℕ Fault → Answer
told_outcome (Ok at) = ended at
told_outcome (Err why) = told_fault why

-- a survey of the trace that R lays out
pub record Surveyed (R : Reading) (survey : Survey) : Type 0 where
  pub counts : Counted R.entries survey.counts
  pub ends : told_outcome survey.outcome ≡ outcome R.ending (place R (length R.entries))
