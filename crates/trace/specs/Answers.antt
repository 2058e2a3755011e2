-- What a reader answers: the records of the trace in order, then for ever what stands behind them.
use Rattle.std.specs.Prelude.{◌≡◌, ℕ, List, length, take, Ok, Err, Result}
use Rattle.std.specs.List.{slice_get, flat_map}
use Rattle.std.specs.Option.{option_map, unwrap_or}
use Rattle.trace.specs.declared.fault.Fault.{Fault}
use Rattle.trace.specs.declared.fault.Fault.TheVariants.{UnknownKind, CutShort, AfterEnd, NoEnd}
use Rattle.trace.specs.declared.record.Record.{Record}
use Rattle.trace.specs.declared.record.Record.TheVariants.{Enrol, Amount, Remark, End}
use Rattle.trace.specs.declared.reader.Reader.{Reader}
use Rattle.trace.specs.Layout.{Entry, enrol, amount, remark, Ending, end, unknown, short, trailing, nothing, Reading, lay_entry, Lays}

-- an answer by what it says
pub data Answer : Type 0 where
  -- a record at its place
  entry : ℕ → Entry → Answer
  -- the end at its place
  ended : ℕ → Answer
  -- a fault: its number and its place
  fault : ℕ → ℕ → Answer

-- the number under which each fault is known, and the place that it carries
abbrev pub number : Fault → ℕ
number (UnknownKind place) = 11
number (CutShort place) = 12
number (AfterEnd place) = 13
number (NoEnd place) = 14

abbrev pub place_of : Fault → ℕ
place_of (UnknownKind place) = place
place_of (CutShort place) = place
place_of (AfterEnd place) = place
place_of (NoEnd place) = place

abbrev pub told_fault : Fault → Answer
told_fault why = fault (number why) (place_of why)

abbrev pub told_record : Record → Answer
told_record (Enrol place id slots) = entry place (enrol id.now slots.now)
told_record (Amount place id units) = entry place (amount id.now units.now)
told_record (Remark place text) = entry place (remark text.now)
told_record (End place) = ended place

abbrev pub told : Result Record Fault → Answer
told (Ok found) = told_record found
told (Err why) = told_fault why

-- what is answered where the records are over
abbrev pub outcome : Ending → ℕ → Answer
outcome end place = ended place
outcome (unknown kind rest) place = fault 11 place
outcome (short kind rest) place = fault 12 place
outcome (trailing byte rest) place = fault 13 place
outcome nothing place = fault 14 place

-- where record k begins; the place behind the last record where there are no more than k
abbrev pub place : Reading → ℕ → ℕ
place R k = length (flat_map lay_entry (take k R.entries))

-- the k-th answer: record k, or the outcome where there are no more than k
abbrev pub answer : Reading → ℕ → Answer
answer R k = unwrap_or (option_map (entry (place R k)) (slice_get R.entries k)) (outcome R.ending (place R k))

-- k answers have been given of the trace that R lays out, and the place is that of the next
pub record Given (R : Reading) (k : ℕ) (trace : List ℕ) (at : ℕ) : Type 0 where
  pub lays : Lays R trace
  pub next : at ≡ place R k

-- the reader goes through the trace that R lays out, and has given k answers
abbrev pub Stands : Reading → ℕ → Reader → Type 0
Stands R k reader = Given R k reader.trace.now reader.place
