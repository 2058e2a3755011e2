-- The book of an epoch: which flows were enrolled and what was recorded for each, and what every call is to answer.
-- It knows of the store only how many slots it had and what it weighed when the epoch was opened.
use Rattle.std.specs.Prelude.{◌≡◌, ℕ, zero, suc, ◌+◌, ◌*◌, ◌^◌, ◌<◌, Bool, true, false, cond, ◌&&◌, List, [], ◌∷◌, ◌++◌, map, length, is_some, Some, None, Option, ◌==◌, nat_le, nat_lt, slice_index, slice_index_or}
use Rattle.std.specs.Option.{option_map}
use Rattle.store.specs.Sums.{reaching, slot_sums}
use Rattle.store.specs.Totals as totals
use Rattle.trace.specs.Big.{big}
use Rattle.trace.specs.Layout.{Entry, enrol, amount, remark, Ending, end, unknown, short, trailing, nothing, Reading}
use Rattle.wiring.specs.Rising.{is_row}
use Rattle.book.specs.Reading.{reading}

-- what is asked
pub data Asked : Type 0 where
  -- a flow more: identifier, slots of its row
  to_enrol : ℕ → List ℕ → Asked
  -- units for a flow: identifier, units
  to_record : ℕ → ℕ → Asked
  -- the records of a trace: its bytes
  to_replay : List ℕ → Asked

-- what is said
pub data Said : Type 0 where
  -- the number of the new flow
  enrolled : ℕ → Said
  -- the new total
  recorded : ℕ → Said
  -- how many records were taken, all that the trace has
  replayed : ℕ → Said
  -- how many records were taken before it stopped; this is refusal 15
  stopped : ℕ → Said
  -- the number of the refusal
  denied : ℕ → Said

pub record Flow : Type 0 where
  pub identifier : ℕ
  pub row : List ℕ
  -- what was recorded for it
  pub units : ℕ

pub record Book : Type 0 where
  -- how many slots the store had at the opening
  pub beneath : ℕ
  -- what the store weighed at the opening
  pub burden : ℕ
  -- the flows in the order in which they were enrolled
  pub flows : List Flow

-- a flow may have had no units at all, so that nothing more than 0 is known of it beforehand; this is our rule
abbrev pub floor : Flow → ℕ
floor flow = 0

abbrev pub identifier_of : Flow → ℕ
identifier_of flow = flow.identifier

abbrev pub row_of : Flow → List ℕ
row_of flow = flow.row

abbrev pub units_of : Flow → ℕ
units_of flow = flow.units

-- units weigh once for each slot of the row
abbrev pub weight_of : Flow → ℕ
weight_of flow = length flow.row * flow.units

abbrev pub identifiers : Book → List ℕ
identifiers B = map identifier_of B.flows

abbrev pub rows : Book → List (List ℕ)
rows B = map row_of B.flows

abbrev pub units : Book → List ℕ
units B = map units_of B.flows

abbrev pub total : Book → ℕ
total B = totals.total (units B)

abbrev pub weight : Book → ℕ
weight B = totals.total (map weight_of B.flows)

-- the units of flow i, and those that reach a slot from all flows
abbrev pub units_at : Book → ℕ → ℕ
units_at B i = slice_index (units B) i

abbrev pub reached : Book → ℕ → ℕ
reached B slot = reaching (rows B) (units_at B) slot

-- what the flows brought to each slot of the store
abbrev pub sums : Book → List ℕ
sums B = slot_sums B.beneath (rows B) (units_at B)

-- every flow is on a row
abbrev pub Wired : Book → Type 0
Wired B = (i : ℕ) → i < length B.flows → is_row (slice_index_or (rows B) i []) ≡ true

-- before any call
abbrev pub opened : ℕ → ℕ → Book
opened beneath burden = record { beneath = beneath; burden = burden; flows = [] }

-- every slot of a row is one of the first N
abbrev pub fits : ℕ → List ℕ → Bool
fits N [] = true
fits N (slot ∷ row) = nat_lt slot N && fits N row

-- which flow has an identifier: the first that has it
abbrev pub place : ℕ → List Flow → Option ℕ
place id [] = None
place id (flow ∷ flows) = cond (id == flow.identifier) (Some 0) (option_map suc (place id flows))

-- what enrol and record are to answer, the refusals in the order in which they are tried
abbrev pub enrol_says : Book → ℕ → List ℕ → Said
enrol_says B id slots =
    cond (is_row slots)
    (cond (B.burden == 0)
    (cond (nat_lt (length B.flows) 1024)
    (cond (is_some (place id B.flows)) (denied 8)
    (cond (fits B.beneath slots) (enrolled (length B.flows)) (denied 1)))
    (denied 7))
    (denied 6))
    (denied 5)

-- units for the flow at a place, or for none
abbrev pub record_there : Book → ℕ → Option ℕ → Said
record_there B n None = denied 9
record_there B n (Some i) =
    cond (nat_le (B.burden + weight B + length (slice_index_or (rows B) i []) * n) (2 ^ 40)) (recorded (total B + n)) (denied 2)

abbrev pub record_says : Book → ℕ → ℕ → Said
record_says B id n = record_there B n (place id B.flows)

-- whatever was not denied was accepted
abbrev pub accepted : Said → Bool
accepted (enrolled i) = true
accepted (recorded all) = true
accepted (replayed k) = true
accepted (stopped k) = true
accepted (denied why) = false

abbrev pub with_flows : Book → List Flow → Book
with_flows B flows = record { beneath = B.beneath; burden = B.burden; flows = flows }

-- n units more for flow i
abbrev pub grown : List Flow → ℕ → ℕ → List Flow
grown [] i n = []
grown (flow ∷ flows) zero n = record { identifier = flow.identifier; row = flow.row; units = flow.units + n } ∷ flows
grown (flow ∷ flows) (suc i) n = flow ∷ grown flows i n

abbrev pub grown_there : List Flow → Option ℕ → ℕ → List Flow
grown_there flows None n = flows
grown_there flows (Some i) n = grown flows i n

-- the book after an enrol and after a record: what is denied leaves it as it is
abbrev pub after_enrol : Book → ℕ → List ℕ → Book
after_enrol B id slots =
    cond (accepted (enrol_says B id slots))
    (with_flows B (B.flows ++ record { identifier = id; row = slots; units = 0 } ∷ []))
    B

abbrev pub after_record : Book → ℕ → ℕ → Book
after_record B id n =
    cond (accepted (record_says B id n)) (with_flows B (grown_there B.flows (place id B.flows) n)) B

-- the numbers that bytes spell two by two
abbrev pub words : List ℕ → List ℕ
words [] = []
words (a ∷ []) = []
words (a ∷ (b ∷ bytes)) = big (a ∷ (b ∷ [])) ∷ words bytes

-- one record of a trace: whether it is taken, and the book after it; remarks are passed over
abbrev pub takes : Book → Entry → Bool
takes B (enrol id slots) = accepted (enrol_says B (big id) (words slots))
takes B (amount id n) = accepted (record_says B (big id) (big n))
takes B (remark text) = true

abbrev pub after_entry : Book → Entry → Book
after_entry B (enrol id slots) = after_enrol B (big id) (words slots)
after_entry B (amount id n) = after_record B (big id) (big n)
after_entry B (remark text) = B

-- the records of a trace in their order, up to the first that is declined: how many are taken, and the book then
abbrev pub taken : Book → List Entry → ℕ
taken B [] = 0
taken B (e ∷ es) = cond (takes B e) (suc (taken (after_entry B e) es)) 0

abbrev pub after_entries : Book → List Entry → Book
after_entries B [] = B
after_entries B (e ∷ es) = cond (takes B e) (after_entries (after_entry B e) es) B

-- whether a trace ends as it should
abbrev pub ends : Ending → Bool
ends end = true
ends (unknown kind rest) = false
ends (short kind rest) = false
ends (trailing byte rest) = false
ends nothing = false

abbrev pub replay_says : Book → Reading → Said
replay_says B R =
    cond (taken B R.entries == length R.entries && ends R.ending)
    (replayed (taken B R.entries))
    (stopped (taken B R.entries))

abbrev pub answer : Book → Asked → Said
answer B (to_enrol id slots) = enrol_says B id slots
answer B (to_record id n) = record_says B id n
answer B (to_replay bytes) = replay_says B (reading bytes)

abbrev pub after : Book → Asked → Book
after B (to_enrol id slots) = after_enrol B id slots
after B (to_record id n) = after_record B id n
after B (to_replay bytes) = after_entries B (reading bytes).entries

-- a whole list of calls
abbrev pub answers : Book → List Asked → List Said
answers B [] = []
answers B (a ∷ calls) = answer B a ∷ answers (after B a) calls

abbrev pub closing : Book → List Asked → Book
closing B [] = B
closing B (a ∷ calls) = closing (after B a) calls
