-- What a whole list of calls comes to: the units of a flow are the sum of the amounts that were accepted under its
-- identifier, direct or in traces, and the flows are those that were enrolled. Calls and answers are read side by side.
use Rattle.std.specs.Prelude.{◌≡◌, ℕ, ◌+◌, ◌^◌, ◌<◌, ◌≤◌, Bool, true, cond, List, [], ◌∷◌, ◌++◌, map, length, take, ◌==◌, slice_index, slice_index_or}
use Rattle.rounds.specs.Laws.{Distinct}
use Rattle.store.specs.Meaning.{Within}
use Rattle.trace.specs.Big.{big}
use Rattle.trace.specs.Layout.{Entry, enrol, amount, remark}
use Rattle.book.specs.Reading.{reading}
use Rattle.book.specs.Book.{Asked, to_enrol, to_record, to_replay, Said, enrolled, recorded, replayed, stopped, denied}
use Rattle.book.specs.Book.{Flow, Book, identifiers, rows, total, weight, units_at, Wired}
use Rattle.book.specs.Book.{opened, accepted, words, answers, closing}

-- which identifiers are asked for: one of them, or all
abbrev pub only : ℕ → ℕ → Bool
only id other = id == other

abbrev pub every : ℕ → Bool
every id = true

-- the amounts of some records of a trace under these identifiers
abbrev pub brought : (ℕ → Bool) → Entry → ℕ
brought which (enrol id slots) = 0
brought which (amount id n) = cond (which (big id)) (big n) 0
brought which (remark text) = 0

abbrev pub brought_by : (ℕ → Bool) → List Entry → ℕ
brought_by which [] = 0
brought_by which (e ∷ es) = brought which e + brought_by which es

-- how many records of its trace a replay took
abbrev pub count : Said → ℕ
count (enrolled i) = 0
count (recorded all) = 0
count (replayed k) = k
count (stopped k) = k
count (denied why) = 0

-- the amounts that one call brought under these identifiers: that of an accepted record, and those of the records that
-- a replay took
abbrev pub amounts : (ℕ → Bool) → Asked → Said → ℕ
amounts which (to_enrol id slots) said = 0
amounts which (to_record id n) said = cond (accepted said) (cond (which id) n 0) 0
amounts which (to_replay bytes) said = brought_by which (take (count said) (reading bytes).entries)

abbrev pub amounts_of : (ℕ → Bool) → List Asked → List Said → ℕ
amounts_of which [] said = 0
amounts_of which (a ∷ calls) [] = 0
amounts_of which (a ∷ calls) (r ∷ said) = amounts which a r + amounts_of which calls said

-- the identifiers and rows that are enrolled by some records of a trace, by one call, and by many
abbrev pub named : Flow → ℕ × List ℕ
named flow = (flow.identifier, flow.row)

abbrev pub enrolled_by : List Entry → List (ℕ × List ℕ)
enrolled_by [] = []
enrolled_by (enrol id slots ∷ es) = (big id, words slots) ∷ enrolled_by es
enrolled_by (amount id n ∷ es) = enrolled_by es
enrolled_by (remark text ∷ es) = enrolled_by es

abbrev pub enrolments : Asked → Said → List (ℕ × List ℕ)
enrolments (to_enrol id slots) said = cond (accepted said) ((id, slots) ∷ []) []
enrolments (to_record id n) said = []
enrolments (to_replay bytes) said = enrolled_by (take (count said) (reading bytes).entries)

abbrev pub enrolments_of : List Asked → List Said → List (ℕ × List ℕ)
enrolments_of [] said = []
enrolments_of (a ∷ calls) [] = []
enrolments_of (a ∷ calls) (r ∷ said) = enrolments a r ++ enrolments_of calls said

-- what every book shows that calls have brought about
pub record Kept (N W : ℕ) (B : Book) : Type 0 where
  pub beneath : B.beneath ≡ N
  pub burden : B.burden ≡ W
  pub few : length B.flows ≤ 1024
  -- over a store that had weight nothing is enrolled
  pub unloaded : 0 < W → B.flows ≡ []
  -- no two flows have the same identifier
  pub apart : Distinct (identifiers B)
  pub wired : Wired B
  pub within : (i : ℕ) → i < length B.flows → Within N (slice_index_or (rows B) i [])
  -- what the store weighed and what the flows weigh stay under the ceiling
  pub light : W ≤ 2 ^ 40 → W + weight B ≤ 2 ^ 40

-- what the calls and their answers, side by side, come to in the book
pub record AddsUp (N W : ℕ) (calls : List Asked) (said : List Said) (B : Book) : Type 0 where
  -- the units of each flow are what was accepted under its identifier
  pub units : (i : ℕ) → i < length B.flows → units_at B i ≡ amounts_of (only (slice_index (identifiers B) i)) calls said
  -- the total, which is the sum of the units, is all that was accepted
  pub total : total B ≡ amounts_of every calls said
  -- the flows are those whose enrolling was accepted, in that order
  pub flows : map named B.flows ≡ enrolments_of calls said
  pub kept : Kept N W B

abbrev pub UnitsAddUp : Type 0
UnitsAddUp = (N W : ℕ) (calls : List Asked) → AddsUp N W calls (answers (opened N W) calls) (closing (opened N W) calls)
