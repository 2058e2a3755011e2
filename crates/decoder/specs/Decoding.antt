-- What a decoding answers, and what it leaves in the memory that it was lent.
use Rattle.std.specs.Prelude.{◌≡◌, ℕ, ◌<◌, ◌≤◌, false, cond, List, drop, Ok, Err, Result, nat_lt, slice_index}
use Rattle.rounds.specs.declared.span.Span.{Span}
use Rattle.rounds.specs.Rounds.{Claimant, row_of, filled, TakesPart, Low, High}
use Rattle.decoder.specs.declared.refusal.Refusal.{Refusal}
use Rattle.decoder.specs.declared.refusal.Refusal.TheVariants.{Rounds, Area}

-- The number under which each refusal is known; no case carries a value.
abbrev pub number : Refusal → ℕ
number Rounds = 3
number Area = 4

-- What a decoding told: its rounds, or the number of the refusal.
abbrev pub told : Result ℕ Refusal → Result ℕ ℕ
told (Ok rounds) = Ok rounds
told (Err why) = Err (number why)

-- What it is to tell for R rounds and a work area of `room` numbers.
abbrev pub answer : ℕ → ℕ → Result ℕ ℕ
answer R room = cond (nat_lt 2048 R) (Err 3) (cond (nat_lt room 7168) (Err 4) (Ok R))

-- Claimant i takes no part, or there is none of that number.
abbrev pub Absent : List Claimant → ℕ → Type 0
Absent cs i = filled (row_of cs i) ≡ false

-- A table has the answers of the claimants that take part, and its other entries are as before.
pub record Tabled (cs : List Claimant) (answer : ℕ → ℕ) (before table : List ℕ) : Type 0 where
  pub told : (i : ℕ) → TakesPart cs i → slice_index table i ≡ answer i
  pub kept : (i : ℕ) → Absent cs i → slice_index table i ≡ slice_index before i

-- An accepted decoding: the tables have the bounds, the highs from R = 1 and not before;
-- the work area's first 7,168 numbers are 0, and the others as they were. A prime marks what stands there afterwards.
pub record Decoded (cs : List Claimant) (spans : ℕ → Span) (R : ℕ) (work work' lows lows' highs highs' : List ℕ) : Type 0 where
  pub low : Tabled cs (Low cs spans R) lows lows'
  pub high : 1 ≤ R → Tabled cs (High cs spans R) highs highs'
  pub high_untouched : R ≡ 0 → highs' ≡ highs
  pub area_clear : (k : ℕ) → k < 7168 → slice_index work' k ≡ 0
  pub area_kept : drop 7168 work' ≡ drop 7168 work
