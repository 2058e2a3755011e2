-- Rows that are made, as the rounds take them, and rows of slots that are there.
use Rattle.std.proofs.Common.{◌≡◌, ℕ, ◌<◌, true, eqb, List, [], ◌∷◌, length, Some, refl, inl, inr, arith}
use Rattle.std.proofs.lemmas.Bool.{and_parts, eqb-true}
use Rattle.rounds.specs.Rounds.{has, filled}
use Rattle.rounds.specs.Laws.{Distinct, Proper}
use Rattle.rounds.proofs.Rows.{has_none, has_cons}
use Rattle.decoder.proofs.Wired as wired
use Rattle.store.specs.Meaning.{Within}
use Rattle.wiring.specs.Rising.{rising, is_row}

pub row_length : (row : List ℕ) → is_row row ≡ true → length row ≡ 3
row_length row h = eqb-true (length row) 3 (and_parts (eqb (length row) 3) (rising row) h).0

pub row_distinct : (row : List ℕ) → is_row row ≡ true → Distinct row
row_distinct row h = wired.row_distinct (Some row) h

pub row_proper : (row : List ℕ) → is_row row ≡ true → Proper row
row_proper [] h = tt
row_proper (a ∷ []) h = absurd (omega (arith, row_length (a ∷ []) h))
row_proper (a ∷ (b ∷ row)) h = row_distinct (a ∷ (b ∷ row)) h

pub row_filled : (row : List ℕ) → is_row row ≡ true → filled row ≡ true
row_filled [] h = absurd (omega (arith, row_length [] h))
row_filled (a ∷ row) h = refl

-- a slot of a row whose slots are all there
pub within_has : (N : ℕ) (row : List ℕ) (slot : ℕ) → Within N row → has slot row ≡ true → slot < N
within_has N [] slot w h = absurd (has_none slot h)
within_has N (a ∷ row) slot w h = elim (has_cons slot a row h) [
  | inl e ↦ omega (arith, w.0)
  | inr k ↦ within_has N row slot w.1 k
]
