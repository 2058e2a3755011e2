-- What makes a row fit for the rounds: slots in rising order have no slot twice.
use Rattle.std.proofs.Common.{◌≡◌, ℕ, ◌≤◌, true, false, eqb, ltb, List, [], ◌∷◌, length, refl, arith}
use Rattle.std.proofs.lemmas.Bool.{and_parts, eqb-true, ltb-true, ne_eqb, or_from}
use Rattle.rounds.specs.Rounds.{has, filled}
use Rattle.rounds.specs.Laws.{Distinct, Proper}
use Rattle.wiring.specs.Rising.{rising, is_row}

-- what does not pass the first of rising slots is not among the others
rising_above : (a : ℕ) (row : List ℕ) → rising (a ∷ row) ≡ true → (slot : ℕ) → slot ≤ a → has slot row ≡ false
rising_above a [] up slot h = refl
rising_above a (b ∷ row) up slot h =
    let both = and_parts (ltb a b) (rising (b ∷ row)) up in
    let more = ltb-true a b both.0 in
    or_from (eqb slot b) (has slot row) (ne_eqb slot b (λ e. omega arith)) (rising_above b row both.1 slot (omega arith))

rising_distinct : (row : List ℕ) → rising row ≡ true → Distinct row
rising_distinct [] up = tt
rising_distinct (a ∷ []) up = (refl, tt)
rising_distinct (a ∷ (b ∷ row)) up =
    (rising_above a (b ∷ row) up a (omega arith), rising_distinct (b ∷ row) (and_parts (ltb a b) (rising (b ∷ row)) up).1)

pub row_length : (row : List ℕ) → is_row row ≡ true → length row ≡ 3
row_length row h = eqb-true (length row) 3 (and_parts (eqb (length row) 3) (rising row) h).0

pub row_distinct : (row : List ℕ) → is_row row ≡ true → Distinct row
row_distinct row h = rising_distinct row (and_parts (eqb (length row) 3) (rising row) h).1

pub row_proper : (row : List ℕ) → is_row row ≡ true → Proper row
row_proper [] h = tt
row_proper (a ∷ []) h = absurd (omega (arith, row_length (a ∷ []) h))
row_proper (a ∷ (b ∷ row)) h = row_distinct (a ∷ (b ∷ row)) h

pub row_filled : (row : List ℕ) → is_row row ≡ true → filled row ≡ true
row_filled [] h = absurd (omega (arith, row_length [] h))
row_filled (a ∷ row) h = refl
