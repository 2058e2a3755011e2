-- What a whole list of calls comes to: the totals are the sums of the units that were accepted, and the rows
-- are those that were accepted, in their order. Calls and answers are read side by side.
use Rattle.std.specs.Prelude.{◌≡◌, ℕ, ◌+◌, Bool, true, false, cond, List, [], ◌∷◌, ◌++◌, ◌==◌, slice_index}
use Rattle.ledger.specs.Ledger.{Asked, wire, add, settle, Said, wired, added, settled, denied}
use Rattle.ledger.specs.Ledger.{rows, totals, opened, answers, closing}

-- whatever was not denied was accepted
abbrev pub accepted : Said → Bool
accepted (wired slot) = true
accepted (added w) = true
accepted (settled R) = true
accepted (denied why) = false

-- the units that one call brings slot i: those of an accepted add to it
abbrev pub units : ℕ → Asked → Said → ℕ
units i (wire slots) said = 0
units i (add slot n) said = cond (accepted said) (cond (i == slot) n 0) 0
units i (settle R room) said = 0

abbrev pub units_for : ℕ → List Asked → List Said → ℕ
units_for i [] said = 0
units_for i (a ∷ calls) [] = 0
units_for i (a ∷ calls) (r ∷ said) = units i a r + units_for i calls said

-- the rows that one call brings: the slots of an accepted wire
abbrev pub new_rows : Asked → Said → List (List ℕ)
new_rows (wire slots) said = cond (accepted said) (slots ∷ []) []
new_rows (add slot n) said = []
new_rows (settle R room) said = []

abbrev pub rows_from : List Asked → List Said → List (List ℕ)
rows_from [] said = []
rows_from (a ∷ calls) [] = []
rows_from (a ∷ calls) (r ∷ said) = new_rows a r ++ rows_from calls said

-- every slot's total, and the rows; of a number that no slot has, both sides of the first are 0
pub record AddsUp (N : ℕ) (calls : List Asked) : Type 0 where
  pub totals : (i : ℕ) → slice_index (totals (closing (opened N) calls)) i ≡ units_for i calls (answers (opened N) calls)
  pub rows : rows (closing (opened N) calls) ≡ rows_from calls (answers (opened N) calls)

abbrev pub TotalsAddUp : Type 0
TotalsAddUp = (N : ℕ) (calls : List Asked) → AddsUp N calls
