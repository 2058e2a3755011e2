-- Lists of totals, one for each slot.
use Rattle.std.specs.Prelude.{ℕ, ◌+◌, List, [], ◌∷◌, slice_index, slice_set}

-- what all slots hold together
abbrev pub total : List ℕ → ℕ
total [] = 0
total (x ∷ xs) = x + total xs

-- n more at one slot
abbrev pub more : List ℕ → ℕ → ℕ → List ℕ
more T slot n = slice_set T slot (slice_index T slot + n)

-- n more at each slot of a row
abbrev pub spread : List ℕ → List ℕ → ℕ → List ℕ
spread T [] n = T
spread T (slot ∷ row) n = spread (more T slot n) row n
