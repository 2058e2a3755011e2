-- What a claimant's row keeps to, so that it can stand in the table of claimants.
use Rattle.std.specs.Prelude.{ℕ, Bool, true, List, [], Some, None, Option, nat_lt}
use Rattle.std.specs.List.{list_all}
use Rattle.wiring.specs.Rising.{is_row}

-- A claimant that takes no part has no row, and no slots.
abbrev pub slots_in : Option (List ℕ) → List ℕ
slots_in None = []
slots_in (Some row) = row

-- A row is three slots that rise.
abbrev pub rises : Option (List ℕ) → Bool
rises None = true
rises (Some row) = is_row row

-- Whether each slot is below 1,024.
abbrev pub reach : List ℕ → Bool
reach row = list_all (λ s. nat_lt s 1024) row

abbrev pub within : Option (List ℕ) → Bool
within row = reach (slots_in row)
