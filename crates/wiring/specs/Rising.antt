-- Which lists of slot numbers make a row: three numbers in strictly rising order.
use Rattle.std.specs.Prelude.{ℕ, Bool, true, ◌&&◌, List, [], ◌∷◌, length, ◌==◌, nat_lt}

-- each number is below the next
abbrev pub rising : List ℕ → Bool
rising [] = true
rising (a ∷ []) = true
rising (a ∷ (b ∷ rest)) = nat_lt a b && rising (b ∷ rest)

abbrev pub is_row : List ℕ → Bool
is_row slots = length slots == 3 && rising slots
