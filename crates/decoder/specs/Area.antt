-- How the messages of a round stand in the work area: the private functions' contracts.
use Rattle.std.specs.Prelude.{◌≡◌, ℕ, zero, suc, cond, List, [], ◌∷◌, ◌==◌, slice_index_or}
use Rattle.rounds.specs.declared.span.Span.{Span}
use Rattle.rounds.specs.Rounds.{Claimant, row_of, Uses, message}

-- What goes to slot s, where `msgs` are the messages to the slots of a row; nothing, and so 0, if the row does not have it.
abbrev pub to : ℕ → List ℕ → List ℕ → ℕ
to s [] msgs = 0
to s (a ∷ row) [] = 0
to s (a ∷ row) (x ∷ msgs) = cond (s == a) x (to s row msgs)

-- A list without its element at a place.
abbrev pub but : ℕ → List ℕ → List ℕ
but p [] = []
but zero (x ∷ xs) = xs
but (suc p) (x ∷ xs) = x ∷ but p xs

-- The messages of round t stand in an area, those of each claimant side by side.
abbrev pub Held : List Claimant → (ℕ → Span) → ℕ → List (List ℕ) → Type 0
Held cs spans t msgs = (j s : ℕ) → Uses cs j s → to s (row_of cs j) (slice_index_or msgs j []) ≡ message cs spans t j s
