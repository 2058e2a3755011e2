-- What reaches each slot of a store from above, where some rows bring an amount each.
use Rattle.std.specs.Prelude.{ℕ, zero, suc, cond, List, [], ◌∷◌, length, slice_index_or}
use Rattle.rounds.specs.Rounds.{has, sum}

-- f 0, f 1, .. f (n - 1)
abbrev pub listed : (n : ℕ) → {X : Type 0} → (ℕ → X) → List X
listed zero f = []
listed (suc n) f = f 0 ∷ listed n (λ k. f (suc k))

-- what reaches a slot: the amounts of the rows that have it
abbrev pub reaching : List (List ℕ) → (ℕ → ℕ) → ℕ → ℕ
reaching rows amount slot = sum (length rows) (λ i. cond (has slot (slice_index_or rows i [])) (amount i) 0)

-- the same of each of N slots
abbrev pub slot_sums : ℕ → List (List ℕ) → (ℕ → ℕ) → List ℕ
slot_sums N rows amount = listed N (reaching rows amount)
