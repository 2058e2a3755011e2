-- The decoding rounds: what claimants and slots tell each other, and the bounds Low and High that come of it.
-- Rows are lists of slots of any length, and each claimant has a floor of its own.
use Rattle.std.specs.Prelude.{◌≡◌, ℕ, zero, suc, ◌+◌, ◌-◌, min, max, Bool, true, false, cond, not, ◌||◌, List, [], ◌∷◌, map, length, ◌==◌, slice_index_or}
use Rattle.rounds.specs.declared.span.Span.{Span}

-- A claimant uses the slots of its row, and has at least its floor.
pub record Claimant : Type 0 where
  pub row : List ℕ
  pub floor : ℕ

-- Claimants and slots go by number. Past the last claimant there is nobody.
abbrev pub nobody : Claimant
nobody = record { row = []; floor = 0 }

abbrev pub row_of : List Claimant → ℕ → List ℕ
row_of cs i = (slice_index_or cs i nobody).row

abbrev pub floor_of : List Claimant → ℕ → ℕ
floor_of cs i = (slice_index_or cs i nobody).floor

-- Whether a row has slot s, and the other slots of the row.
abbrev pub has : ℕ → List ℕ → Bool
has s [] = false
has s (a ∷ row) = s == a || has s row

abbrev pub besides : ℕ → List ℕ → List ℕ
besides s [] = []
besides s (a ∷ row) = cond (a == s) (besides s row) (a ∷ besides s row)

-- Claimant i has slot s in its row.
abbrev pub Uses : List Claimant → ℕ → ℕ → Type 0
Uses cs i s = has s (row_of cs i) ≡ true

-- A claimant whose row is empty takes no part.
abbrev pub filled : List ℕ → Bool
filled [] = false
filled (a ∷ row) = true

abbrev pub TakesPart : List Claimant → ℕ → Type 0
TakesPart cs i = filled (row_of cs i) ≡ true

-- f 0 + .. + f (n - 1)
abbrev pub sum : ℕ → (ℕ → ℕ) → ℕ
sum zero f = 0
sum (suc n) f = sum n f + f n

-- What claimant j brings to slot s, where m j is its message there, or its amount.
abbrev pub share : List Claimant → (ℕ → ℕ) → ℕ → ℕ → ℕ
share cs m s j = cond (has s (row_of cs j)) (m j) 0

-- The sum at slot s of all claimants.
abbrev pub load : List Claimant → (ℕ → ℕ) → ℕ → ℕ
load cs m s = sum (length cs) (share cs m s)

-- The sum at slot s of the claimants other than i.
abbrev pub rest : List Claimant → (ℕ → ℕ) → ℕ → ℕ → ℕ
rest cs m s i = sum (length cs) (λ j. cond (j == i) 0 (share cs m s j))

abbrev pub odd : ℕ → Bool
odd zero = false
odd (suc t) = not (odd t)

-- An odd round bounds from above: it starts from the highs and takes the least reply.
-- An even round bounds from below: it starts from the lows and takes the greatest. The flag `up` tells which.
abbrev pub edge : Bool → Span → ℕ
edge true span = span.high
edge false span = span.low

abbrev pub tighter : Bool → ℕ → ℕ → ℕ
tighter true x y = min x y
tighter false x y = max x y

-- The least or greatest of some replies. There is none of no replies, and 0 stands for it.
abbrev pub tightest : Bool → List ℕ → ℕ
tightest up [] = 0
tightest up (x ∷ []) = x
tightest up (x ∷ (y ∷ replies)) = tighter up x (tightest up (y ∷ replies))

-- The reply of slot s to claimant i, where m j s is the last message of claimant j to slot s:
-- the slot's high or low less the messages of the others there, and never under the floor.
abbrev pub reply : List Claimant → (ℕ → Span) → Bool → (ℕ → ℕ → ℕ) → ℕ → ℕ → ℕ
reply cs spans up m i s = max (floor_of cs i) (edge up (spans s) - rest cs (λ j. m j s) s i)

-- What claimant i takes from the replies of some slots.
abbrev pub gathered : List Claimant → (ℕ → Span) → Bool → (ℕ → ℕ → ℕ) → ℕ → List ℕ → ℕ
gathered cs spans up m i slots = tightest up (map (reply cs spans up m i) slots)

-- The message of claimant i to slot s in round t: its floor at first, then from the replies of its other slots.
abbrev pub message : List Claimant → (ℕ → Span) → ℕ → ℕ → ℕ → ℕ
message cs spans zero i s = floor_of cs i
message cs spans (suc t) i s = gathered cs spans (odd (suc t)) (message cs spans t) i (besides s (row_of cs i))

-- The estimate of claimant i in round t: its floor at first, then from the replies of all its slots.
abbrev pub estimate : List Claimant → (ℕ → Span) → ℕ → ℕ → ℕ
estimate cs spans zero i = floor_of cs i
estimate cs spans (suc t) i = gathered cs spans (odd (suc t)) (message cs spans t) i (row_of cs i)

-- The last odd round up to R, which is there from R = 1, and the last even one, which is 0 below R = 2.
abbrev pub last_odd : ℕ → ℕ
last_odd zero = zero
last_odd (suc t) = cond (odd t) t (suc t)

abbrev pub last_even : ℕ → ℕ
last_even zero = zero
last_even (suc t) = cond (odd t) (suc t) t

-- The bounds of claimant i after R rounds. High is one from R = 1; Low is the floor below R = 2.
abbrev pub High : List Claimant → (ℕ → Span) → ℕ → ℕ → ℕ
High cs spans R i = estimate cs spans (last_odd R) i

abbrev pub Low : List Claimant → (ℕ → Span) → ℕ → ℕ → ℕ
Low cs spans R i = estimate cs spans (last_even R) i
