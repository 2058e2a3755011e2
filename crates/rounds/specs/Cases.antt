-- Small cases, worked out: what the definitions give on claimants that can be followed by hand.
-- In the first three the floors are 0 and every span is closed at the sum of the amounts.
use Rattle.std.specs.Prelude.{◌≡◌, ℕ, ◌≤◌, List, [], ◌∷◌, slice_index, slice_index_or}
use Rattle.rounds.specs.declared.span.Span.{Span}
use Rattle.rounds.specs.Rounds.{Claimant, load, message, Low, High}
use Rattle.rounds.specs.Spans.{closed_at}

abbrev pub on : List ℕ → Claimant
on row = record { row = row; floor = 0 }

abbrev pub amounts : List ℕ → ℕ → ℕ
amounts xs i = slice_index xs i

-- Each slot knows the sum of the amounts there.
abbrev pub exact : List Claimant → (ℕ → ℕ) → ℕ → Span
exact cs amount s = closed_at (load cs amount s)

-- Claimant i is known to lie from `low` to `high` after R rounds.
abbrev pub FromTo : List Claimant → (ℕ → Span) → ℕ → ℕ → ℕ → ℕ → Type 0
FromTo cs spans R i low high = (Low cs spans R i ≡ low) × (High cs spans R i ≡ high)

-- Two claimants, with 7 and 5, that share one slot: at R = 2 both are known.
abbrev pub chain : List Claimant
chain = on (0 ∷ (1 ∷ (2 ∷ []))) ∷ (on (2 ∷ (3 ∷ (4 ∷ []))) ∷ [])

abbrev pub chain_spans : ℕ → Span
chain_spans = exact chain (amounts (7 ∷ (5 ∷ [])))

abbrev pub ChainCloses : Type 0
ChainCloses = FromTo chain chain_spans 1 0 0 7 × FromTo chain chain_spans 1 1 0 5
    × FromTo chain chain_spans 2 0 7 7 × FromTo chain chain_spans 2 1 5 5

-- The same two on one row, a knot: only their sum is ever known.
abbrev pub twins : List Claimant
twins = on (0 ∷ (1 ∷ (2 ∷ []))) ∷ (on (0 ∷ (1 ∷ (2 ∷ []))) ∷ [])

abbrev pub twin_spans : ℕ → Span
twin_spans = exact twins (amounts (7 ∷ (5 ∷ [])))

abbrev pub TwinsStayOpen : Type 0
TwinsStayOpen = (R : ℕ) → 1 ≤ R → FromTo twins twin_spans R 0 0 12 × FromTo twins twin_spans R 1 0 12

-- Three claimants, with 4, 2 and 1, any two of which share two slots. The first one's round 1 message to slot 0
-- is the least reply of slots 1 and 2, which is 6; slot 0's own reply is 5 and does not count.
abbrev pub three : List Claimant
three = on (0 ∷ (1 ∷ (2 ∷ []))) ∷ (on (1 ∷ (2 ∷ (3 ∷ []))) ∷ (on (0 ∷ (2 ∷ (3 ∷ []))) ∷ []))

abbrev pub three_spans : ℕ → Span
three_spans = exact three (amounts (4 ∷ (2 ∷ (1 ∷ []))))

abbrev pub ThreeNarrow : Type 0
ThreeNarrow = FromTo three three_spans 2 0 3 5 × FromTo three three_spans 2 1 1 3 × FromTo three three_spans 2 2 0 3
    × (message three three_spans 1 0 0 ≡ 6)

-- Rows of two and three slots, floors 0 and 1, and open slots: amounts 4 and 2 close through slots 0 and 1 alone,
-- from R = 3 on and not before, as two claimants may want more than two rounds. The open slots have the low 0,
-- so the second one's round 2 message to slot 1 is its floor.
abbrev pub mixed : List Claimant
mixed = on (0 ∷ (1 ∷ [])) ∷ (record { row = 1 ∷ (2 ∷ (3 ∷ [])); floor = 1 } ∷ [])

abbrev pub mixed_spans : ℕ → Span
mixed_spans s = slice_index_or (closed_at 4 ∷ (closed_at 6 ∷ [])) s (record { low = 0; high = 9 })

abbrev pub MixedCloses : Type 0
MixedCloses = ((R : ℕ) → 3 ≤ R → FromTo mixed mixed_spans R 0 4 4 × FromTo mixed mixed_spans R 1 2 2)
    × FromTo mixed mixed_spans 2 1 2 6 × (message mixed mixed_spans 2 1 1 ≡ 1)
