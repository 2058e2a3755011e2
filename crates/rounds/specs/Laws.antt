-- What the bounds promise: they hold, they tighten with the rounds, and they close for whoever hangs in no knot.
-- Each statement is named by the contract of a public function, so that it has to be proved.
use Rattle.std.specs.Prelude.{◌≡◌, ℕ, ◌<◌, ◌≤◌, Bool, true, false, cond, ◌≢◌, List, [], ◌∷◌, length}
use Rattle.rounds.specs.declared.span.Span.{Span}
use Rattle.rounds.specs.Rounds.{Claimant, row_of, floor_of, has, Uses, filled, TakesPart, sum, load, Low, High}

-- A row has no slot twice, and is empty or has two slots or more: a claimant with one slot would have no other to hear.
abbrev pub Distinct : List ℕ → Type 0
Distinct [] = Unit {0}
Distinct (a ∷ row) = (has a row ≡ false) × Distinct row

abbrev pub Proper : List ℕ → Type 0
Proper [] = Unit {0}
Proper (a ∷ []) = ⊥
Proper (a ∷ (b ∷ row)) = Distinct (a ∷ (b ∷ row))

abbrev pub ProperRows : List Claimant → Type 0
ProperRows cs = (i : ℕ) → Proper (row_of cs i)

-- Amounts that may stand behind the spans: none is under its floor, and each slot's sum lies in its span.
-- Claimants that take no part and slots that nobody uses do not count.
pub record Fitting (cs : List Claimant) (spans : ℕ → Span) (amount : ℕ → ℕ) : Type 0 where
  pub floors : (i : ℕ) → TakesPart cs i → floor_of cs i ≤ amount i
  pub lows : (i s : ℕ) → Uses cs i s → (spans s).low ≤ load cs amount s
  pub highs : (i s : ℕ) → Uses cs i s → load cs amount s ≤ (spans s).high

-- The bounds hold: amounts that fit lie from Low to High, at every R, and for High from R = 1.
abbrev pub BoundsHold : Type 0
BoundsHold = (cs : List Claimant) (spans : ℕ → Span) (amount : ℕ → ℕ) → ProperRows cs → Fitting cs spans amount →
    (R i : ℕ) → TakesPart cs i → (Low cs spans R i ≤ amount i) × (1 ≤ R → amount i ≤ High cs spans R i)

-- No span of a slot in use is wider among `fresh` than among `spans`.
pub record NoWider (cs : List Claimant) (fresh spans : ℕ → Span) : Type 0 where
  pub lows : (i s : ℕ) → Uses cs i s → (spans s).low ≤ (fresh s).low
  pub highs : (i s : ℕ) → Uses cs i s → (fresh s).high ≤ (spans s).high

-- More rounds tighten: with spans no wider and rounds no fewer, no Low is lower and no High is higher.
abbrev pub MoreRoundsTighten : Type 0
MoreRoundsTighten = (cs : List Claimant) (spans fresh : ℕ → Span) → ProperRows cs → NoWider cs fresh spans →
    (R R' i : ℕ) → R ≤ R' → TakesPart cs i →
    (Low cs spans R i ≤ Low cs fresh R' i) × (1 ≤ R → High cs fresh R' i ≤ High cs spans R i)

-- How many claimants take part.
abbrev pub parties : List Claimant → ℕ
parties cs = sum (length cs) (λ j. cond (filled (row_of cs j)) 1 0)

abbrev pub Closed : (ℕ → Span) → ℕ → Type 0
Closed spans s = (spans s).low ≡ (spans s).high

-- Some member of K other than i uses slot s.
abbrev pub Shared : List Claimant → (ℕ → Bool) → ℕ → ℕ → Type 0
Shared cs K i s = (j : ℕ) × (j ≢ i) × (K j ≡ true) × Uses cs j s

-- A knot: claimants that take part, each of whose slots at least two of them use.
pub record Knot (cs : List Claimant) (K : ℕ → Bool) : Type 0 where
  pub parts : (i : ℕ) → K i ≡ true → TakesPart cs i
  pub shared : (i s : ℕ) → K i ≡ true → Uses cs i s → Shared cs K i s

-- A loose knot asks that of closed slots alone.
pub record LooseKnot (cs : List Claimant) (spans : ℕ → Span) (K : ℕ → Bool) : Type 0 where
  pub parts : (i : ℕ) → K i ≡ true → TakesPart cs i
  pub shared : (i s : ℕ) → K i ≡ true → Uses cs i s → Closed spans s → Shared cs K i s

-- What hangs in no loose knot closes: at more rounds than there are claimants taking part, its bounds are its amount.
-- A knot is a set with a member; here i itself would be one, so no other has to be asked for.
abbrev pub OutsideLooseKnotsClose : Type 0
OutsideLooseKnotsClose = (cs : List Claimant) (spans : ℕ → Span) (amount : ℕ → ℕ) → ProperRows cs → Fitting cs spans amount →
    (R i : ℕ) → parties cs < R → TakesPart cs i → ((K : ℕ → Bool) → LooseKnot cs spans K → K i ≢ true) →
    (Low cs spans R i ≡ amount i) × (High cs spans R i ≡ amount i)

-- The plain form: with every span in use closed, what hangs in no knot closes.
abbrev pub OutsideKnotsClose : Type 0
OutsideKnotsClose = (cs : List Claimant) (spans : ℕ → Span) (amount : ℕ → ℕ) → ProperRows cs → Fitting cs spans amount →
    ((i s : ℕ) → Uses cs i s → Closed spans s) →
    (R i : ℕ) → parties cs < R → TakesPart cs i → ((K : ℕ → Bool) → Knot cs K → K i ≢ true) →
    (Low cs spans R i ≡ amount i) × (High cs spans R i ≡ amount i)
