-- What the lines promise: they hold, they tighten with the rounds, and they close for a flow that is in no knot.
-- Each statement is named by the contract of a public function, so that it has to be proved.
use Rattle.std.specs.Prelude.{◌≡◌, ℕ, ◌<◌, ◌≤◌, Bool, true, length, ◌≢◌}
use Rattle.rounds.specs.declared.span.Span.{Span}
use Rattle.rounds.specs.Rounds.{Uses}
use Rattle.rounds.specs.Laws.{NoWider, Closed, Knot}
use Rattle.book.specs.Book.{Book, units_at, reached, Wired}
use Rattle.book.specs.Lines.{claimants, line}

-- at every slot that some flow uses, what the flows brought there lies in the span
pub record Covered (B : Book) (spans : ℕ → Span) : Type 0 where
  pub lows : (i slot : ℕ) → Uses (claimants B) i slot → (spans slot).low ≤ reached B slot
  pub highs : (i slot : ℕ) → Uses (claimants B) i slot → reached B slot ≤ (spans slot).high

-- The lines hold: the units of each flow lie from low to high, after any number of rounds and after none.
abbrev pub LinesHold : Type 0
LinesHold = (B : Book) (spans : ℕ → Span) → Wired B → Covered B spans → (R i : ℕ) → i < length B.flows
    → ((line B spans R i).low ≤ units_at B i) × (units_at B i ≤ (line B spans R i).high)

-- More rounds tighten: with spans no wider and rounds no fewer, no low is lower and no high is higher.
abbrev pub LinesTighten : Type 0
LinesTighten = (B : Book) (spans fresh : ℕ → Span) → Wired B → NoWider (claimants B) fresh spans
    → (R R' i : ℕ) → R ≤ R' → i < length B.flows
    → ((line B spans R i).low ≤ (line B fresh R' i).low) × ((line B fresh R' i).high ≤ (line B spans R i).high)

-- Lines close: at more rounds than there are flows, with every span in use closed, the line of a flow that is in no
-- knot of flows is its units.
abbrev pub LinesClose : Type 0
LinesClose = (B : Book) (spans : ℕ → Span) → Wired B → Covered B spans
    → ((i slot : ℕ) → Uses (claimants B) i slot → Closed spans slot)
    → (R i : ℕ) → length B.flows < R → i < length B.flows
    → ((K : ℕ → Bool) → Knot (claimants B) K → K i ≢ true)
    → ((line B spans R i).low ≡ units_at B i) × ((line B spans R i).high ≡ units_at B i)
