-- The lines of a book: what the rules let one say of each flow's units, from the total, the rows and what is known of
-- the slots of the store. The units themselves are not looked at but for their total.
use Rattle.std.specs.Prelude.{ℕ, zero, suc, min, List, map, slice_index}
use Rattle.rounds.specs.declared.span.Span.{Span}
use Rattle.rounds.specs.Rounds.{Claimant, Low, High}
use Rattle.book.specs.Book.{Flow, Book, floor, identifiers, total}

pub record Line : Type 0 where
  pub identifier : ℕ
  pub low : ℕ
  pub high : ℕ

-- each flow is a claimant, on its row and with its floor
abbrev pub claimant : Flow → Claimant
claimant flow = record { row = flow.row; floor = floor flow }

abbrev pub claimants : Book → List Claimant
claimants B = map claimant B.flows

-- the bounds of flow i after R rounds over these spans of the store's slots, none above the total;
-- before any round only the total bounds it from above
abbrev pub low : Book → (ℕ → Span) → ℕ → ℕ → ℕ
low B spans R i = min (total B) (Low (claimants B) spans R i)

abbrev pub high : Book → (ℕ → Span) → ℕ → ℕ → ℕ
high B spans zero i = total B
high B spans (suc R) i = min (total B) (High (claimants B) spans (suc R) i)

abbrev pub line : Book → (ℕ → Span) → ℕ → ℕ → Line
line B spans R i = record { identifier = slice_index (identifiers B) i; low = low B spans R i; high = high B spans R i }
