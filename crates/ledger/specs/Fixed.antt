-- A list of totals that a braid over a flat table admits fixes all that the braid knows: the table below can hold
-- nothing but the sums of what such slots have carried, and the spans follow from these by the rules.
use Rattle.std.specs.Prelude.{◌≡◌, ℕ, ◌/◌, ◌<◌, List, length, slice_index}
use Rattle.rounds.specs.declared.span.Span.{Span}
use Rattle.store.specs.declared.flat.Flat.{Flat}
use Rattle.store.specs.FlatMeaning.{cells, flat_meaning}
use Rattle.store.specs.Sums.{reaching, slot_sums}
use Rattle.braid.specs.declared.braid.Braid.{Braid}
use Rattle.rounds.specs.Spans.{closed_at}
use Rattle.braid.specs.BraidMeaning.{count, modulus, rows, BraidAdmits, BraidSound, braid_spans}
use Rattle.ledger.specs.Rules as rules

-- how often the counter of each slot has run over, counting modulo M, where T has the slots' totals
abbrev pub runs_over : ℕ → List ℕ → ℕ → ℕ
runs_over M T i = slice_index T i / M

-- each slot below is known exactly: it holds the sum of what the rows through it have carried
abbrev pub known : ℕ → List (List ℕ) → List ℕ → ℕ → Span
known M wiring T slot = closed_at (reaching wiring (runs_over M T) slot)

-- the braid was brought about by its making and its calls, and T is what its slots may hold
pub record Holding (s : Braid Flat) (T : List ℕ) : Type 0 where
  pub sound : BraidSound flat_meaning s
  pub admits : BraidAdmits flat_meaning s T

-- the table below and the spans at every number of rounds, settled there or not, are worked out from T
pub record Computed (s : Braid Flat) (T : List ℕ) : Type 0 where
  pub table : cells s.below ≡ slot_sums (flat_meaning.slots s.below) (rows s.layer) (runs_over (modulus s.layer) T)
  pub spans : (R i : ℕ) → i < count s.layer → braid_spans flat_meaning s R i
      ≡ rules.span (modulus s.layer) (rows s.layer) T (known (modulus s.layer) (rows s.layer) T) R i

-- the same counters on the same rows
pub record BuiltAlike (s t : Braid Flat) : Type 0 where
  pub depth : s.layer.depth ≡ t.layer.depth
  pub rows : rows s.layer ≡ rows t.layer

-- the same spans at every number of rounds, and over equally many slots below the same table
pub record KnownAlike (s t : Braid Flat) : Type 0 where
  pub tables : length (cells s.below) ≡ length (cells t.below) → cells s.below ≡ cells t.below
  pub spans : (R i : ℕ) → i < count s.layer → braid_spans flat_meaning s R i ≡ braid_spans flat_meaning t R i

-- so two braids with the same counters on the same rows that admit the same list know the same of it
abbrev pub FixedSpans : Type 0
FixedSpans = ((s : Braid Flat) (T : List ℕ) → Holding s T → Computed s T)
    × ((s t : Braid Flat) (T : List ℕ) → Holding s T → Holding t T → BuiltAlike s t → KnownAlike s t)
