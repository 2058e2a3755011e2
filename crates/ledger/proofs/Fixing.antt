-- An admitted list fixes what a braid over a flat table knows: the table can only be the sums of what was
-- carried, and the rules take nothing else from below.
use Rattle.std.proofs.Common.{◌≡◌, ℕ, ◌^◌, ◌<◌, List, [], length, get_or, sym, ap, ◌∙◌, inl, inr, arith}
use Rattle.std.proofs.lemmas.List.{get_or_past}
use Rattle.std.proofs.lemmas.Bool.{cases_lt, cond-false, false_from_ne_true}
use Rattle.rounds.specs.Rounds.{has}
use Rattle.store.specs.declared.flat.Flat.{Flat}
use Rattle.store.specs.FlatMeaning.{cells, flat_meaning}
use Rattle.store.specs.Meaning.{Within}
use Rattle.store.specs.Sums.{reaching, slot_sums}
use Rattle.store.proofs.Rows.{within_has}
use Rattle.store.proofs.Sums.{sum_none, length_sums, get_or_sums}
use Rattle.braid.specs.declared.braid.Braid.{Braid}
use Rattle.rounds.specs.Spans.{closed_at}
use Rattle.braid.specs.BraidMeaning.{modulus, rows}
use Rattle.ledger.specs.Rules as rules
use Rattle.ledger.specs.Fixed.{runs_over, known, Holding, Computed, BuiltAlike, KnownAlike, FixedSpans}
use Rattle.ledger.proofs.Ruling.{same_span}

-- nothing reaches past the last slot, and the sums of the slots that are there are all sums
sums_all : (N : ℕ) (wiring : List (List ℕ)) (amount : ℕ → ℕ) → ((i : ℕ) → i < length wiring → Within N (get_or wiring i []))
    → (slot : ℕ) → get_or (slot_sums N wiring amount) slot 0 ≡ reaching wiring amount slot
sums_all N wiring amount within slot = elim (cases_lt slot N) [
  | inl h ↦ get_or_sums N wiring amount slot h
  | inr past ↦
      let row : ℕ → List ℕ = λ i. get_or wiring i [] in
      get_or_past (slot_sums N wiring amount) slot 0 (omega (arith, length_sums N wiring amount))
      ∙ sym (sum_none (length wiring) _ (λ i h.
      cond-false (has slot (row i)) (amount i) 0 (false_from_ne_true _ (λ on. omega (arith, within_has N (row i) slot (within i h) on)))))
]

module _ (s : Braid Flat) (T : List ℕ) (holding : Holding s T) where
  abbrev M : ℕ
  M = modulus s.layer

  abbrev wiring : List (List ℕ)
  wiring = rows s.layer

  within : (i : ℕ) → i < length wiring → Within (length (cells s.below)) (get_or wiring i [])
  within i h = (holding.sound.wired i h).1

  known_below : (slot : ℕ) → get_or (cells s.below) slot 0 ≡ reaching wiring (runs_over M T) slot
  known_below slot =
      ap (λ U. get_or U slot 0) (sym holding.admits.below)
      ∙ sums_all (length (cells s.below)) wiring (runs_over M T) within slot

  pub computed : Computed s T
  computed = record {
    table = sym holding.admits.below;
    spans = λ R i h.
        same_span flat_meaning s holding.sound T holding.admits (flat_meaning.spans s.below R) R i h
        ∙ (λ k. rules.span M wiring T (λ slot. closed_at (known_below slot k)) R i);
  }

module _ (s t : Braid Flat) (T : List ℕ) (one : Holding s T) (other : Holding t T) (alike : BuiltAlike s t) where
  pub known_alike : KnownAlike s t
  known_alike = record {
    tables = λ long.
        (computed s T one).table
        ∙ (λ k. slot_sums (long k) (alike.rows k) (runs_over (2 ^ alike.depth k) T))
        ∙ sym (computed t T other).table;
    spans = λ R i h.
        (computed s T one).spans R i h
        ∙ (λ k. rules.span (2 ^ alike.depth k) (alike.rows k) T (known (2 ^ alike.depth k) (alike.rows k) T) R i)
        ∙ sym ((computed t T other).spans R i (omega (arith, one.admits.long, other.admits.long)));
  }

pub fixed_spans : FixedSpans
fixed_spans = (computed, known_alike)
