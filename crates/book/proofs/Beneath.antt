-- A book over a store that admits its sums: they lie in the store's spans, which tighten with the rounds, so that the laws
-- of the lines can be put to use at every number of rounds.
use Rattle.std.proofs.Common.{◌≡◌, ℕ, ◌<◌, ◌≤◌, true, List, [], ◌∷◌, length, get_or, subst, inl, inr, arith}
use lib.ListN.{length-map}
use Rattle.rounds.specs.Rounds.{has, Uses}
use Rattle.rounds.specs.Laws.{NoWider}
use Rattle.rounds.proofs.Rows.{has_none, has_cons, uses_inside}
use Rattle.store.specs.Meaning.{Meaning, Laws, Within}
use Rattle.store.proofs.Sums.{get_or_sums}
use Rattle.book.specs.Book.{Book, rows, units_at, sums}
use Rattle.book.specs.Lines.{claimant, claimants}
use Rattle.book.specs.LineLaws.{Covered}
use Rattle.book.proofs.Lines.{claimant_row}

within_has : (N : ℕ) (row : List ℕ) (slot : ℕ) → Within N row → has slot row ≡ true → slot < N
within_has N [] slot w h = absurd (has_none slot h)
within_has N (a ∷ row) slot w h = elim (has_cons slot a row h) [
  | inl e ↦ omega (arith, w.0)
  | inr k ↦ within_has N row slot w.1 k
]

module _ (B : Book) (within : (i : ℕ) → i < length B.flows → Within B.beneath (get_or (rows B) i [])) where
  pub uses_within : (i slot : ℕ) → Uses (claimants B) i slot → slot < B.beneath
  uses_within i slot u =
      let here : i < length B.flows = omega (arith, uses_inside (claimants B) i slot u, length-map B.flows claimant) in
      within_has B.beneath (get_or (rows B) i []) slot (within i here)
      (subst (λ (row : List ℕ). has slot row ≡ true) (claimant_row B.flows i) u)

  module _ {S : Type 0} (m : Meaning S) (laws : Laws m) (s : S) (sound : m.sound s) (beneath : m.slots s ≡ B.beneath) where
    used : (i slot : ℕ) → Uses (claimants B) i slot → slot < m.slots s
    used i slot u = omega (arith, uses_within i slot u)

    pub covered : m.admits s (sums B) → (R : ℕ) → Covered B (m.spans s R)
    covered admits R = record {
      lows = λ i slot u.
          let at = get_or_sums B.beneath (rows B) (units_at B) slot (uses_within i slot u) in
          omega (arith, at, laws.above s sound (sums B) admits R slot (used i slot u));
      highs = λ i slot u.
          let at = get_or_sums B.beneath (rows B) (units_at B) slot (uses_within i slot u) in
          omega (arith, at, laws.below s sound (sums B) admits R slot (used i slot u));
    }

    pub no_wider : (R R' : ℕ) → R ≤ R' → NoWider (claimants B) (m.spans s R') (m.spans s R)
    no_wider R R' le = record {
      lows = λ i slot u. laws.rises s sound R R' slot le (used i slot u);
      highs = λ i slot u. laws.falls s sound R R' slot le (used i slot u);
    }
