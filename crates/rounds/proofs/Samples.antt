-- The small cases that go on for ever: they use the laws, so their rows and amounts are shown to meet what the laws ask.
use Rattle.std.proofs.Common.{◌≡◌, ℕ, zero, suc, ◌<◌, Bool, true, false, ◌&&◌, leb, ◌≢◌, List, [], ◌∷◌, length, refl, subst, inl, inr, arith}
use Rattle.std.specs.List.{list_all}
use Rattle.std.proofs.lemmas.Bool.{both_ways, leb-true, and_parts, cases_eq}
use Rattle.rounds.specs.declared.span.Span.{Span}
use Rattle.rounds.specs.Rounds.{Claimant, row_of, floor_of, Uses, load}
use Rattle.rounds.specs.Laws.{ProperRows, Fitting, NoWider, LooseKnot}
use Rattle.rounds.specs.Cases.{amounts, twins, twin_spans, TwinsStayOpen, mixed, mixed_spans, MixedCloses}
use Rattle.rounds.proofs.Rows.{filled_has, uses_inside}
use Rattle.rounds.proofs.Sweeps.{all_true}
use Rattle.rounds.proofs.Holding.{bounds_hold_lem}
use Rattle.rounds.proofs.Tightening.{more_rounds_tighten_lem}
use Rattle.rounds.proofs.Closing.{outside_loose_knots_close_lem}

-- A test that amounts fit, which computes.

abbrev every : ℕ → (ℕ → Bool) → Bool
every zero p = true
every (suc n) p = p n && every n p

every_true : (n : ℕ) (p : ℕ → Bool) → every n p ≡ true → (j : ℕ) → j < n → p j ≡ true
every_true zero p h j k = absurd (omega arith)
every_true (suc n) p h j k =
    let r = and_parts (p n) (every n p) h in
    elim (cases_eq n j) [ inl e ↦ subst (λ z. p z ≡ true) e r.0 | inr d ↦ every_true n p r.1 j (omega arith) ]

module _ (cs : List Claimant) (spans : ℕ → Span) (amount : ℕ → ℕ) where
  abbrev spanned : ℕ → Bool
  spanned s = leb (spans s).low (load cs amount s) && leb (load cs amount s) (spans s).high

  abbrev fits : ℕ → Bool
  fits i = leb (floor_of cs i) (amount i) && list_all spanned (row_of cs i)

  fitting : every (length cs) fits ≡ true → Fitting cs spans amount
  fitting h = record {
    floors = λ i part. let r = filled_has (row_of cs i) part in leb-true _ _ (at i r.0 r.1).0;
    lows = λ i s u. leb-true _ _ (both i s u).0;
    highs = λ i s u. leb-true _ _ (both i s u).1;
  }
    where
      at : (i s : ℕ) → Uses cs i s → (leb (floor_of cs i) (amount i) ≡ true) × (list_all spanned (row_of cs i) ≡ true)
      at i s u =
          let passed = every_true (length cs) fits h i (uses_inside cs i s u) in
          and_parts (leb (floor_of cs i) (amount i)) (list_all spanned (row_of cs i)) passed

      both : (i s : ℕ) → Uses cs i s → (leb (spans s).low (load cs amount s) ≡ true) × (leb (load cs amount s) (spans s).high ≡ true)
      both i s u =
          let passed = all_true spanned (row_of cs i) (at i s u).1 s u in
          and_parts (leb (spans s).low (load cs amount s)) (leb (load cs amount s) (spans s).high) passed

-- The twins' slots would be the same with 0 and 12, and with 12 and 0, so no bound can tell these apart.

twins_proper : ProperRows twins
twins_proper zero = (refl, (refl, (refl, tt)))
twins_proper (suc zero) = (refl, (refl, (refl, tt)))
twins_proper (suc (suc i)) = tt

same_spans : NoWider twins twin_spans twin_spans
same_spans = record { lows = λ i s u. omega arith; highs = λ i s u. omega arith }

twins_left : Fitting twins twin_spans (amounts (0 ∷ (12 ∷ [])))
twins_left = fitting twins twin_spans (amounts (0 ∷ (12 ∷ []))) refl

twins_right : Fitting twins twin_spans (amounts (12 ∷ (0 ∷ [])))
twins_right = fitting twins twin_spans (amounts (12 ∷ (0 ∷ []))) refl

pub twins_stay_open_lem : TwinsStayOpen
twins_stay_open_lem R h =
    let left = bounds_hold_lem twins twin_spans (amounts (0 ∷ (12 ∷ []))) twins_proper twins_left R in
    let right = bounds_hold_lem twins twin_spans (amounts (12 ∷ (0 ∷ []))) twins_proper twins_right R in
    let first = more_rounds_tighten_lem twins twin_spans twin_spans twins_proper same_spans 1 R in (
      (omega (arith, (left 0 refl).0), omega (arith, (right 0 refl).1 h, (first 0 h refl).1 (omega arith))),
      (omega (arith, (right 1 refl).0), omega (arith, (left 1 refl).1 h, (first 1 h refl).1 (omega arith))),
    )

-- Only the first of the mixed pair uses slot 0, and besides it only the second uses slot 1.

mixed_proper : ProperRows mixed
mixed_proper zero = (refl, (refl, tt))
mixed_proper (suc zero) = (refl, (refl, (refl, tt)))
mixed_proper (suc (suc i)) = tt

first_free : (K : ℕ → Bool) → LooseKnot mixed mixed_spans K → K 0 ≡ true → ⊥
first_free K knot h = let r = knot.shared 0 0 h refl refl in nobody_else r.0 r.1 r.3
  where
    nobody_else : (j : ℕ) → j ≢ 0 → Uses mixed j 0 → ⊥
    nobody_else zero d u = d refl
    nobody_else (suc zero) d u = both_ways false refl u
    nobody_else (suc (suc j)) d u = both_ways false refl u

second_free : (K : ℕ → Bool) → LooseKnot mixed mixed_spans K → K 1 ≡ true → ⊥
second_free K knot h = let r = knot.shared 1 1 h refl refl in only_first r.0 r.1 r.2 r.3
  where
    only_first : (j : ℕ) → j ≢ 1 → K j ≡ true → Uses mixed j 1 → ⊥
    only_first zero d k u = first_free K knot k
    only_first (suc zero) d k u = d refl
    only_first (suc (suc j)) d k u = both_ways false refl u

pub mixed_closes_lem : MixedCloses
mixed_closes_lem =
    let amount = amounts (4 ∷ (2 ∷ [])) in
    let close = outside_loose_knots_close_lem mixed mixed_spans amount mixed_proper (fitting mixed mixed_spans amount refl) in
    (λ R h. (close R 0 h refl first_free, close R 1 h refl second_free), (refl, refl), refl)
