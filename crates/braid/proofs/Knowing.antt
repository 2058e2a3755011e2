-- What the tables know of a slot is what the rounds give.
use Rattle.std.proofs.Common.{◌≡◌, ℕ, zero, suc, ◌<◌, true, cond, eqb, get_or, sym, refl, ap, ◌∙◌, inl, inr, arith}
use Rattle.std.proofs.lemmas.Bool.{cases_Bool, cond-true, cond-false, ne_eqb}
use Rattle.rounds.specs.Rounds.{Claimant, Low, High}
use Rattle.store.specs.Meaning.{Meaning, Live}
use Rattle.braid.specs.declared.braid.Braid.{Braid}
use Rattle.braid.specs.BraidMeaning.{count, raised, claimants, raised_span, braid_spans, braid_meaning}
use Rattle.braid.specs.BraidLaws.{claimant_raised}
use Rattle.braid.specs.Layers.{known_span}

module _ {S : Type 0} (m : Meaning S) (s : Braid S) (live : Live (braid_meaning m) s) (i : ℕ) (within : i < count s.layer) where
  at_rounds : (R : ℕ) → R ≡ s.layer.rounds → raised s.layer i ≡ true
      → raised_span s.layer i R (cond (eqb R 0) 1 (get_or s.layer.lows i 0)) (get_or s.layer.highs i 0)
      ≡ raised_span s.layer i R (Low (claimants s.layer) (m.spans s.below R) R i) (High (claimants s.layer) (m.spans s.below R) R i)
  at_rounds zero e up =
      ap (λ low. raised_span s.layer i 0 low (get_or s.layer.highs i 0)) (sym (ap (λ (c : Claimant). c.floor) (claimant_raised s.layer i within up)))
  at_rounds (suc R) e up =
      let low : get_or s.layer.lows i 0 ≡ Low (claimants s.layer) (m.spans s.below (suc R)) (suc R) i =
      live.sound.lows live.totals live.admitted (omega arith) i within up
      ∙ ap (λ Q. Low (claimants s.layer) (m.spans s.below Q) Q i) (sym e) in
      let high : get_or s.layer.highs i 0 ≡ High (claimants s.layer) (m.spans s.below (suc R)) (suc R) i =
      live.sound.highs live.totals live.admitted (omega arith) i within up
      ∙ ap (λ Q. High (claimants s.layer) (m.spans s.below Q) Q i) (sym e) in
      let some : cond (eqb (suc R) 0) 1 (get_or s.layer.lows i 0) ≡ get_or s.layer.lows i 0 =
      cond-false (eqb (suc R) 0) 1 (get_or s.layer.lows i 0) (ne_eqb (suc R) 0 (λ z. omega arith)) in
      λ j. raised_span s.layer i (suc R) ((some ∙ low) j) (high j)

  pub known : known_span s.layer i ≡ braid_spans m s s.layer.rounds i
  known = elim (cases_Bool (raised s.layer i)) [
    | inl up ↦ cond-true _ _ _ up ∙ at_rounds s.layer.rounds refl up ∙ sym (cond-true _ _ _ up)
    | inr down ↦ cond-false _ _ _ down ∙ sym (cond-false _ _ _ down)
  ]
