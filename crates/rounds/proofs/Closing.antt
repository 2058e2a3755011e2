-- What hangs in no knot closes: whoever is released by a sweep has exact replies from the round of that number on.
use Rattle.std.proofs.Common.{◌≡◌, ℕ, zero, suc, ◌<◌, ◌≤◌, Bool, true, false, not, ◌≢◌, List, sym, subst, inl, inr, arith}
use Rattle.std.proofs.lemmas.Bool.{both_ways, cases_Bool}
use Rattle.rounds.specs.declared.span.Span.{Span}
use Rattle.rounds.specs.Rounds.{Claimant, row_of, has, Uses, TakesPart, besides, load, edge}
use Rattle.rounds.specs.Rounds.{reply, gathered, message, estimate, odd, last_odd, last_even}
use Rattle.rounds.specs.Laws.{ProperRows, Fitting, Closed, OutsideLooseKnotsClose, OutsideKnotsClose}
use Rattle.rounds.proofs.Order.{Le, le_both}
use Rattle.rounds.proofs.Rows.{has_besides, besides_has, uses_part}
use Rattle.rounds.proofs.Tightest.{tightest_le}
use Rattle.rounds.proofs.Replies.{rest_same, load_split}
use Rattle.rounds.proofs.Parity.{last_even_near, last_odd_near}
use Rattle.rounds.proofs.Holding.{gather_holds, message_holds}
use Rattle.rounds.proofs.Sweeps.{bound, Release, released, stays_released, swept}

module _ (cs : List Claimant) (spans : ℕ → Span) (amount : ℕ → ℕ) (proper : ProperRows cs) (fit : Fitting cs spans amount) where
  edge_exact : (up : Bool) (i s : ℕ) → Uses cs i s → Closed spans s → edge up (spans s) ≡ load cs amount s
  edge_exact true i s h c = omega (arith, fit.lows i s h, fit.highs i s h)
  edge_exact false i s h c = omega (arith, fit.lows i s h, fit.highs i s h)

  reply_exact : (up : Bool) (m : ℕ → ℕ → ℕ) (i s : ℕ) → Uses cs i s → Closed spans s →
      ((j : ℕ) → j ≢ i → Uses cs j s → m j s ≡ amount j) → reply cs spans up m i s ≡ amount i
  reply_exact up m i s h c e =
      let same = rest_same cs (λ j. m j s) amount s i e in
      omega (arith, same, edge_exact up i s h c, load_split cs amount s i h, fit.floors i (uses_part cs i s h))

  -- One exact reply among those of some slots of i makes the tightest of them exact.
  gather_exact : (t i : ℕ) (row : List ℕ) (s : ℕ) → has s row ≡ true → ((a : ℕ) → has a row ≡ true → Uses cs i a) →
      reply cs spans (not (odd t)) (message cs spans t) i s ≡ amount i →
      gathered cs spans (not (odd t)) (message cs spans t) i row ≡ amount i
  gather_exact t i row s h sub e =
      let up = not (odd t) in
      let m = message cs spans t in
      sym (le_both up _ _
      (gather_holds cs spans amount proper fit (odd t) m (message_holds cs spans amount proper fit t) i row s h sub)
      (subst (λ z. Le up (gathered cs spans up m i row) z) e (tightest_le up (reply cs spans up m i) row s h)))

  -- A slot of i that nobody bound after k sweeps uses but i, and whose replies to i are exact after round k.
  Good : ℕ → ℕ → Type 0
  Good k i = (s : ℕ) × Uses cs i s × ((j : ℕ) → j ≢ i → Uses cs j s → bound cs spans k j ≡ false)
      × ((t : ℕ) → k ≤ t → reply cs spans (not (odd t)) (message cs spans t) i s ≡ amount i)

  -- The messages to a slot of i of those who were released before are exact, so the slot that releases i is good.
  release_good : (k i : ℕ) → Release cs spans (bound cs spans k) i →
      ((s t j : ℕ) → k ≤ t → j ≢ i → Uses cs i s → Uses cs j s → bound cs spans k j ≡ false → message cs spans t j s ≡ amount j) →
      Good k i
  unfolding Good
  release_good k i r h = (
    r.0,
    r.1,
    r.3,
    λ t le. reply_exact (not (odd t)) (message cs spans t) i r.0 r.1 r.2 (λ j d u. h r.0 t j le d r.1 u (r.3 j d u)),
  )

  good : (k i : ℕ) → TakesPart cs i → bound cs spans (suc k) i ≡ false → Good k i
  unfolding Good
  good zero i part v = release_good zero i (released cs spans zero i part v)
      (λ s t j le d h u w. absurd (both_ways _ w (uses_part cs j s u)))
  good (suc k) i part v = elim (cases_Bool (bound cs spans (suc k) i)) [
    | inr u ↦
        let g = good k i part u in
        (g.0, g.1, (λ j d h. stays_released cs spans k j (g.2 j d h)), λ t le. g.3 t (omega arith))
    | inl u ↦ release_good (suc k) i (released cs spans (suc k) i u v)
        (λ s t j le d h h' w. through (good k j (uses_part cs j s h') w) s t le u d h)
  ]
    where
      -- The good slot of j is not one of i, who is still bound, so its reply counts in what j tells the slots of i.
      through : {j : ℕ} → Good k j → (s t : ℕ) → suc k ≤ t → bound cs spans (suc k) i ≡ true → j ≢ i → Uses cs i s →
          message cs spans t j s ≡ amount j
      through g s zero le u d h = absurd (omega arith)
      through {j} g s (suc t) le u d h =
          let apart : g.0 ≢ s = λ e.
          let on : Uses cs i g.0 = subst (λ a. Uses cs i a) (sym e) h in
          both_ways _ (stays_released cs spans k i (g.2 i (λ q. d (sym q)) on)) u in
          gather_exact t j (besides s (row_of cs j)) g.0 (besides_has s g.0 (row_of cs j) apart g.1)
          (λ a y. (has_besides s a (row_of cs j) y).0) (g.3 t (omega arith))

  good_estimate : (k i : ℕ) → Good k i → (t : ℕ) → k < t → estimate cs spans t i ≡ amount i
  unfolding Good
  good_estimate k i g zero h = absurd (omega arith)
  good_estimate k i g (suc t) h = gather_exact t i (row_of cs i) g.0 g.1 (λ a y. y) (g.3 t (omega arith))

  estimate_exact : (k i : ℕ) → TakesPart cs i → bound cs spans k i ≡ false → (t : ℕ) → k ≤ t → estimate cs spans t i ≡ amount i
  estimate_exact zero i part h = absurd (both_ways _ h part)
  estimate_exact (suc k) i part h = good_estimate k i (good k i part h)

pub outside_loose_knots_close_lem : OutsideLooseKnotsClose
outside_loose_knots_close_lem cs spans amount proper fit R i more part free =
    let w = swept cs spans in
    let gone : bound cs spans w.0 i ≡ false = elim (cases_Bool (bound cs spans w.0 i)) [
      | inl u ↦ absurd (free (bound cs spans w.0) w.2 u)
      | inr u ↦ u
    ] in
    let at = estimate_exact cs spans amount proper fit w.0 i part gone in
    (at (last_even R) (omega (arith, w.1, last_even_near R)), at (last_odd R) (omega (arith, w.1, last_odd_near R)))

pub outside_knots_close_lem : OutsideKnotsClose
outside_knots_close_lem cs spans amount proper fit closed R i more part free =
    outside_loose_knots_close_lem cs spans amount proper fit R i more part
    (λ K loose. free K (record { parts = loose.parts; shared = λ j s h u. loose.shared j s h u (closed j s u) }))
