-- The bounds hold: messages of odd rounds are at least the amounts, and those of even rounds at most.
use Rattle.std.proofs.Common.{◌≡◌, ℕ, zero, suc, Bool, true, false, not, List, sym, subst}
use Rattle.rounds.specs.declared.span.Span.{Span}
use Rattle.rounds.specs.Rounds.{Claimant, row_of, floor_of, has, Uses, besides, load, rest, edge}
use Rattle.rounds.specs.Rounds.{reply, gathered, message, estimate, odd, last_odd, last_even, High, Low}
use Rattle.rounds.specs.Laws.{ProperRows, Fitting, BoundsHold}
use Rattle.rounds.proofs.Order.{Le}
use Rattle.rounds.proofs.Rows.{filled_has, has_besides, another, uses_part}
use Rattle.rounds.proofs.Tightest.{tightest_in}
use Rattle.rounds.proofs.Replies.{rest_le, load_split, reply_bound}
use Rattle.rounds.proofs.Parity.{last_even_even, last_odd_odd}

module _ (cs : List Claimant) (spans : ℕ → Span) (amount : ℕ → ℕ) (proper : ProperRows cs) (fit : Fitting cs spans amount) where
  edge_holds : (up : Bool) (i s : ℕ) → Uses cs i s → Le up (load cs amount s) (edge up (spans s))
  edge_holds true i s h = fit.highs i s h
  edge_holds false i s h = fit.lows i s h

  reply_holds : (b : Bool) (m : ℕ → ℕ → ℕ) → ((j s : ℕ) → Uses cs j s → Le b (amount j) (m j s)) →
      (i s : ℕ) → Uses cs i s → Le (not b) (amount i) (reply cs spans (not b) m i s)
  reply_holds b m h i s k =
      reply_bound b (floor_of cs i) (edge (not b) (spans s)) (rest cs (λ j. m j s) s i) (rest cs amount s i) (amount i)
      (fit.floors i (uses_part cs i s k))
      (subst (λ z. Le (not b) z (edge (not b) (spans s))) (load_split cs amount s i k) (edge_holds (not b) i s k))
      (rest_le b cs amount (λ j. m j s) s i (λ j _ u. h j s u))

  -- The tightest reply of some slots of i, of which s is one.
  pub gather_holds : (b : Bool) (m : ℕ → ℕ → ℕ) → ((j s : ℕ) → Uses cs j s → Le b (amount j) (m j s)) →
      (i : ℕ) (row : List ℕ) (s : ℕ) → has s row ≡ true → ((a : ℕ) → has a row ≡ true → Uses cs i a) →
      Le (not b) (amount i) (gathered cs spans (not b) m i row)
  gather_holds b m h i row s k sub =
      let r = tightest_in (not b) (reply cs spans (not b) m i) row s k in
      subst (λ z. Le (not b) (amount i) z) (sym r.2) (reply_holds b m h i r.0 (sub r.0 r.1))

  pub message_holds : (t i s : ℕ) → Uses cs i s → Le (odd t) (amount i) (message cs spans t i s)
  message_holds zero i s h = fit.floors i (uses_part cs i s h)
  message_holds (suc t) i s h =
      let o = another (row_of cs i) s (proper i) h in
      gather_holds (odd t) (message cs spans t) (message_holds t) i (besides s (row_of cs i)) o.0 o.1
      (λ a u. (has_besides s a (row_of cs i) u).0)

  estimate_holds : (t i s : ℕ) → Uses cs i s → Le (odd t) (amount i) (estimate cs spans t i)
  estimate_holds zero i s h = fit.floors i (uses_part cs i s h)
  estimate_holds (suc t) i s h = gather_holds (odd t) (message cs spans t) (message_holds t) i (row_of cs i) s h (λ a u. u)

pub bounds_hold_lem : BoundsHold
bounds_hold_lem cs spans amount proper fit R i part =
    let at : (t : ℕ) → Le (odd t) (amount i) (estimate cs spans t i) = λ t.
    let r = filled_has (row_of cs i) part in estimate_holds cs spans amount proper fit t i r.0 r.1 in (
      subst (λ b. Le b (amount i) (Low cs spans R i)) (last_even_even R) (at (last_even R)),
      λ h. subst (λ b. Le b (amount i) (High cs spans R i)) (last_odd_odd R h) (at (last_odd R)),
    )
