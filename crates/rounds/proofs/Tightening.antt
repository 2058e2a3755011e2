-- More rounds tighten: messages of odd rounds fall with the rounds and with narrower spans, those of even rounds rise.
use Rattle.std.proofs.Common.{◌≡◌, ℕ, zero, suc, ◌≤◌, Bool, true, false, not, List, sym, ◌∙◌, subst, arith}
use Rattle.rounds.specs.declared.span.Span.{Span}
use Rattle.rounds.specs.Rounds.{Claimant, row_of, floor_of, has, Uses, besides, rest, edge}
use Rattle.rounds.specs.Rounds.{reply, gathered, message, estimate, odd, last_odd, last_even, High, Low}
use Rattle.rounds.specs.Laws.{ProperRows, NoWider, MoreRoundsTighten}
use Rattle.rounds.proofs.Order.{Le}
use Rattle.rounds.proofs.Rows.{filled_has, has_besides, another}
use Rattle.rounds.proofs.Tightest.{tightest_in, tightest_mono}
use Rattle.rounds.proofs.Replies.{rest_le, reply_mono}
use Rattle.rounds.proofs.Parity.{not_same, last_even_even, last_odd_odd, last_even_le, last_odd_le, last_even_most, last_odd_most}

module _ (cs : List Claimant) (spans : ℕ → Span) where
  floor_gather : (up : Bool) (m : ℕ → ℕ → ℕ) (i : ℕ) (row : List ℕ) (s : ℕ) → has s row ≡ true →
      floor_of cs i ≤ gathered cs spans up m i row
  floor_gather up m i row s h = omega (arith, (tightest_in up (reply cs spans up m i) row s h).2)

  -- No message and no estimate is under the floor.
  floor_message : ProperRows cs → (t i s : ℕ) → Uses cs i s → floor_of cs i ≤ message cs spans t i s
  floor_message proper zero i s h = omega arith
  floor_message proper (suc t) i s h =
      let o = another (row_of cs i) s (proper i) h in
      floor_gather (odd (suc t)) (message cs spans t) i (besides s (row_of cs i)) o.0 o.1

  floor_estimate : (t i s : ℕ) → Uses cs i s → floor_of cs i ≤ estimate cs spans t i
  floor_estimate zero i s h = omega arith
  floor_estimate (suc t) i s h = floor_gather (odd (suc t)) (message cs spans t) i (row_of cs i) s h

module _ (cs : List Claimant) (spans fresh : ℕ → Span) (proper : ProperRows cs) (narrow : NoWider cs fresh spans) where
  edge_tightens : (up : Bool) (i s : ℕ) → Uses cs i s → Le up (edge up (fresh s)) (edge up (spans s))
  edge_tightens true i s h = narrow.highs i s h
  edge_tightens false i s h = narrow.lows i s h

  -- The tightest reply of some slots of i.
  gather_tightens : (b : Bool) (m m' : ℕ → ℕ → ℕ) → ((j s : ℕ) → Uses cs j s → Le b (m' j s) (m j s)) →
      (i : ℕ) (row : List ℕ) → ((s : ℕ) → has s row ≡ true → Uses cs i s) →
      Le (not b) (gathered cs fresh (not b) m' i row) (gathered cs spans (not b) m i row)
  gather_tightens b m m' h i row sub = tightest_mono (not b) _ _ row (λ s k.
      reply_mono b (floor_of cs i) (edge (not b) (spans s)) (edge (not b) (fresh s))
      (rest cs (λ j. m j s) s i) (rest cs (λ j. m' j s) s i)
      (edge_tightens (not b) i s (sub s k))
      (rest_le b cs (λ j. m' j s) (λ j. m j s) s i (λ j _ u. h j s u)))

  message_tightens : (t t' : ℕ) → odd t ≡ odd t' → t ≤ t' → (i s : ℕ) → Uses cs i s →
      Le (odd t) (message cs fresh t' i s) (message cs spans t i s)
  message_tightens zero t' e h i s k = floor_message cs fresh proper t' i s k
  message_tightens (suc t) zero e h i s k = absurd (omega arith)
  message_tightens (suc t) (suc t') e h i s k =
      let q = not_same (odd t) (odd t') e in
      let row = besides s (row_of cs i) in
      subst (λ b. Le (not (odd t)) (gathered cs fresh (not b) (message cs fresh t') i row) (message cs spans (suc t) i s)) q
      (gather_tightens (odd t) (message cs spans t) (message cs fresh t') (message_tightens t t' q (omega arith)) i row
      (λ a u. (has_besides s a (row_of cs i) u).0))

  estimate_tightens : (t t' : ℕ) → odd t ≡ odd t' → t ≤ t' → (i s : ℕ) → Uses cs i s →
      Le (odd t) (estimate cs fresh t' i) (estimate cs spans t i)
  estimate_tightens zero t' e h i s k = floor_estimate cs fresh t' i s k
  estimate_tightens (suc t) zero e h i s k = absurd (omega arith)
  estimate_tightens (suc t) (suc t') e h i s k =
      let q = not_same (odd t) (odd t') e in
      let row = row_of cs i in
      subst (λ b. Le (not (odd t)) (gathered cs fresh (not b) (message cs fresh t') i row) (estimate cs spans (suc t) i)) q
      (gather_tightens (odd t) (message cs spans t) (message cs fresh t') (message_tightens t t' q (omega arith)) i row (λ a u. u))

pub more_rounds_tighten_lem : MoreRoundsTighten
more_rounds_tighten_lem cs spans fresh proper narrow R R' i le part =
    let at : (t t' : ℕ) → odd t ≡ odd t' → t ≤ t' → Le (odd t) (estimate cs fresh t' i) (estimate cs spans t i) = λ t t' e h.
    let r = filled_has (row_of cs i) part in estimate_tightens cs spans fresh proper narrow t t' e h i r.0 r.1 in
    let e = last_even_even R in (
      subst (λ b. Le b (Low cs fresh R' i) (Low cs spans R i)) e
          (at (last_even R) (last_even R') (e ∙ sym (last_even_even R'))
          (last_even_most R' (last_even R) e (omega (arith, last_even_le R)))),
      λ h.
          let o = last_odd_odd R h in
          subst (λ b. Le b (High cs fresh R' i) (High cs spans R i)) o
          (at (last_odd R) (last_odd R') (o ∙ sym (last_odd_odd R' (omega arith)))
          (last_odd_most R' (last_odd R) o (omega (arith, last_odd_le R)))),
    )
