-- Sums at a slot, and how a reply follows the messages that it is made from.
use Rattle.std.proofs.Common.{◌≡◌, ℕ, ◌+◌, ◌-◌, ◌≤◌, max, Bool, true, false, not, eqb, ◌≢◌, List, length, refl, ap, ◌∙◌, arith}
use Rattle.std.proofs.lemmas.Bool.{eqb-false, cond-true}
use Rattle.rounds.specs.Rounds.{Claimant, has, row_of, Uses, share, load, rest}
use Rattle.rounds.proofs.Order.{Le, le_eq, le_both, cond_le}
use Rattle.rounds.proofs.Sums.{sum_le, sum_split}
use Rattle.rounds.proofs.Rows.{uses_inside}

pub rest_le : (b : Bool) (cs : List Claimant) (m m' : ℕ → ℕ) (s i : ℕ) →
    ((j : ℕ) → j ≢ i → Uses cs j s → Le b (m j) (m' j)) → Le b (rest cs m s i) (rest cs m' s i)
rest_le b cs m m' s i h = sum_le b (length cs) _ _ (λ j. cond_le b (eqb j i) 0 0 _ _ (λ _. le_eq b 0 0 refl)
    (λ e. cond_le b (has s (row_of cs j)) (m j) (m' j) 0 0 (λ k. h j (eqb-false j i e) k) (λ _. le_eq b 0 0 refl)))

pub rest_same : (cs : List Claimant) (m m' : ℕ → ℕ) (s i : ℕ) →
    ((j : ℕ) → j ≢ i → Uses cs j s → m j ≡ m' j) → rest cs m s i ≡ rest cs m' s i
rest_same cs m m' s i h = le_both true _ _
    (rest_le true cs m m' s i (λ j d k. le_eq true _ _ (h j d k)))
    (rest_le false cs m m' s i (λ j d k. le_eq false _ _ (h j d k)))

-- The sum at a slot of i is what i brings and what the others bring.
pub load_split : (cs : List Claimant) (m : ℕ → ℕ) (s i : ℕ) → Uses cs i s → load cs m s ≡ m i + rest cs m s i
load_split cs m s i h =
    sum_split (length cs) (share cs m s) i (uses_inside cs i s h)
    ∙ ap (λ z. z + rest cs m s i) (cond-true (has s (row_of cs i)) (m i) 0 h)

-- A sum taken over all claimants gives that over the others.
pub rest_less : (cs : List Claimant) (m : ℕ → ℕ) (s i : ℕ) → Uses cs i s → rest cs m s i ≡ load cs m s - m i
rest_less cs m s i h = omega (arith, load_split cs m s i h)

-- An amount u, with r' beside it inside the edge E, keeps on its side of the reply where the messages r keep on theirs.
pub reply_bound : (b : Bool) (F E r r' u : ℕ) → F ≤ u → Le (not b) (u + r') E → Le b r' r → Le (not b) u (max F (E - r))
reply_bound true F E r r' u p q h = omega arith
reply_bound false F E r r' u p q h = omega arith

-- Tighter edges and tighter messages give a tighter reply.
pub reply_mono : (b : Bool) (F E E' r r' : ℕ) → Le (not b) E' E → Le b r' r → Le (not b) (max F (E' - r')) (max F (E - r))
reply_mono true F E E' r r' p q = omega arith
reply_mono false F E E' r r' p q = omega arith
