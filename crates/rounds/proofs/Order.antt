-- One order for both kinds of rounds, so that each lemma on bounds is stated once:
-- at most where the flag is true, as in odd rounds, and at least where it is false.
use Rattle.std.proofs.Common.{◌≡◌, ℕ, ◌≤◌, Bool, true, false, cond, refl, arith}

abbrev pub Le : Bool → ℕ → ℕ → Type 0
Le true u v = u ≤ v
Le false u v = v ≤ u

pub le_eq : (b : Bool) (u v : ℕ) → u ≡ v → Le b u v
le_eq true u v e = omega arith
le_eq false u v e = omega arith

pub le_trans : (b : Bool) (u v w : ℕ) → Le b u v → Le b v w → Le b u w
le_trans true u v w p q = omega arith
le_trans false u v w p q = omega arith

pub le_both : (b : Bool) (u v : ℕ) → Le b u v → Le b v u → u ≡ v
le_both true u v p q = omega arith
le_both false u v p q = omega arith

pub cond_le : (b t : Bool) (u u' v v' : ℕ) → (t ≡ true → Le b u u') → (t ≡ false → Le b v v') → Le b (cond t u v) (cond t u' v')
cond_le b true u u' v v' h k = h refl
cond_le b false u u' v v' h k = k refl
