-- The last odd and the last even round up to R.
use Rattle.std.proofs.Common.{◌≡◌, ℕ, zero, suc, ◌≤◌, Bool, true, false, not, sym, refl, ap, ◌∙◌, inl, inr, arith}
use Rattle.std.proofs.Math.Bool.{not-not}
use Rattle.std.proofs.lemmas.Bool.{both_ways, cases_eq, cond_both, cond-true, cond-false, not-true, not-false}
use Rattle.rounds.specs.Rounds.{odd, last_odd, last_even}

pub not_same : (b c : Bool) → not b ≡ not c → b ≡ c
not_same b c e = sym (not-not b) ∙ ap not e ∙ not-not c

pub last_even_even : (R : ℕ) → odd (last_even R) ≡ false
last_even_even zero = refl
last_even_even (suc t) = cond_both (odd t) (suc t) t (λ z. odd z ≡ false) (λ e. ap not e) (λ e. e)

pub last_odd_odd : (R : ℕ) → 1 ≤ R → odd (last_odd R) ≡ true
last_odd_odd zero h = absurd (omega arith)
last_odd_odd (suc t) h = cond_both (odd t) t (suc t) (λ z. odd z ≡ true) (λ e. e) (λ e. ap not e)

pub last_even_le : (R : ℕ) → last_even R ≤ R
last_even_le zero = omega arith
last_even_le (suc t) = cond_both (odd t) (suc t) t (λ z. z ≤ suc t) (λ _. omega arith) (λ _. omega arith)

pub last_odd_le : (R : ℕ) → last_odd R ≤ R
last_odd_le zero = omega arith
last_odd_le (suc t) = cond_both (odd t) t (suc t) (λ z. z ≤ suc t) (λ _. omega arith) (λ _. omega arith)

pub last_even_near : (R : ℕ) → R ≤ suc (last_even R)
last_even_near zero = omega arith
last_even_near (suc t) = cond_both (odd t) (suc t) t (λ z. suc t ≤ suc z) (λ _. omega arith) (λ _. omega arith)

pub last_odd_near : (R : ℕ) → R ≤ suc (last_odd R)
last_odd_near zero = omega arith
last_odd_near (suc t) = cond_both (odd t) t (suc t) (λ z. suc t ≤ suc z) (λ _. omega arith) (λ _. omega arith)

-- No even round up to R comes after the last, and no odd one.
pub last_even_most : (R t : ℕ) → odd t ≡ false → t ≤ R → t ≤ last_even R
last_even_most zero t e h = h
last_even_most (suc r) t e h = cond_both (odd r) (suc r) r (λ z. t ≤ z) (λ _. h)
    (λ k. elim (cases_eq t (suc r)) [ inl q ↦ absurd (both_ways (odd t) e (ap odd q ∙ ap not k)) | inr d ↦ omega arith ])

pub last_odd_most : (R t : ℕ) → odd t ≡ true → t ≤ R → t ≤ last_odd R
last_odd_most zero t e h = h
last_odd_most (suc r) t e h = cond_both (odd r) r (suc r) (λ z. t ≤ z)
    (λ k. elim (cases_eq t (suc r)) [ inl q ↦ absurd (both_ways (odd t) (ap odd q ∙ ap not k) e) | inr d ↦ omega arith ]) (λ _. h)

-- In a round of its own kind the last round is that one.
pub last_even_here : (t : ℕ) → odd t ≡ false → last_even t ≡ t
last_even_here zero h = refl
last_even_here (suc t) h = cond-true (odd t) (suc t) t (not-false (odd t) h)

pub last_odd_here : (t : ℕ) → odd t ≡ true → last_odd t ≡ t
last_odd_here zero h = absurd (both_ways false refl h)
last_odd_here (suc t) h = cond-false (odd t) t (suc t) (not-true (odd t) h)

-- And one round on it stays.
pub last_even_stays : (t : ℕ) → odd t ≡ false → last_even (suc t) ≡ last_even t
last_even_stays t h = cond-false (odd t) (suc t) t h ∙ sym (last_even_here t h)

pub last_odd_stays : (t : ℕ) → odd t ≡ true → last_odd (suc t) ≡ last_odd t
last_odd_stays t h = cond-true (odd t) t (suc t) h ∙ sym (last_odd_here t h)
