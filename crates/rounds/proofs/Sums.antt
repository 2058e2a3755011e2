-- Sums of a function over the numbers below n, and counts of those that pass a test.
use Rattle.std.proofs.Common.{◌≡◌, ℕ, zero, suc, ◌+◌, ◌<◌, ◌≤◌, Bool, true, false, cond, eqb, ◌⊎◌, sym, refl, ap, ◌∙◌, subst, inl, inr, add-one, arith}
use Rattle.std.proofs.lemmas.Bool.{both_ways, eq-eqb, ne_eqb, cases_eq, cond-true, cond-false}
use Rattle.rounds.specs.Rounds.{sum}
use Rattle.rounds.proofs.Order.{Le}

-- One more turn of a loop that adds up.
pub sum_more : (n : ℕ) (f : ℕ → ℕ) → sum (n + 1) f ≡ sum n f + f n
sum_more n f = rw add-one

pub sum_le : (b : Bool) (n : ℕ) (f g : ℕ → ℕ) → ((j : ℕ) → Le b (f j) (g j)) → Le b (sum n f) (sum n g)
sum_le true zero f g h = omega arith
sum_le false zero f g h = omega arith
sum_le true (suc n) f g h = omega (arith, sum_le true n f g h, h n)
sum_le false (suc n) f g h = omega (arith, sum_le false n f g h, h n)

-- The function with its value at i left out.
abbrev pub without : ℕ → (ℕ → ℕ) → ℕ → ℕ
without i f j = cond (eqb j i) 0 (f j)

sum_beyond : (n : ℕ) (f : ℕ → ℕ) (i : ℕ) → n ≤ i → sum n (without i f) ≡ sum n f
sum_beyond zero f i h = refl
sum_beyond (suc n) f i h =
    let e : without i f n ≡ f n = cond-false (eqb n i) 0 (f n) (ne_eqb n i (omega arith)) in
    omega (arith, sum_beyond n f i (omega arith), e)

pub sum_split : (n : ℕ) (f : ℕ → ℕ) (i : ℕ) → i < n → sum n f ≡ f i + sum n (without i f)
sum_split zero f i h = omega arith
sum_split (suc n) f i h = elim (cases_eq n i) [
  | inl e ↦ omega (arith, sum_beyond n f i (omega arith), ap f e, cond-true (eqb n i) 0 (f n) (eq-eqb n i e))
  | inr d ↦ omega (arith, sum_split n f i (omega arith), cond-false (eqb n i) 0 (f n) (ne_eqb n i d))
]

-- How many numbers below n pass the test p.
abbrev pub count : ℕ → (ℕ → Bool) → ℕ
count n p = sum n (λ j. cond (p j) 1 0)

one_le : (p q : Bool) → (q ≡ true → p ≡ true) → cond {A = ℕ} q 1 0 ≤ cond {A = ℕ} p 1 0
one_le true true h = omega arith
one_le true false h = omega arith
one_le false true h = absurd (both_ways false refl (h refl))
one_le false false h = omega arith

-- A part of a finite set is the whole of it, or has fewer members.
pub same_or_fewer : (n : ℕ) (p q : ℕ → Bool) → ((j : ℕ) → q j ≡ true → p j ≡ true) →
    ((j : ℕ) → j < n → q j ≡ p j) ⊎ (count n q < count n p)
same_or_fewer zero p q sub = inl (λ j h. absurd (omega arith))
same_or_fewer (suc n) p q sub = elim (same_or_fewer n p q sub) [
  | inr less ↦ inr (omega (arith, less, one_le (p n) (q n) (sub n)))
  | inl same ↦ at_last same (p n) (q n) refl refl
]
  where
    more : ((j : ℕ) → j < n → q j ≡ p j) → q n ≡ p n → (j : ℕ) → j < suc n → q j ≡ p j
    more same e j h = elim (cases_eq n j) [ inl u ↦ subst (λ z. q z ≡ p z) u e | inr d ↦ same j (omega arith) ]

    at_last : ((j : ℕ) → j < n → q j ≡ p j) → (u v : Bool) → p n ≡ u → q n ≡ v →
        ((j : ℕ) → j < suc n → q j ≡ p j) ⊎ (count (suc n) q < count (suc n) p)
    at_last same true true e f = inl (more same (f ∙ sym e))
    at_last same false false e f = inl (more same (f ∙ sym e))
    at_last same false true e f = absurd (both_ways (p n) e (sub n f))
    at_last same true false e f =
        let fewer = sum_le true n (λ j. cond {A = ℕ} (q j) 1 0) (λ j. cond {A = ℕ} (p j) 1 0) (λ j. one_le (p j) (q j) (sub j)) in
        inr (omega (arith, fewer, cond-true {A = ℕ} (p n) 1 0 e, cond-false {A = ℕ} (q n) 1 0 f))
