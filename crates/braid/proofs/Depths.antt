-- The modulus of a depth, and what n units more do to a quotient and a remainder by it.
use Rattle.std.proofs.Common.{◌≡◌, ℕ, ◌+◌, ◌*◌, ◌/◌, ◌%◌, ◌^◌, ◌<◌, ◌≤◌, Bool, true, false, cond, ◌&&◌, leb, Ok, Err, Result, sym, ap, ◌∙◌, inl, inr, mod-eq_of_lt, mul-le-mul_left, arith, pow_mono}
use native.Mathlib.Nat.{mul-add-div, div-add-mod, mod-le, mul-div-le, mod-add-mod}
use Rattle.std.proofs.lemmas.Nat.{le-div}
use Rattle.std.proofs.lemmas.Bool.{cases_lt, le-leb, lt-leb}
use Rattle.wiring.specs.Wiring.{depth_from}

pub made_depth : (b d : ℕ) → ◌≡◌ {A = Result ℕ ℕ} (Ok b) (depth_from d) → b ≡ d
made_depth b d is = at (leb 2 d && leb d 16) is
  where
    at : (t : Bool) → ◌≡◌ {A = Result ℕ ℕ} (Ok b) (cond t (Ok d) (Err 10)) → b ≡ d
    at true e = cc
    at false e = let z : ◌≡◌ {A = ℕ} 0 1 = cc in absurd (omega arith)

pub modulus_least : (b : ℕ) → 2 ≤ b → 4 ≤ 2 ^ b
modulus_least b h = pow_mono {i = 2} {j = b} h

module _ (M x n : ℕ) (some : 0 < M) where
  -- what is carried
  pub quotient_more : (x + n) / M ≡ x / M + (x % M + n) / M
  quotient_more =
      let e : x + n ≡ M * (x / M) + (x % M + n) = omega (arith, div-add-mod x M) in
      ap (λ y. y / M) e ∙ mul-add-div {m = M} some (x / M) (x % M + n)

  pub remainder_more : (x % M + n) % M ≡ (x + n) % M
  remainder_more = mod-add-mod x M n

  -- a carry raises a slot, and no carry leaves it as it is
  pub raised_by_carry : 1 ≤ (x % M + n) / M → leb M (x + n) ≡ true
  raised_by_carry h =
      le-leb M (x + n) (omega (arith, mod-le x M, mul-div-le (x % M + n) M, mul-le-mul_left {m = 1} {n = (x % M + n) / M} M h))

  pub raised_as_before : (x % M + n) / M < 1 → leb M (x + n) ≡ leb M x
  raised_as_before h =
      let low : x % M + n < M = elim (cases_lt (x % M + n) M) [
        | inl less ↦ less
        | inr more ↦ absurd (omega (arith, le-div 1 (x % M + n) M some (omega arith)))
      ] in
      elim (cases_lt x M) [
        | inl below ↦ lt-leb M (x + n) (omega (arith, mod-eq_of_lt below)) ∙ sym (lt-leb M x below)
        | inr above ↦ le-leb M (x + n) (omega arith) ∙ sym (le-leb M x above)
      ]
