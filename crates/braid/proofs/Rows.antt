-- What the rows of a braid carry into the store below weighs less than what the braid holds.
use Rattle.braid.specs.BraidMeaning.{rows}
use Rattle.std.proofs.Common.{◌≡◌, ℕ, zero, suc, ◌*◌, ◌/◌, ◌<◌, ◌≤◌, true, List, [], length, get_or, ap, ◌∙◌, mul-le-mul_right, arith}
use native.Mathlib.Nat.{mul-div-le}
use Rattle.rounds.specs.Rounds.{sum}
use Rattle.store.specs.Meaning.{Within}
use Rattle.store.specs.Sums.{slot_sums}
use Rattle.store.specs.Totals.{total}
use Rattle.store.proofs.Rows.{row_length, row_distinct}
use Rattle.store.proofs.Sums.{sum_ext, total_sum, total_sums}
use Rattle.wiring.specs.Rising.{is_row}

sum_light : (n : ℕ) (f g : ℕ → ℕ) → ((i : ℕ) → i < n → 4 * f i ≤ 3 * g i) → 4 * sum n f ≤ 3 * sum n g
sum_light zero f g h = omega arith
sum_light (suc n) f g h = omega (arith, sum_light n f g (λ i l. h i (omega arith)), h n (omega arith))

-- each unit carried into three slots stands for four or more, so what is carried is at most three quarters of it all
pub sums_light : (N : ℕ) (rows : List (List ℕ)) (T : List ℕ) (M : ℕ) → 4 ≤ M → length T ≡ length rows
    → ((i : ℕ) → i < length rows → is_row (get_or rows i []) ≡ true) → ((i : ℕ) → i < length rows → Within N (get_or rows i []))
    → 4 * total (slot_sums N rows (λ i. get_or T i 0 / M)) ≤ 3 * total T
sums_light N rows T M four long made within =
    let carried : ℕ → ℕ = λ i. get_or T i 0 / M in
    let quarter : (i : ℕ) → 4 * carried i ≤ get_or T i 0 =
    λ i. omega (arith, mul-div-le (get_or T i 0) M, mul-le-mul_right {m = 4} {n = M} (get_or T i 0 / M) four) in
    let all = total_sums N rows carried (λ i h. row_distinct (get_or rows i []) (made i h)) within in
    let threes : sum (length rows) (λ i. length (get_or rows i []) * carried i) ≡ sum (length rows) (λ i. 3 * carried i) =
    sum_ext (length rows) _ _ (λ i h. ap (λ n. n * carried i) (row_length (get_or rows i []) (made i h))) in
    let held : total T ≡ sum (length rows) (λ i. get_or T i 0) = total_sum T ∙ ap (λ n. sum n (λ i. get_or T i 0)) long in
    let light = sum_light (length rows) (λ i. 3 * carried i) (λ i. get_or T i 0) (λ i h. omega (arith, quarter i)) in
    omega (arith, all, threes, held, light)
