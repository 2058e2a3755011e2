-- The number that bytes spell, one byte more at a time.
use Rattle.std.proofs.Common.{◌≡◌, ℕ, suc, ◌+◌, ◌*◌, ◌^◌, ◌<◌, ◌≤◌, List, [], ◌∷◌, ◌++◌, length, get_or, map, Iter, Some, Bor, sym, subst, ap, length-append, ◌∙◌, mul_assoc, pow-suc, add-one, arith}
use native.Mathlib.Nat.{pow-le-pow_right, mul-le-mul_right}
use Rattle.std.proofs.lemmas.List.{length_push, append_assoc, map-append}
use Rattle.std.proofs.lemmas.Fn.{fronts}
use Rattle.std.specs.Iterator.{Yields}
use Rattle.trace.specs.Big.{big}

pow_more : (i : ℕ) → 256 ^ (i + 1) ≡ 256 ^ i * 256
pow_more i = ap (λ k. 256 ^ k) (add-one i) ∙ pow-suc 256 i

pub big_push : (xs : List ℕ) (b : ℕ) → big (xs ++ b ∷ []) ≡ big xs * 256 + b
big_push [] b = omega arith
big_push (x ∷ xs) b =
    let weight : x * 256 ^ length (xs ++ b ∷ []) ≡ x * 256 ^ length xs * 256 =
    ap (λ k. x * 256 ^ k) (length_push xs b) ∙ ap (λ k. x * k) (pow_more (length xs)) ∙ sym (mul_assoc x (256 ^ length xs) 256) in
    omega (arith, weight, big_push xs b)

pub big_more : (xs : List (Bor ℕ)) (x : Bor ℕ) → big (map (λ y. y.now) (xs ++ x ∷ [])) ≡ big (map (λ y. y.now) xs) * 256 + x.now
big_more xs x = rw map-append (big_push (map (λ y. y.now) xs) x.now)

-- bytes at the front of others
pub big_below : (xs rest : List ℕ) → ((i : ℕ) → get_or (xs ++ rest) i 0 < 256) → big xs < 256 ^ length xs
big_below [] rest bytes = omega arith
big_below (x ∷ xs) rest bytes =
    omega (arith, bytes 0, big_below xs rest (λ i. bytes (suc i)), pow-suc 256 (length xs), mul-le-mul_right {m = x} {n = 255} (256 ^ length xs) (omega (arith, bytes 0)))

-- what an iterator gave is the front of what it was to give
pub seen : (xs : List (Bor ℕ)) (s t : Iter ℕ) → Yields fronts s xs t → s.rest.now ≡ map (λ y. y.now) xs ++ t.rest.now
seen [] s t y = ap (λ i. i.rest.now) y
seen (x ∷ xs) s t (u, one, more) = one ∙ ap (λ l. x.now ∷ l) (seen xs u t more)

-- with one byte more they are eight at most, so that the number fits
pub room : (xs : List (Bor ℕ)) (x : Bor ℕ) (s t u : Iter ℕ) → Yields fronts s xs t → fronts t (Some x) u → length s.rest.now ≤ 8
    → ((i : ℕ) → get_or s.rest.now i 0 < 256) → big (map (λ y. y.now) xs) * 256 + x.now < 2 ^ 64
room xs x s t u given one short bytes =
    let front = map (λ y. y.now) xs in
    let all : s.rest.now ≡ (front ++ x.now ∷ []) ++ u.rest.now =
    seen xs s t given ∙ ap (λ l. front ++ l) one ∙ sym (append_assoc front (x.now ∷ []) u.rest.now) in
    let below : big (front ++ x.now ∷ []) < 256 ^ length (front ++ x.now ∷ []) =
    big_below (front ++ x.now ∷ []) u.rest.now (λ i. subst (λ l. get_or l i 0 < 256) all (bytes i)) in
    let few : length (front ++ x.now ∷ []) ≤ 8 = omega (arith, ap length all, length-append (front ++ x.now ∷ []) u.rest.now) in
    omega (arith, big_push front x.now, below, pow-le-pow_right {n = 256} (omega arith) {i = length (front ++ x.now ∷ [])} {j = 8} few)
