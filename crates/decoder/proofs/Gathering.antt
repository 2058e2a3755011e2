-- The tightest of some replies, gathered one by one, and what it is of the replies but one; and the message that is found at a slot's place.
use Rattle.std.proofs.Common.{◌≡◌, ℕ, zero, suc, ◌+◌, ◌<◌, ◌≤◌, Bool, true, false, cond, not, eqb, List, [], ◌∷◌, map, length, get_or, Some, None, Option, unwrap_or, sym, refl, ap, ◌∙◌, subst, inl, inr, arith}
use Rattle.std.proofs.lemmas.Bool.{cases_eq, cond-true, cond-false, eq-eqb, ne_eqb, or_parts, eqb-false}
use Rattle.std.proofs.lemmas.Iterator.{YieldsList}
use Rattle.std.proofs.lemmas.Iterator.Consumers.{reduce_from_yields_List}
use Rattle.std.specs.Fn.{Called}
use Rattle.std.specs.Iterator.{ReducesItems, FoldTurn}
use Rattle.std.specs.List.{FoldsTo, enumerate_from, filter, fold, reduce}
use denote.Param.Members.{Mut}
use Rattle.rounds.specs.Rounds.{has, besides, tighter, tightest}
use Rattle.rounds.specs.Laws.{Distinct}
use Rattle.rounds.proofs.Rows.{has_none, has_cons}
use Rattle.decoder.specs.Area.{but, to}

-- Where slot s stands in a row.
abbrev pub place : ℕ → List ℕ → ℕ
place s [] = 0
place s (a ∷ row) = cond (eqb s a) 0 (suc (place s row))

pub place_inside : (s : ℕ) (row : List ℕ) → has s row ≡ true → place s row < length row
place_inside s [] h = absurd (has_none s h)
place_inside s (a ∷ row) h = elim (cases_eq s a) [
  | inl e ↦ omega (arith, cond-true (eqb s a) 0 (suc (place s row)) (eq-eqb s a e))
  | inr d ↦ elim (has_cons s a row h) [
    | inl e ↦ absurd (d e)
    | inr k ↦ omega (arith, cond-false (eqb s a) 0 (suc (place s row)) (ne_eqb s a d), place_inside s row k)
  ]
]

-- What goes to a slot of the row stands at the slot's place.
pub to_place : (s : ℕ) (row msgs : List ℕ) → has s row ≡ true → to s row msgs ≡ get_or msgs (place s row) 0
to_place s [] msgs h = absurd (has_none s h)
to_place s (a ∷ row) [] h = refl
to_place s (a ∷ row) (x ∷ msgs) h = elim (cases_eq s a) [
  | inl e ↦
      let on = eq-eqb s a e in
      cond-true (eqb s a) x (to s row msgs) on ∙ sym (ap (λ p. get_or (x ∷ msgs) p 0) (cond-true (eqb s a) 0 (suc (place s row)) on))
  | inr d ↦ elim (has_cons s a row h) [
    | inl e ↦ absurd (d e)
    | inr k ↦
        let off = ne_eqb s a d in
        cond-false (eqb s a) x (to s row msgs) off ∙ to_place s row msgs k
        ∙ sym (ap (λ p. get_or (x ∷ msgs) p 0) (cond-false (eqb s a) 0 (suc (place s row)) off))
  ]
]

-- Three messages, each by its place.
pub three_at : (tell : ℕ → ℕ) (p : ℕ) → p < 3 → get_or (tell 0 ∷ (tell 1 ∷ (tell 2 ∷ []))) p 0 ≡ tell p
three_at tell zero h = refl
three_at tell (suc zero) h = refl
three_at tell (suc (suc zero)) h = refl
three_at tell (suc (suc (suc p))) h = absurd (omega arith)

tighter_assoc : (up : Bool) (x y z : ℕ) → tighter up x (tighter up y z) ≡ tighter up (tighter up x y) z
tighter_assoc true x y z = omega arith
tighter_assoc false x y z = omega arith

fold_tightest : (up : Bool) (x : ℕ) (xs : List ℕ) → fold (tighter up) x xs ≡ tightest up (x ∷ xs)
fold_tightest up x [] = refl
fold_tightest up x (y ∷ []) = refl
fold_tightest up x (y ∷ (z ∷ zs)) =
    fold_tightest up (tighter up x y) (z ∷ zs) ∙ sym (tighter_assoc up x y (tightest up (z ∷ zs)))

-- The tightest, gathered one by one.
pub reduce_tightest : (up : Bool) (xs : List ℕ) → unwrap_or (reduce (tighter up) xs) 0 ≡ tightest up xs
reduce_tightest up [] = refl
reduce_tightest up (x ∷ xs) = fold_tightest up x xs

-- Elements that are numbered from n, but the one with some number.
abbrev pub unless : ℕ → ℕ × ℕ → Bool
unless skip p = not (eqb p.0 skip)

all_left : (skip n : ℕ) (xs : List ℕ) → skip < n → map (λ (p : ℕ × ℕ). p.1) (filter (unless skip) (enumerate_from n xs)) ≡ xs
all_left skip n [] lt = refl
all_left skip n (x ∷ xs) lt = rw (ne_eqb n skip (omega arith)) (ap (λ l. x ∷ l) (all_left skip (n + 1) xs (omega arith)))

pub others_left : (p skip n : ℕ) (xs : List ℕ) → n + p ≡ skip → map (λ (p : ℕ × ℕ). p.1) (filter (unless skip) (enumerate_from n xs)) ≡ but p xs
others_left p skip n [] e = refl
others_left zero skip n (x ∷ xs) e = rw (eq-eqb n skip (omega arith)) (all_left skip (n + 1) xs (omega arith))
others_left (suc p) skip n (x ∷ xs) e = rw (ne_eqb n skip (omega arith)) (ap (λ l. x ∷ l) (others_left p skip (n + 1) xs (omega arith)))

-- `reduce` at a closure that gives h of its two arguments.
module _ {A F : Type 0} (g : Mut F (A × (A × Unit {0})) A) (h : A → A → A) (f : F)
    (k : (a x b : A) (q : F) → Called g f (a, (x, tt)) b q → (q ≡ f) × (b ≡ h a x)) where
  turns : (xs : List A) (p q : F × A) → p.0 ≡ f → FoldsTo (FoldTurn g) p xs q → FoldsTo (λ a x b. b ≡ h a x) p.1 xs q.1
  turns [] p q e d = ap (λ (w : F × A). w.1) d
  turns (x ∷ xs) p q e d =
      let m = k p.1 x d.0.1 d.0.0 (subst (λ w. Called g w (p.1, (x, tt)) d.0.1 d.0.0) e d.1) in
      (d.0.1, m.1, turns xs d.0 q m.0 d.2)

  pub reduced : {S : Type 0} {steps : S → Option A → S → Type 0} (s : S) (r : Option A) (all : List A) → ReducesItems steps g s f r → YieldsList steps (λ x. x) s all → r ≡ reduce h all
  reduced s None all d road = reduce_from_yields_List h s None d road
  reduced s (Some y) all d road = reduce_from_yields_List h s (Some y) (d.0, d.1, d.3, turns d.1 (f, d.0) (d.2, y) refl d.4) road

pub but_none : (p : ℕ) (xs : List ℕ) → length xs ≤ p → but p xs ≡ xs
but_none p [] h = refl
but_none zero (x ∷ xs) h = absurd (omega arith)
but_none (suc p) (x ∷ xs) h = ap (λ l. x ∷ l) (but_none p xs (omega arith))

besides_none : (s : ℕ) (row : List ℕ) → has s row ≡ false → besides s row ≡ row
besides_none s [] h = refl
besides_none s (a ∷ row) h =
    let r = or_parts (eqb s a) (has s row) h in
    cond-false (eqb a s) _ _ (ne_eqb a s (λ e. eqb-false s a r.0 (sym e))) ∙ ap (λ l. a ∷ l) (besides_none s row r.1)

-- In a row with no slot twice, the replies but the one at a slot's place are those of the other slots.
pub but_besides : (f : ℕ → ℕ) (s : ℕ) (row : List ℕ) → Distinct row → has s row ≡ true →
    but (place s row) (map f row) ≡ map f (besides s row)
but_besides f s [] d h = absurd (has_none s h)
but_besides f s (a ∷ row) d h = elim (cases_eq s a) [
  | inl e ↦
      let gone : has s row ≡ false = ap (λ z. has z row) e ∙ d.0 in
      ap (λ p. but p (f a ∷ map f row)) (cond-true (eqb s a) 0 (suc (place s row)) (eq-eqb s a e))
      ∙ ap (map f) (sym (cond-true (eqb a s) _ _ (eq-eqb a s (sym e)) ∙ besides_none s row gone))
  | inr n ↦ elim (has_cons s a row h) [
    | inl e ↦ absurd (n e)
    | inr k ↦
        ap (λ p. but p (f a ∷ map f row)) (cond-false (eqb s a) 0 (suc (place s row)) (ne_eqb s a n))
        ∙ ap (λ l. f a ∷ l) (but_besides f s row d.1 k)
        ∙ ap (map f) (sym (cond-false (eqb a s) (besides s row) (a ∷ besides s row) (ne_eqb a s (λ e. n (sym e)))))
  ]
]
