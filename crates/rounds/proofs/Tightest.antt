-- The tightest of some replies: it is one of them, it is as tight as each, and it follows when they tighten.
use Rattle.std.proofs.Common.{◌≡◌, ℕ, ◌≤◌, Bool, true, false, ◌⊎◌, List, [], ◌∷◌, map, sym, refl, ap, ◌∙◌, subst, inl, inr, arith}
use Rattle.std.proofs.lemmas.Bool.{cases_lt}
use Rattle.rounds.specs.Rounds.{has, tighter, tightest}
use Rattle.rounds.proofs.Order.{Le, le_eq, le_trans}
use Rattle.rounds.proofs.Rows.{has_none, has_here, has_there, has_cons}

tighter_left : (b : Bool) (x y : ℕ) → Le b (tighter b x y) x
tighter_left true x y = omega arith
tighter_left false x y = omega arith

tighter_right : (b : Bool) (x y : ℕ) → Le b (tighter b x y) y
tighter_right true x y = omega arith
tighter_right false x y = omega arith

tighter_one : (b : Bool) (x y : ℕ) → (tighter b x y ≡ x) ⊎ (tighter b x y ≡ y)
tighter_one true x y = elim (cases_lt x y) [ inl h ↦ inl (omega arith) | inr h ↦ inr (omega arith) ]
tighter_one false x y = elim (cases_lt x y) [ inl h ↦ inr (omega arith) | inr h ↦ inl (omega arith) ]

tighter_mono : (b : Bool) (x x' y y' : ℕ) → Le b x x' → Le b y y' → Le b (tighter b x y) (tighter b x' y')
tighter_mono true x x' y y' p q = omega arith
tighter_mono false x x' y y' p q = omega arith

pub tightest_le : (b : Bool) (f : ℕ → ℕ) (row : List ℕ) (s : ℕ) → has s row ≡ true → Le b (tightest b (map f row)) (f s)
tightest_le b f [] s h = absurd (has_none s h)
tightest_le b f (a ∷ []) s h = elim (has_cons s a [] h) [ inl e ↦ le_eq b (f a) (f s) (ap f (sym e)) | inr k ↦ absurd (has_none s k) ]
tightest_le b f (a ∷ (c ∷ row)) s h = elim (has_cons s a (c ∷ row) h) [
  | inl e ↦ subst (λ z. Le b (tightest b (map f (a ∷ (c ∷ row)))) (f z)) (sym e) (tighter_left b (f a) (tightest b (map f (c ∷ row))))
  | inr k ↦ le_trans b _ _ _ (tighter_right b (f a) (tightest b (map f (c ∷ row)))) (tightest_le b f (c ∷ row) s k)
]

pub tightest_in : (b : Bool) (f : ℕ → ℕ) (row : List ℕ) (s : ℕ) → has s row ≡ true →
    (a : ℕ) × (has a row ≡ true) × (tightest b (map f row) ≡ f a)
tightest_in b f [] s h = absurd (has_none s h)
tightest_in b f (a ∷ []) s h = (a, has_here a [], refl)
tightest_in b f (a ∷ (c ∷ row)) s h = elim (tighter_one b (f a) (tightest b (map f (c ∷ row)))) [
  | inl e ↦ (a, has_here a (c ∷ row), e)
  | inr e ↦ let r = tightest_in b f (c ∷ row) c (has_here c row) in (r.0, has_there r.0 a (c ∷ row) r.1, e ∙ r.2)
]

pub tightest_mono : (b : Bool) (f g : ℕ → ℕ) (row : List ℕ) → ((s : ℕ) → has s row ≡ true → Le b (f s) (g s)) →
    Le b (tightest b (map f row)) (tightest b (map g row))
tightest_mono b f g [] h = le_eq b 0 0 refl
tightest_mono b f g (a ∷ []) h = h a (has_here a [])
tightest_mono b f g (a ∷ (c ∷ row)) h = tighter_mono b (f a) (g a) _ _ (h a (has_here a (c ∷ row)))
    (tightest_mono b f g (c ∷ row) (λ s k. h s (has_there s a (c ∷ row) k)))

pub tightest_most : (b : Bool) (f : ℕ → ℕ) (m : ℕ) (row : List ℕ) → ((s : ℕ) → has s row ≡ true → f s ≤ m) → tightest b (map f row) ≤ m
tightest_most b f m [] h = omega arith
tightest_most b f m (a ∷ row) h =
    let r = tightest_in b f (a ∷ row) a (has_here a row) in
    omega (arith, r.2, h r.0 r.1)
