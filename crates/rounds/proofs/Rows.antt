-- Rows as lists of slots: which slots they have, and what is left of them besides one slot.
use Rattle.std.proofs.Common.{◌≡◌, ℕ, ◌<◌, true, false, eqb, ◌≢◌, ◌⊎◌, List, [], ◌∷◌, length, sym, refl, ◌∙◌, subst, inl, inr}
use Rattle.std.proofs.lemmas.List.{get_or_past}
use Rattle.std.proofs.lemmas.Bool.{both_ways, eqb-true, eqb-false, eq-eqb, or_cases, or_left, or_right, cases_eq, cases_lt, cond_both}
use Rattle.rounds.specs.Rounds.{Claimant, nobody, has, filled, besides, Uses, TakesPart}
use Rattle.rounds.specs.Laws.{Proper}

pub has_none : (s : ℕ) → has s [] ≡ true → ⊥
has_none s h = both_ways false refl h

pub has_here : (s : ℕ) (row : List ℕ) → has s (s ∷ row) ≡ true
has_here s row = or_left (eqb s s) (has s row) (eq-eqb s s refl)

pub has_there : (s a : ℕ) (row : List ℕ) → has s row ≡ true → has s (a ∷ row) ≡ true
has_there s a row h = or_right (eqb s a) (has s row) h

pub has_cons : (s a : ℕ) (row : List ℕ) → has s (a ∷ row) ≡ true → (s ≡ a) ⊎ (has s row ≡ true)
has_cons s a row h = elim (or_cases (eqb s a) (has s row) h) [ inl e ↦ inl (eqb-true s a e) | inr k ↦ inr k ]

pub has_filled : (s : ℕ) (row : List ℕ) → has s row ≡ true → filled row ≡ true
has_filled s [] h = h
has_filled s (a ∷ row) h = refl

pub filled_has : (row : List ℕ) → filled row ≡ true → (s : ℕ) × (has s row ≡ true)
filled_has [] h = (0, h)
filled_has (a ∷ row) h = (a, has_here a row)

pub has_besides : (s a : ℕ) (row : List ℕ) → has a (besides s row) ≡ true → (has a row ≡ true) × (a ≢ s)
has_besides s a [] = λ h. absurd (has_none a h)
has_besides s a (b ∷ row) =
    let Other : List ℕ → Type 0 = λ l. has a l ≡ true → (has a (b ∷ row) ≡ true) × (a ≢ s) in
    cond_both (eqb b s) (besides s row) (b ∷ besides s row) Other
    (λ e h. let r = has_besides s a row h in (has_there a b row r.0, r.1))
    (λ e h. elim (has_cons a b (besides s row) h) [
      | inl q ↦ (subst (λ z. has a (z ∷ row) ≡ true) q (has_here a row), λ p. eqb-false b s e (sym q ∙ p))
      | inr k ↦ let r = has_besides s a row k in (has_there a b row r.0, r.1)
    ])

pub besides_has : (s a : ℕ) (row : List ℕ) → a ≢ s → has a row ≡ true → has a (besides s row) ≡ true
besides_has s a [] d h = absurd (has_none a h)
besides_has s a (b ∷ row) d h = cond_both (eqb b s) (besides s row) (b ∷ besides s row) (λ l. has a l ≡ true)
    (λ e. elim (has_cons a b row h) [ inl q ↦ absurd (d (q ∙ eqb-true b s e)) | inr k ↦ besides_has s a row d k ])
    (λ e. elim (has_cons a b row h) [
      | inl q ↦ subst (λ z. has a (z ∷ besides s row) ≡ true) q (has_here a (besides s row))
      | inr k ↦ has_there a b (besides s row) (besides_has s a row d k)
    ])

-- In a proper row there is another slot beside each.
pub another : (row : List ℕ) (s : ℕ) → Proper row → has s row ≡ true → (a : ℕ) × (has a (besides s row) ≡ true)
another [] s p h = absurd (has_none s h)
another (a ∷ []) s p h = absurd p
another (a ∷ (b ∷ row)) s p h = elim (cases_eq a s) [
  | inl e ↦
      let apart : b ≢ s = λ q. both_ways _ p.0 (subst (λ z. has z (b ∷ row) ≡ true) (q ∙ sym e) (has_here b row)) in
      (b, besides_has s b (a ∷ (b ∷ row)) apart (has_there b a (b ∷ row) (has_here b row)))
  | inr d ↦ (a, besides_has s a (a ∷ (b ∷ row)) d (has_here a (b ∷ row)))
]

-- Whoever uses a slot takes part, and is in the list.
pub uses_part : (cs : List Claimant) (i s : ℕ) → Uses cs i s → TakesPart cs i
uses_part cs i s h = has_filled s _ h

pub uses_inside : (cs : List Claimant) (i s : ℕ) → Uses cs i s → i < length cs
uses_inside cs i s h = elim (cases_lt i (length cs)) [
  | inl k ↦ k
  | inr k ↦ absurd (has_none s (subst (λ (c : Claimant). has s c.row ≡ true) (get_or_past cs i nobody k) h))
]
