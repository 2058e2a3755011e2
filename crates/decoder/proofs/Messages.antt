-- What goes to a slot, where the messages of a claimant stand side by side.
use Rattle.std.proofs.Common.{◌≡◌, ℕ, ◌<◌, ◌≤◌, false, eqb, List, [], ◌∷◌, length, get_or, Some, None, Option, sym, refl, ◌∙◌, inl, inr, arith}
use Rattle.std.proofs.lemmas.Bool.{cases_eq, cases_lt, cond-true, cond-false, lt-ltb, le-ltb, or_parts}
use Rattle.std.proofs.lemmas.Bool.Decides.{nat_tests}
use Rattle.std.specs.List.{position, position_or_len}
use Rattle.rounds.specs.Rounds.{has}
use Rattle.decoder.specs.Area.{to}

-- The place of a slot in a row.
abbrev pub place : ℕ → List ℕ → ℕ
place s row = position_or_len (λ a. eqb a s) row

at_place : (s : ℕ) (row msgs : List ℕ) → place s row < length row → get_or msgs (place s row) 0 ≡ to s row msgs
at_place s [] msgs lt = absurd (omega arith)
at_place s (a ∷ row) [] lt = refl
at_place s (a ∷ row) (x ∷ msgs) lt = elim (cases_eq a s) [
  | inl e ↦ grind (arith, nat_tests)
  | inr d ↦ let h : place s row < length row = grind (arith, nat_tests) in let r = at_place s row msgs h in grind (arith, nat_tests)
]

no_place : (s : ℕ) (row msgs : List ℕ) → length row ≤ place s row → 0 ≡ to s row msgs
no_place s [] msgs le = refl
no_place s (a ∷ row) [] le = refl
no_place s (a ∷ row) (x ∷ msgs) le = elim (cases_eq a s) [
  | inl e ↦ absurd (grind (arith, nat_tests))
  | inr d ↦ let h : length row ≤ place s row = grind (arith, nat_tests) in let r = no_place s row msgs h in grind (arith, nat_tests)
]

module _ (s : ℕ) (row msgs : List ℕ) where
  pub to_found : (p : ℕ) → position (λ a. eqb a s) row ≡ Some p → get_or msgs p 0 ≡ to s row msgs
  to_found p e = elim (cases_lt (place s row) (length row)) [
    | inl lt ↦
        let is : ◌≡◌ {A = Option ℕ} (Some (place s row)) (Some p) = sym (cond-true _ (Some (place s row)) None (lt-ltb _ _ lt)) ∙ e in
        let same : place s row ≡ p = cc in
        rw (← same) (at_place s row msgs lt)
    | inr le ↦
        let is : ◌≡◌ {A = Option ℕ} None (Some p) = sym (cond-false _ (Some (place s row)) None (le-ltb _ _ le)) ∙ e in
        cc
  ]

  pub to_none : position (λ a. eqb a s) row ≡ None → 0 ≡ to s row msgs
  to_none e = elim (cases_lt (place s row) (length row)) [
    | inl lt ↦
        let is : ◌≡◌ {A = Option ℕ} (Some (place s row)) None = sym (cond-true _ (Some (place s row)) None (lt-ltb _ _ lt)) ∙ e in
        cc
    | inr le ↦ no_place s row msgs le
  ]

-- Nothing goes to a slot that the row does not have.
pub to_absent : (s : ℕ) (row msgs : List ℕ) → has s row ≡ false → to s row msgs ≡ 0
to_absent s [] msgs h = refl
to_absent s (a ∷ row) [] h = refl
to_absent s (a ∷ row) (x ∷ msgs) h =
    let r = or_parts (eqb s a) (has s row) h in
    cond-false (eqb s a) x (to s row msgs) r.0 ∙ to_absent s row msgs r.1
