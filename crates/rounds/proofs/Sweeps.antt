-- Claimants are released in sweeps, each through a closed slot that no other one still bound uses.
-- Whoever is bound in the end is in a loose knot, and the end comes within as many sweeps as there are claimants.
use Rattle.std.proofs.Common.{◌≡◌, ℕ, zero, suc, ◌+◌, ◌<◌, ◌≤◌, Bool, true, false, not, ◌&&◌, ◌||◌, eqb, ◌≢◌, ◌⊎◌, List, [], ◌∷◌, length, refl, ap, ◌∙◌, subst, inl, inr, arith}
use Rattle.std.specs.List.{list_all}
use Rattle.std.proofs.lemmas.Bool.{both_ways, eqb-true, eqb-false, cases_eq, not-true, not-false, and_parts, and_cases, and_left, or_cases, or_parts}
use Rattle.rounds.specs.declared.span.Span.{Span}
use Rattle.rounds.specs.Rounds.{Claimant, row_of, has, Uses, filled, TakesPart}
use Rattle.rounds.specs.Laws.{parties, Closed, Shared, LooseKnot}
use Rattle.rounds.proofs.Sums.{count, same_or_fewer}
use Rattle.rounds.proofs.Rows.{has_none, has_here, has_there, has_cons, uses_inside}

-- Tests of the numbers below n, and of the slots of a row.

abbrev any_below : ℕ → (ℕ → Bool) → Bool
any_below zero p = false
any_below (suc n) p = p n || any_below n p

any_find : (n : ℕ) (p : ℕ → Bool) → any_below n p ≡ true → (j : ℕ) × (p j ≡ true)
any_find zero p h = absurd (both_ways false refl h)
any_find (suc n) p h = elim (or_cases (p n) (any_below n p) h) [ inl e ↦ (n, e) | inr k ↦ any_find n p k ]

any_none : (n : ℕ) (p : ℕ → Bool) → any_below n p ≡ false → (j : ℕ) → j < n → p j ≡ false
any_none zero p h j k = absurd (omega arith)
any_none (suc n) p h j k =
    let r = or_parts (p n) (any_below n p) h in
    elim (cases_eq n j) [ inl e ↦ subst (λ z. p z ≡ false) e r.0 | inr d ↦ any_none n p r.1 j (omega arith) ]

pub all_true : (p : ℕ → Bool) (row : List ℕ) → list_all p row ≡ true → (s : ℕ) → has s row ≡ true → p s ≡ true
all_true p [] h s k = absurd (has_none s k)
all_true p (a ∷ row) h s k =
    let r = and_parts (p a) (list_all p row) h in
    elim (has_cons s a row k) [ inl e ↦ ap p e ∙ r.0 | inr u ↦ all_true p row r.1 s u ]

all_false : (p : ℕ → Bool) (row : List ℕ) → list_all p row ≡ false → (s : ℕ) × (has s row ≡ true) × (p s ≡ false)
all_false p [] h = absurd (both_ways true h refl)
all_false p (a ∷ row) h = elim (and_cases (p a) (list_all p row) h) [
  | inl e ↦ (a, has_here a row, e)
  | inr u ↦ let r = all_false p row u in (r.0, has_there r.0 a row r.1, r.2)
]

module _ (cs : List Claimant) (spans : ℕ → Span) where
  -- Claimant j, other than i, is in K and uses slot s.
  abbrev other : (ℕ → Bool) → ℕ → ℕ → ℕ → Bool
  other K i s j = not (eqb j i) && (K j && has s (row_of cs j))

  -- Slot s does not release i: it is open, or another one in K uses it.
  abbrev binds : (ℕ → Bool) → ℕ → ℕ → Bool
  binds K i s = not (eqb (spans s).low (spans s).high) || any_below (length cs) (other K i s)

  abbrev stays : (ℕ → Bool) → ℕ → Bool
  stays K i = list_all (binds K i) (row_of cs i)

  -- Who is still bound after k sweeps.
  abbrev pub bound : ℕ → ℕ → Bool
  bound zero i = filled (row_of cs i)
  bound (suc k) i = bound k i && stays (bound k) i

  -- A closed slot of i that no other one in K uses.
  abbrev pub Release : (ℕ → Bool) → ℕ → Type 0
  Release K i = (s : ℕ) × Uses cs i s × Closed spans s × ((j : ℕ) → j ≢ i → Uses cs j s → K j ≡ false)

  goes : (K : ℕ → Bool) (i : ℕ) → stays K i ≡ false → Release K i
  goes K i h =
      let r = all_false (binds K i) (row_of cs i) h in
      let s = r.0 in
      let u = or_parts (not (eqb (spans s).low (spans s).high)) (any_below (length cs) (other K i s)) r.2 in (
        s,
        r.1,
        eqb-true _ _ (not-false _ u.0),
        λ j d k.
            let o = any_none (length cs) (other K i s) u.1 j (uses_inside cs j s k) in
            elim (and_cases (not (eqb j i)) (K j && has s (row_of cs j)) o) [
              | inl e ↦ absurd (d (eqb-true j i (not-false _ e)))
              | inr e ↦ elim (and_cases (K j) (has s (row_of cs j)) e) [ inl f ↦ f | inr f ↦ absurd (both_ways _ f k) ]
            ],
      )

  kept : (K : ℕ → Bool) (i : ℕ) → stays K i ≡ true → (s : ℕ) → Uses cs i s → Closed spans s → Shared cs K i s
  kept K i h s k c =
      let w = all_true (binds K i) (row_of cs i) h s k in
      elim (or_cases (not (eqb (spans s).low (spans s).high)) (any_below (length cs) (other K i s)) w) [
        | inl e ↦ absurd (eqb-false _ _ (not-true _ e) c)
        | inr e ↦
            let r = any_find (length cs) (other K i s) e in
            let j = r.0 in
            let u = and_parts (not (eqb j i)) (K j && has s (row_of cs j)) r.1 in
            let v = and_parts (K j) (has s (row_of cs j)) u.1 in
            (j, eqb-false j i (not-true _ u.0), v.0, v.1)
      ]

  pub released : (k i : ℕ) → bound k i ≡ true → bound (suc k) i ≡ false → Release (bound k) i
  released k i h e = elim (and_cases (bound k i) (stays (bound k) i) e) [
    | inl u ↦ absurd (both_ways _ u h)
    | inr u ↦ goes (bound k) i u
  ]

  pub stays_released : (k i : ℕ) → bound k i ≡ false → bound (suc k) i ≡ false
  stays_released k i h = and_left (bound k i) (stays (bound k) i) h

  bound_part : (k i : ℕ) → bound k i ≡ true → TakesPart cs i
  bound_part zero i h = h
  bound_part (suc k) i h = bound_part k i (and_parts (bound k i) (stays (bound k) i) h).0

  -- The sweep after k releases nobody.
  Idle : ℕ → Type 0
  Idle k = (j : ℕ) → j < length cs → bound (suc k) j ≡ bound k j

  idle_or_fewer : (k : ℕ) → ((k' : ℕ) × (k' < k) × Idle k') ⊎ (count (length cs) (bound k) + k ≤ parties cs)
  unfolding Idle
  idle_or_fewer zero = inr (omega arith)
  idle_or_fewer (suc k) = elim (idle_or_fewer k) [
    | inl r ↦ inl (r.0, omega (arith, r.1), r.2)
    | inr h ↦ elim (same_or_fewer (length cs) (bound k) (bound (suc k)) (λ j e. (and_parts (bound k j) (stays (bound k) j) e).0)) [
      | inl same ↦ inl (k, omega arith, same)
      | inr less ↦ inr (omega arith)
    ]
  ]

  idle_knot : (k : ℕ) → Idle k → LooseKnot cs spans (bound k)
  unfolding Idle
  idle_knot k same = record {
    parts = bound_part k;
    shared = λ i s h u c.
        kept (bound k) i (and_parts (bound k i) (stays (bound k) i) (same i (uses_inside cs i s u) ∙ h)).1 s u c;
  }

  pub swept : (k : ℕ) × (k ≤ parties cs) × LooseKnot cs spans (bound k)
  swept = elim (idle_or_fewer (suc (parties cs))) [
    | inl r ↦ (r.0, omega (arith, r.1), idle_knot r.0 r.2)
    | inr h ↦ absurd (omega arith)
  ]
