-- What stands first in some bytes: a record or an ending, and never two of them.
use Rattle.std.proofs.Common.{◌≡◌, ℕ, ◌+◌, ◌<◌, ◌≤◌, cond, eqb, leb, ◌⊎◌, List, [], ◌∷◌, ◌++◌, length, take, drop, sym, refl, ap, ◌∙◌, subst, inl, inr, arith, length-append, length-drop, length-take}
use Rattle.std.proofs.lemmas.List.{append_assoc, take_at, drop_at, take-append-drop, drop-drop}
use Rattle.std.proofs.lemmas.Bool.{cases_eq, cases_lt, ne_eqb, le-leb, lt-leb}
use Rattle.trace.specs.Layout.{Entry, enrol, amount, remark, Ending, end, unknown, short, trailing, nothing, body_length, Known, lay_entry, lay_ending, ProperEntry, ProperEnding}

abbrev pub Head : Type 0
Head = Entry ⊎ Ending

-- the bytes begin with this record, or are this ending
abbrev pub Heads : List ℕ → Head → Type 0
Heads t (inl e) = ProperEntry e × ((rest : List ℕ) × (t ≡ lay_entry e ++ rest))
Heads t (inr o) = ProperEnding o × (t ≡ lay_ending o)

-- what the first bytes can only be
abbrev whole : ℕ → ℕ → List ℕ → Entry → Head
whole size kind body e = cond (leb size (length body)) (inl e) (inr (short kind body))

abbrev behind_end : List ℕ → Head
behind_end [] = inr end
behind_end (byte ∷ rest) = inr (trailing byte rest)

abbrev by_kind : ℕ → List ℕ → Head
by_kind kind body =
    cond (eqb kind 1) (whole 14 kind body (enrol (take 8 body) (take 6 (drop 8 body))))
    (cond (eqb kind 2) (whole 12 kind body (amount (take 8 body) (take 4 (drop 8 body))))
    (cond (eqb kind 3) (whole 16 kind body (remark (take 16 body)))
    (cond (eqb kind 4) (behind_end body)
    (inr (unknown kind body)))))

abbrev pub first : List ℕ → Head
first [] = inr nothing
first (kind ∷ body) = by_kind kind body

whole_enough : (size kind : ℕ) (body : List ℕ) (e : Entry) → size ≤ length body → whole size kind body e ≡ inl e
whole_enough size kind body e h = rw (le-leb size (length body) h)

whole_short : (size kind : ℕ) (body : List ℕ) (e : Entry) → length body < size → whole size kind body e ≡ inr (short kind body)
whole_short size kind body e h = rw (lt-leb size (length body) h)

-- two fields in front of any bytes are cut off again
cut_two : (x y rest : List ℕ) (m n : ℕ) → length x ≡ m → length y ≡ n → (take m ((x ++ y) ++ rest) ≡ x) × (take n (drop m ((x ++ y) ++ rest)) ≡ y)
cut_two x y rest m n hx hy =
    let e : (x ++ y) ++ rest ≡ x ++ (y ++ rest) = append_assoc x y rest in (
      ap (take m) e ∙ take_at x (y ++ rest) m hx,
      ap (λ l. take n (drop m l)) e ∙ ap (take n) (drop_at x (y ++ rest) m hx) ∙ take_at y rest n hy,
    )

long_two : (x y rest : List ℕ) (m n : ℕ) → length x ≡ m → length y ≡ n → m + n ≤ length ((x ++ y) ++ rest)
long_two x y rest m n hx hy = simp length-append (omega arith)

entry_first : (e : Entry) (rest : List ℕ) → ProperEntry e → first (lay_entry e ++ rest) ≡ inl e
entry_first (enrol id slots) rest (hi, hs) =
    let p = cut_two id slots rest 8 6 hi hs in
    whole_enough 14 1 _ _ (long_two id slots rest 8 6 hi hs) ∙ (λ i. inl (enrol (p.0 i) (p.1 i)))
entry_first (amount id units) rest (hi, hu) =
    let p = cut_two id units rest 8 4 hi hu in
    whole_enough 12 2 _ _ (long_two id units rest 8 4 hi hu) ∙ (λ i. inl (amount (p.0 i) (p.1 i)))
entry_first (remark text) rest h =
    whole_enough 16 3 _ _ (omega (arith, length-append text rest)) ∙ ap (λ x. inl (remark x)) (take_at text rest 16 h)

-- a kind whose body is cut short
abbrev Cut : List ℕ → ℕ → Type 0
Cut rest kind = length rest < body_length kind → first (kind ∷ rest) ≡ inr (short kind rest)

cut_known : (kind : ℕ) (rest : List ℕ) → Known kind → Cut rest kind
cut_known kind rest known = elim (cases_eq kind 1) [
  | inl e ↦ subst (Cut rest) (sym e) (whole_short 14 1 rest _)
  | inr d1 ↦ elim (cases_eq kind 2) [
    | inl e ↦ subst (Cut rest) (sym e) (whole_short 12 2 rest _)
    | inr d2 ↦ elim (cases_eq kind 3) [
      | inl e ↦ subst (Cut rest) (sym e) (whole_short 16 3 rest _)
      | inr d3 ↦ subst (Cut rest) (sym (last d1 d2 d3)) (λ h. absurd (omega arith))
    ]
  ]
]
  where
    last : (kind ≡ 1 → ⊥) → (kind ≡ 2 → ⊥) → (kind ≡ 3 → ⊥) → kind ≡ 4
    last d1 d2 d3 = omega arith

ending_first : (o : Ending) → ProperEnding o → first (lay_ending o) ≡ inr o
ending_first end h = refl
ending_first (unknown kind rest) h =
    rw (ne_eqb kind 1 (λ e. h (omega arith, omega arith)), ne_eqb kind 2 (λ e. h (omega arith, omega arith)), ne_eqb kind 3 (λ e. h (omega arith, omega arith)), ne_eqb kind 4 (λ e. h (omega arith, omega arith)))
ending_first (short kind rest) (known, less) = cut_known kind rest known less
ending_first (trailing byte rest) h = refl
ending_first nothing h = refl

-- what heads some bytes is known from them
pub heads_first : (t : List ℕ) (f : Head) → Heads t f → first t ≡ f
heads_first t (inl e) (proper, (rest, is)) = ap first is ∙ entry_first e rest proper
heads_first t (inr o) (proper, is) = ap first is ∙ ending_first o proper

-- two fields and what is behind them are the bytes that they were cut from
glue_two : (m n : ℕ) (body : List ℕ) → (take m body ++ take n (drop m body)) ++ drop (m + n) body ≡ body
glue_two m n body =
    append_assoc (take m body) (take n (drop m body)) (drop (m + n) body)
    ∙ ap (λ l. take m body ++ (take n (drop m body) ++ l)) (sym (drop-drop n m body))
    ∙ ap (λ l. take m body ++ l) (take-append-drop n (drop m body))
    ∙ take-append-drop m body

-- a body that is long enough gives its record
enrol_heads : (body : List ℕ) → 14 ≤ length body → Heads (1 ∷ body) (inl (enrol (take 8 body) (take 6 (drop 8 body))))
enrol_heads body h = (
  (omega (arith, length-take 8 body), omega (arith, length-take 6 (drop 8 body), length-drop 8 body)),
  (drop 14 body, ap (λ l. 1 ∷ l) (sym (glue_two 8 6 body))),
)

amount_heads : (body : List ℕ) → 12 ≤ length body → Heads (2 ∷ body) (inl (amount (take 8 body) (take 4 (drop 8 body))))
amount_heads body h = (
  (omega (arith, length-take 8 body), omega (arith, length-take 4 (drop 8 body), length-drop 8 body)),
  (drop 12 body, ap (λ l. 2 ∷ l) (sym (glue_two 8 4 body))),
)

remark_heads : (body : List ℕ) → 16 ≤ length body → Heads (3 ∷ body) (inl (remark (take 16 body)))
remark_heads body h = (omega (arith, length-take 16 body), (drop 16 body, ap (λ l. 3 ∷ l) (sym (take-append-drop 16 body))))

abbrev FirstHeads : List ℕ → Type 0
FirstHeads t = Heads t (first t)

-- a body is as long as its kind asks, or it is cut short
either : (kind size : ℕ) (body : List ℕ) (e : Entry) → Known kind → body_length kind ≡ size → first (kind ∷ body) ≡ whole size kind body e
    → (size ≤ length body → Heads (kind ∷ body) (inl e)) → FirstHeads (kind ∷ body)
either kind size body e known long is made = elim (cases_lt (length body) size) [
  | inl h ↦ subst (Heads (kind ∷ body)) (sym (is ∙ whole_short size kind body e h)) ((known, omega arith), refl)
  | inr h ↦ subst (Heads (kind ∷ body)) (sym (is ∙ whole_enough size kind body e h)) (made h)
]

end_first : (body : List ℕ) → FirstHeads (4 ∷ body)
end_first [] = (tt, refl)
end_first (byte ∷ rest) = (tt, refl)

-- every byte string is headed by its first
pub first_heads : (t : List ℕ) → Heads t (first t)
first_heads [] = (tt, refl)
first_heads (kind ∷ body) = elim (cases_eq kind 1) [
  | inl e ↦ at e (either 1 14 body _ (omega arith, omega arith) refl refl (enrol_heads body))
  | inr d1 ↦ elim (cases_eq kind 2) [
    | inl e ↦ at e (either 2 12 body _ (omega arith, omega arith) refl refl (amount_heads body))
    | inr d2 ↦ elim (cases_eq kind 3) [
      | inl e ↦ at e (either 3 16 body _ (omega arith, omega arith) refl refl (remark_heads body))
      | inr d3 ↦ elim (cases_eq kind 4) [
        | inl e ↦ at e (end_first body)
        | inr d4 ↦ subst (Heads (kind ∷ body)) (sym (ending_first (unknown kind body) (none d1 d2 d3 d4))) (none d1 d2 d3 d4, refl)
      ]
    ]
  ]
]
  where
    at : {k : ℕ} → kind ≡ k → FirstHeads (k ∷ body) → FirstHeads (kind ∷ body)
    at e h = subst (λ k. FirstHeads (k ∷ body)) (sym e) h

    none : (kind ≡ 1 → ⊥) → (kind ≡ 2 → ⊥) → (kind ≡ 3 → ⊥) → (kind ≡ 4 → ⊥) → Known kind → ⊥
    none d1 d2 d3 d4 known = omega arith
