-- What a reader finds first where it stands is its next answer, and takes it to the place of the
-- one after.
use Rattle.std.proofs.Common.{◌≡◌, ℕ, zero, suc, ◌+◌, ◌-◌, ◌<◌, ◌≤◌, List, [], ◌∷◌, ◌++◌, length, get_or, take, drop, unwrap_or, sym, refl, ap, ◌∙◌, subst, inl, inr, add-zero, add-one, arith, length-append}
use Rattle.std.specs.List.{slice_get, flat_map}
use Rattle.std.specs.Option.{option_map}
use Rattle.std.proofs.lemmas.List.{append_assoc, drop_at, take_rest, nil_from_length, drop_more, take-append-drop}
use Rattle.std.proofs.lemmas.Grind.{flat_map-append}
use Rattle.trace.specs.declared.kind.Kind.{Kind}
use Rattle.trace.specs.declared.kind.Kind.TheVariants.{Enrol, Amount, Remark, End}
use Rattle.trace.specs.Kinds.{code}
use Rattle.trace.specs.Layout.{Entry, Ending, end, unknown, short, trailing, nothing, Reading, lay_entry, lay_ending, Known, body_length, ProperEntry, ProperEntries, ProperEnding}
use Rattle.trace.specs.Answers.{Answer, entry, ended, fault, outcome, place, answer, Given}
use Rattle.trace.proofs.Heads.{Head, Heads, first, heads_first}
use Rattle.trace.proofs.Ways.{head_of, reading_heads}

-- the records from k on
proper_drop : (k : ℕ) (es : List Entry) → ProperEntries es → ProperEntries (drop k es)
proper_drop zero es p = p
proper_drop (suc k) [] p = tt
proper_drop (suc k) (e ∷ es) p = proper_drop k es p.1

-- what is left of the bytes from record k on
left : (k : ℕ) (es : List Entry) (rest : List ℕ) → drop (length (flat_map lay_entry (take k es))) (flat_map lay_entry es ++ rest) ≡ flat_map lay_entry (drop k es) ++ rest
left k es rest =
    let front = flat_map lay_entry (take k es) in
    let back = flat_map lay_entry (drop k es) in
    let split : flat_map lay_entry es ≡ front ++ back = ap (flat_map lay_entry) (sym (take-append-drop k es)) ∙ flat_map-append lay_entry (take k es) (drop k es) in
    ap (drop (length front)) (ap (λ l. l ++ rest) split ∙ append_assoc front back rest) ∙ drop_at front (back ++ rest) (length front) refl

-- the answer by what comes first, and the place after it
abbrev said : Head → ℕ → Answer
said (inl e) p = entry p e
said (inr o) p = outcome o p

abbrev size : Head → ℕ
size (inl e) = length (lay_entry e)
size (inr o) = 0

answer_head : (k : ℕ) (es : List Entry) (o : Ending) (p : ℕ) → unwrap_or (option_map (entry p) (slice_get es k)) (outcome o p) ≡ said (head_of (drop k es) o) p
answer_head zero [] o p = refl
answer_head zero (e ∷ es) o p = refl
answer_head (suc k) [] o p = refl
answer_head (suc k) (e ∷ es) o p = answer_head k es o p

place_head : (k : ℕ) (es : List Entry) (o : Ending) → length (flat_map lay_entry (take (suc k) es)) ≡ length (flat_map lay_entry (take k es)) + size (head_of (drop k es) o)
place_head zero [] o = refl
place_head zero (e ∷ es) o = omega (arith, length-append (lay_entry e) [])
place_head (suc k) [] o = refl
place_head (suc k) (e ∷ es) o =
    omega (arith, length-append (lay_entry e) (flat_map lay_entry (take k es)), length-append (lay_entry e) (flat_map lay_entry (take (suc k) es)), place_head k es o)

-- the reader's answer of the bytes t from place p, and the place that it goes to
abbrev pub Next : List ℕ → ℕ → Answer → ℕ → Type 0
Next t p a q = (R : Reading) (k : ℕ) → Given R k t p → (a ≡ answer R k) × Given R (k + 1) t q

-- the next answer, where f heads the bytes at the reader's place
gives : (t : List ℕ) (p : ℕ) (f : Head) → Heads (drop p t) f → Next t p (said f p) (p + size f)
gives t p f heads R k given =
    let es = R.entries in
    let o = R.ending in
    let rest : drop p t ≡ flat_map lay_entry (drop k es) ++ lay_ending o =
    (λ i. drop (given.next i) (sym given.lays.bytes i)) ∙ left k es (lay_ending o) in
    let is : f ≡ head_of (drop k es) o =
    sym (heads_first (drop p t) f heads) ∙ ap first rest ∙ heads_first _ _ (reading_heads (drop k es) o (proper_drop k es given.lays.entries) given.lays.ending) in (
      ap (λ h. said h p) is ∙ ap (said (head_of (drop k es) o)) given.next ∙ sym (answer_head k es o (place R k)),
      record {
        lays = given.lays;
        next = (λ i. given.next i + size (is i)) ∙ sym (place_head k es o) ∙ ap (place R) (sym (add-one k));
      },
    )

-- an ending leaves the reader where it is
ending_at : (t : List ℕ) (p : ℕ) (o : Ending) → ProperEnding o → drop p t ≡ lay_ending o → Next t p (outcome o p) p
ending_at t p o proper is = subst (Next t p (outcome o p)) (add-zero p) (gives t p (inr o) (proper, is))

-- `&trace[p..]`, and `rest` of `[kind, rest @ ..]`, as the checker reads them
abbrev pub from : List ℕ → ℕ → List ℕ
from t p = take (length t - p) (drop p t)

abbrev pub tail : List ℕ → List ℕ
tail s = take (length s - 1) (drop 1 s)

pub gives_nothing : (t : List ℕ) (p : ℕ) → length (from t p) < 1 → Next t p (outcome nothing p) p
gives_nothing t p none = ending_at t p nothing tt (sym (take_rest t p) ∙ nil_from_length (from t p) (omega arith))

known_code : (kind : Kind) → Known (code kind)
known_code Enrol = (omega arith, omega arith)
known_code Amount = (omega arith, omega arith)
known_code Remark = (omega arith, omega arith)
known_code End = (omega arith, omega arith)

-- a kind byte is left, and the rest behind it
module _ (t : List ℕ) (p : ℕ) (some : 1 ≤ length (from t p)) (byte : ℕ) (kind : byte ≡ get_or (from t p) 0 0) where
  bytes : drop p t ≡ byte ∷ tail (from t p)
  bytes = sym (take_rest t p) ∙ drop_more (from t p) 0 0 (omega arith) ∙ (λ i. sym kind i ∷ sym (take_rest (from t p) 1) i)

  pub gives_unknown : (Known byte → ⊥) → Next t p (fault 11 p) p
  gives_unknown none = ending_at t p (unknown byte (tail (from t p))) none bytes

  pub gives_short : (of : Kind) → byte ≡ code of → length (tail (from t p)) < body_length byte → Next t p (fault 12 p) p
  gives_short of is less = ending_at t p (short byte (tail (from t p))) (subst Known (sym is) (known_code of), less) bytes

  -- a record whose body is cut off the rest takes the reader past it
  pub gives_entry : (e : Entry) (n m : ℕ) (body : List ℕ) → ProperEntry e → lay_entry e ≡ byte ∷ body → body ≡ take n (tail (from t p))
      → length body ≡ m → Next t p (entry p e) (p + (1 + m))
  gives_entry e n m body proper is cut many =
      let rest = tail (from t p) in
      let whole : byte ∷ rest ≡ lay_entry e ++ drop n rest =
      ap (λ l. byte ∷ l) (sym (take-append-drop n rest) ∙ ap (λ l. l ++ drop n rest) (sym cut)) ∙ ap (λ l. l ++ drop n rest) (sym is) in
      let long : length (lay_entry e) ≡ 1 + m = omega (arith, ap length is, many) in
      subst (λ k. Next t p (entry p e) (p + k)) long (gives t p (inl e) (proper, (drop n rest, bytes ∙ whole)))

-- the end record, with nothing behind it or with more
module _ (t : List ℕ) (p : ℕ) (some : 1 ≤ length (from t p)) (kind : 4 ≡ get_or (from t p) 0 0) where
  pub gives_end : length (tail (from t p)) ≡ 0 → Next t p (ended p) p
  gives_end none = ending_at t p end tt (bytes t p some 4 kind ∙ ap (λ l. 4 ∷ l) (nil_from_length (tail (from t p)) none))

  behind : (rest : List ℕ) → 1 ≤ length rest → drop p t ≡ 4 ∷ rest → Next t p (fault 13 p) p
  behind [] more is = absurd (omega arith)
  behind (byte ∷ rest) more is = ending_at t p (trailing byte rest) tt is

  pub gives_trailing : 1 ≤ length (tail (from t p)) → Next t p (fault 13 p) p
  gives_trailing more = behind (tail (from t p)) more (bytes t p some 4 kind)
