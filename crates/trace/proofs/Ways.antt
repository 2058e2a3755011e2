-- Every trace is laid out by exactly one reading.
use Rattle.std.proofs.Common.{◌≡◌, ℕ, zero, suc, ◌<◌, ◌≤◌, List, [], ◌∷◌, ◌++◌, length, sym, refl, ap, ◌∙◌, inl, inr, arith, length-append}
use Rattle.std.specs.List.{flat_map}
use Rattle.std.proofs.lemmas.List.{append_assoc, append_cancel_left}
use Rattle.trace.specs.Layout.{Entry, enrol, amount, remark, Ending, Reading, lay_entry, lay_ending, ProperEntries, ProperEnding, Lays, OneWay}
use Rattle.trace.proofs.Heads.{Head, Heads, first, heads_first, first_heads}

-- a record has at least its kind byte
pub entry_some : (e : Entry) → 1 ≤ length (lay_entry e)
entry_some (enrol id slots) = omega arith
entry_some (amount id units) = omega arith
entry_some (remark text) = omega arith

abbrev pub head_of : List Entry → Ending → Head
head_of [] o = inr o
head_of (e ∷ es) o = inl e

abbrev bytes_of : List Entry → Ending → List ℕ
bytes_of es o = flat_map lay_entry es ++ lay_ending o

pub reading_heads : (es : List Entry) (o : Ending) → ProperEntries es → ProperEnding o → Heads (bytes_of es o) (head_of es o)
reading_heads [] o pe po = (po, refl)
reading_heads (e ∷ es) o pe po = (pe.0, (bytes_of es o, append_assoc (lay_entry e) (flat_map lay_entry es) (lay_ending o)))

abbrev of : List Entry → Ending → Reading
of es o = record { entries = es; ending = o }

-- a record in front of what is read already
step : (t : List ℕ) (f : Head) → Heads t f → ((rest : List ℕ) → length rest < length t → (R : Reading) × Lays R rest) → (R : Reading) × Lays R t
step t (inr o) (po, is) read = (of [] o, record { entries = tt; ending = po; bytes = sym is })
step t (inl e) (pe, (rest, is)) read =
    let r = read rest (omega (arith, entry_some e, ap length is, length-append (lay_entry e) rest)) in
    let es = r.0.entries in
    let o = r.0.ending in (
      of (e ∷ es) o,
      record {
        entries = (pe, r.1.entries);
        ending = r.1.ending;
        bytes = append_assoc (lay_entry e) (flat_map lay_entry es) (lay_ending o) ∙ ap (λ l. lay_entry e ++ l) r.1.bytes ∙ sym is;
      },
    )

-- a reading of some bytes, of which there are at most n
some_reading : (n : ℕ) (t : List ℕ) → length t ≤ n → (R : Reading) × Lays R t
some_reading zero t h = step t (first t) (first_heads t) (λ rest less. absurd (omega arith))
some_reading (suc n) t h = step t (first t) (first_heads t) (λ rest less. some_reading n rest (omega arith))

same_head : (es es' : List Entry) (o o' : Ending) → ProperEntries es → ProperEnding o → ProperEntries es' → ProperEnding o' → bytes_of es o ≡ bytes_of es' o' → head_of es o ≡ head_of es' o'
same_head es es' o o' pe po pe' po' is =
    sym (heads_first _ _ (reading_heads es o pe po)) ∙ ap first is ∙ heads_first _ _ (reading_heads es' o' pe' po')

only_reading : (es es' : List Entry) (o o' : Ending) → ProperEntries es → ProperEnding o → ProperEntries es' → ProperEnding o' → bytes_of es o ≡ bytes_of es' o' → of es o ≡ of es' o'
only_reading [] [] o o' pe po pe' po' is =
    let h = same_head [] [] o o' pe po pe' po' is in
    let e : o ≡ o' = cc in
    ap (of []) e
only_reading [] (e' ∷ es') o o' pe po pe' po' is =
    let h = same_head [] (e' ∷ es') o o' pe po pe' po' is in
    let z : ◌≡◌ {A = ℕ} 0 1 = cc in absurd (omega arith)
only_reading (e ∷ es) [] o o' pe po pe' po' is =
    let h = same_head (e ∷ es) [] o o' pe po pe' po' is in
    let z : ◌≡◌ {A = ℕ} 0 1 = cc in absurd (omega arith)
only_reading (e ∷ es) (e' ∷ es') o o' pe po pe' po' is =
    let h = same_head (e ∷ es) (e' ∷ es') o o' pe po pe' po' is in
    let same : e ≡ e' = cc in
    let rest : bytes_of es o ≡ bytes_of es' o' =
    append_cancel_left (lay_entry e) (bytes_of es o) (bytes_of es' o')
    (sym (append_assoc (lay_entry e) (flat_map lay_entry es) (lay_ending o)) ∙ is ∙ append_assoc (lay_entry e') (flat_map lay_entry es') (lay_ending o') ∙ ap (λ x. lay_entry x ++ bytes_of es' o') (sym same)) in
    let tails = only_reading es es' o o' pe.1 po pe'.1 po' rest in
    λ i. of (same i ∷ (tails i).entries) (tails i).ending

pub one_way : (t : List ℕ) → OneWay t
one_way t =
    let r = some_reading (length t) t (omega arith) in
    record {
      reading = r.0;
      lays = r.1;
      only = λ R l. only_reading R.entries r.0.entries R.ending r.0.ending l.entries l.ending r.1.entries r.1.ending (l.bytes ∙ sym r.1.bytes);
    }
