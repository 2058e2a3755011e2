-- A braid over any store that shows the laws shows them too: what it admits lies in its spans, and they tighten with the rounds.
-- What each raised slot has carried down are amounts that fit the spans below, so the decoding rounds bound them.
use Rattle.std.specs.Prelude.{◌≡◌, ℕ, zero, suc, ◌+◌, ◌*◌, ◌<◌, ◌≤◌, Bool, true, false, cond, List, [], get_or, slice_index, slice_index_or, refl}
use Rattle.std.proofs.Common.{sym, ap, subst, ◌∙◌, inl, inr, mul-le-mul_left, arith, pow_pos}
use Rattle.std.proofs.Math.Nat.{div-add-mod, div-eq_of_lt}
use Rattle.std.proofs.lemmas.Nat.{le-div}
use Rattle.std.proofs.lemmas.List.{get_or_past}
use Rattle.std.proofs.lemmas.Bool.{both_ways, cases_Bool, cases_lt, cond_both, cond-true, cond-false, leb-true, leb-false}
use Rattle.rounds.specs.declared.span.Span.{Span}
use Rattle.rounds.specs.Rounds.{Claimant, nobody, row_of, has, Uses, filled, TakesPart, sum, load, Low, High}
use Rattle.rounds.specs.Laws.{Proper, ProperRows, Fitting, NoWider}
use Rattle.rounds.proofs.Rows.{uses_part}
use Rattle.rounds.proofs.Holding.{bounds_hold_lem}
use Rattle.rounds.proofs.Tightening.{more_rounds_tighten_lem}
use Rattle.store.specs.FlatMeaning.{entry_light}
use Rattle.store.specs.Meaning.{Meaning, Laws, Within}
use Rattle.store.specs.Sums.{reaching, slot_sums}
use Rattle.store.proofs.Rows.{row_proper, row_filled, within_has}
use Rattle.store.proofs.Sums.{length_listed, get_or_listed, sum_ext, get_or_sums}
use Rattle.wiring.specs.Rising.{is_row}
use Rattle.braid.specs.declared.layer.Layer.{Layer}
use Rattle.braid.specs.declared.braid.Braid.{Braid}
use Rattle.rounds.specs.Spans.{closed_at}
use Rattle.braid.specs.BraidMeaning.{count, modulus, rows, row, part, raised, claimant, claimants, top}
use Rattle.braid.specs.BraidMeaning.{carried, BraidAdmits, BraidSound, braid_spans, braid_meaning}

-- who the claimants of a layer are
module _ (l : Layer) where
  claimant_at : (i : ℕ) → i < count l → slice_index_or (claimants l) i nobody ≡ claimant l i
  claimant_at i h = get_or_listed (count l) (claimant l) i nobody h

  pub claimant_raised : (i : ℕ) → i < count l → raised l i ≡ true
      → slice_index_or (claimants l) i nobody ≡ record { row = row l i; floor = 1 }
  claimant_raised i h up = claimant_at i h ∙ cond-true (raised l i) _ nobody up

  pub claimant_closed : (i : ℕ) → i < count l → raised l i ≡ false → slice_index_or (claimants l) i nobody ≡ nobody
  claimant_closed i h down = claimant_at i h ∙ cond-false (raised l i) _ nobody down

  pub claimant_past : (i : ℕ) → count l ≤ i → slice_index_or (claimants l) i nobody ≡ nobody
  claimant_past i h = get_or_past (claimants l) i nobody (omega (arith, length_listed (count l) (claimant l)))

  pub row_raised : (i : ℕ) → i < count l → raised l i ≡ true → row_of (claimants l) i ≡ row l i
  row_raised i h up = ap (λ (c : Claimant). c.row) (claimant_raised i h up)

  pub takes_raised : (i : ℕ) → TakesPart (claimants l) i → (i < count l) × (raised l i ≡ true)
  takes_raised i t = elim (cases_lt i (count l)) [
    | inl h ↦ elim (cases_Bool (raised l i)) [
      | inl up ↦ (h, up)
      | inr down ↦ absurd (absent (claimant_closed i h down))
    ]
    | inr past ↦ absurd (absent (claimant_past i past))
  ]
    where
      absent : get_or (claimants l) i nobody ≡ nobody → ⊥
      absent e = both_ways false refl (subst (λ (c : Claimant). filled c.row ≡ true) e t)

  pub uses_raised : (i slot : ℕ) → Uses (claimants l) i slot → (i < count l) × (raised l i ≡ true) × (has slot (row l i) ≡ true)
  uses_raised i slot u =
      let r = takes_raised i (uses_part (claimants l) i slot u) in
      (r.0, r.1, subst (λ (slots : List ℕ). has slot slots ≡ true) (row_raised i r.0 r.1) u)

  -- the claimants bring a slot all that reaches it, as slots that are not raised have carried nothing
  module _ (amount : ℕ → ℕ)
      (none : (i : ℕ) → i < count l → raised l i ≡ false → amount i ≡ 0) where
    brings : (slot i : ℕ) → i < count l
        → cond (has slot (row_of (claimants l) i)) (amount i) 0 ≡ cond (has slot (slice_index_or (rows l) i [])) (amount i) 0
    brings slot i h =
        elim (cases_Bool (raised l i)) [
          | inl up ↦ ap (λ (slots : List ℕ). cond (has slot slots) (amount i) 0) (row_raised i h up)
          | inr down ↦
              ap (λ (c : Claimant). cond (has slot c.row) (amount i) 0) (claimant_closed i h down)
              ∙ cond_both (has slot (slice_index_or (rows l) i [])) (amount i) 0 (λ n. 0 ≡ n) (λ _. sym (none i h down)) (λ _. refl)
        ]

    pub load_reaching : (slot : ℕ) → load (claimants l) amount slot ≡ reaching (rows l) amount slot
    load_reaching slot =
        let share : ℕ → ℕ = λ i. cond (has slot (row_of (claimants l) i)) (amount i) 0 in
        let here : ℕ → ℕ = λ i. cond (has slot (slice_index_or (rows l) i [])) (amount i) 0 in
        ap (λ n. sum n share) (length_listed (count l) (claimant l)) ∙ sum_ext (count l) share here (brings slot)

  -- rows that are made and lie in the store below make claimants that the rounds take
  module _ (N : ℕ) (wired : (i : ℕ) → i < count l → (is_row (row l i) ≡ true) × Within N (row l i)) where
    pub proper : ProperRows (claimants l)
    proper i = elim (cases_lt i (count l)) [
      | inl h ↦ elim (cases_Bool (raised l i)) [
        | inl up ↦ subst (λ (slots : List ℕ). Proper slots) (sym (row_raised i h up)) (row_proper (row l i) (wired i h).0)
        | inr down ↦ subst (λ (c : Claimant). Proper c.row) (sym (claimant_closed i h down)) tt
      ]
      | inr past ↦ subst (λ (c : Claimant). Proper c.row) (sym (claimant_past i past)) tt
    ]

    pub raised_takes : (i : ℕ) → i < count l → raised l i ≡ true → TakesPart (claimants l) i
    raised_takes i h up = ap filled (row_raised i h up) ∙ row_filled (row l i) (wired i h).0

    pub uses_within : (i slot : ℕ) → Uses (claimants l) i slot → slot < N
    uses_within i slot u =
        let r = uses_raised i slot u in
        within_has N (row l i) slot (wired i r.0).1 r.2

-- of a slot that is not raised all is known at every number of rounds, so spans differ only where it is raised
low_either : (b : Bool) (x y z : Span) → (b ≡ true → x.low ≤ y.low) → (cond b x z).low ≤ (cond b y z).low
low_either true x y z h = h refl
low_either false x y z h = omega arith

high_either : (b : Bool) (x y z : Span) → (b ≡ true → x.high ≤ y.high) → (cond b x z).high ≤ (cond b y z).high
high_either true x y z h = h refl
high_either false x y z h = omega arith

-- with no rounds there is no High yet, and the weight alone caps the span
top_light : (l : Layer) (i R high : ℕ) → top l i R high ≤ l.weight
top_light l i zero high = omega arith
top_light l i (suc R) high = omega arith

top_falls : (l : Layer) (i R Q high less : ℕ) → R ≤ Q → (1 ≤ R → less ≤ high) → top l i Q less ≤ top l i R high
top_falls l i zero Q high less le h = top_light l i Q less
top_falls l i (suc R) zero high less le h = absurd (omega arith)
top_falls l i (suc R) (suc Q) high less le h = omega (arith, mul-le-mul_left {m = less} {n = high} (modulus l) (h (omega arith)))

top_holds : (l : Layer) (i R high n t : ℕ) → t ≡ part l i + modulus l * n → t ≤ l.weight → (1 ≤ R → n ≤ high)
    → t ≤ top l i R high
top_holds l i zero high n t e w h = w
top_holds l i (suc R) high n t e w h = omega (arith, mul-le-mul_left {m = n} {n = high} (modulus l) (h (omega arith)))

module _ {S : Type 0} (m : Meaning S) (laws : Laws m) (s : Braid S) (sound : BraidSound m s) where
  -- what is known below at some rounds, and of whom it tells
  abbrev under : ℕ → ℕ → Span
  under R = m.spans s.below R

  abbrev cs : List Claimant
  cs = claimants s.layer

  abbrev N : ℕ
  N = m.slots s.below

  narrower : (R Q : ℕ) → R ≤ Q → NoWider cs (under Q) (under R)
  narrower R Q le = record {
    lows = λ i slot u. laws.rises s.below sound.below R Q slot le (uses_within s.layer N sound.wired i slot u);
    highs = λ i slot u. laws.falls s.below sound.below R Q slot le (uses_within s.layer N sound.wired i slot u);
  }

  tightens : (R Q i : ℕ) → R ≤ Q → i < count s.layer → raised s.layer i ≡ true
      → (Low cs (under R) R i ≤ Low cs (under Q) Q i) × (1 ≤ R → High cs (under Q) Q i ≤ High cs (under R) R i)
  tightens R Q i le h up =
      more_rounds_tighten_lem cs (under R) (under Q) (proper s.layer N sound.wired) (narrower R Q le) R Q i le
      (raised_takes s.layer N sound.wired i h up)

  rises : (R Q i : ℕ) → R ≤ Q → i < count s.layer → (braid_spans m s R i).low ≤ (braid_spans m s Q i).low
  rises R Q i le h = low_either (raised s.layer i) _ _ (closed_at (part s.layer i)) (λ up.
      let more = (tightens R Q i le h up).0 in
      omega (arith, mul-le-mul_left {m = Low cs (under R) R i} {n = Low cs (under Q) Q i} (modulus s.layer) more))

  falls : (R Q i : ℕ) → R ≤ Q → i < count s.layer → (braid_spans m s Q i).high ≤ (braid_spans m s R i).high
  falls R Q i le h = high_either (raised s.layer i) _ _ (closed_at (part s.layer i)) (λ up.
      top_falls s.layer i R Q (High cs (under R) R i) (High cs (under Q) Q i) le (tightens R Q i le h up).1)

  low_light : (R i : ℕ) → i < count s.layer → (braid_spans m s R i).low ≤ s.layer.weight
  low_light R i h = cond_both (raised s.layer i) _ _ (λ (span : Span). span.low ≤ s.layer.weight)
      (λ up. omega arith) (λ down. sound.parts i h)

  high_light : (R i : ℕ) → i < count s.layer → (braid_spans m s R i).high ≤ s.layer.weight
  high_light R i h = cond_both (raised s.layer i) _ _ (λ (span : Span). span.high ≤ s.layer.weight)
      (λ up. top_light s.layer i R (High cs (under R) R i)) (λ down. sound.parts i h)

  -- a list that the braid admits, and what its slots have carried
  module _ (T : List ℕ) (admits : BraidAdmits m s T) where
    abbrev carry : ℕ → ℕ
    carry = carried m s.layer T

    split : (i : ℕ) → i < count s.layer → slice_index T i ≡ part s.layer i + modulus s.layer * carry i
    split i h = omega (arith, div-add-mod (slice_index T i) (modulus s.layer), admits.parts i h)

    -- a slot is raised just where it has carried
    pub raised_carries : (i : ℕ) → i < count s.layer → raised s.layer i ≡ true → 1 ≤ carry i
    raised_carries i h up =
        let reached = leb-true (modulus s.layer) (slice_index T i) (sym (admits.bits i h) ∙ up) in
        le-div 1 (slice_index T i) (modulus s.layer) (pow_pos s.layer.depth) (omega arith)

    pub closed_carries : (i : ℕ) → i < count s.layer → raised s.layer i ≡ false → carry i ≡ 0
    closed_carries i h down = div-eq_of_lt (leb-false (modulus s.layer) (slice_index T i) (sym (admits.bits i h) ∙ down))

    entry_most : (i : ℕ) → slice_index T i ≤ s.layer.weight
    entry_most i = omega (arith, entry_light T i, admits.adds)

    sum_below : (slot : ℕ) → slot < N → slice_index (slot_sums N (rows s.layer) carry) slot ≡ load cs carry slot
    sum_below slot h =
        get_or_sums N (rows s.layer) carry slot h
        ∙ sym (load_reaching s.layer carry closed_carries slot)

    pub fitting : (R : ℕ) → Fitting cs (under R) carry
    fitting R = record {
      floors = λ i t.
          let r = takes_raised s.layer i t in
          let one = ap (λ (c : Claimant). c.floor) (claimant_raised s.layer i r.0 r.1) in
          omega (arith, one, raised_carries i r.0 r.1);
      lows = λ i slot u.
          let h = uses_within s.layer N sound.wired i slot u in
          omega (arith, laws.above s.below sound.below _ admits.below R slot h, sum_below slot h);
      highs = λ i slot u.
          let h = uses_within s.layer N sound.wired i slot u in
          omega (arith, laws.below s.below sound.below _ admits.below R slot h, sum_below slot h);
    }

    pub holds : (R i : ℕ) → i < count s.layer → raised s.layer i ≡ true
        → (Low cs (under R) R i ≤ carry i) × (1 ≤ R → carry i ≤ High cs (under R) R i)
    holds R i h up =
        bounds_hold_lem cs (under R) carry (proper s.layer N sound.wired) (fitting R) R i
        (raised_takes s.layer N sound.wired i h up)

    above : (R i : ℕ) → i < count s.layer → (braid_spans m s R i).low ≤ slice_index T i
    above R i h = cond_both (raised s.layer i) _ _ (λ (span : Span). span.low ≤ slice_index T i)
        (λ up.
        let most = mul-le-mul_left {m = Low cs (under R) R i} {n = carry i} (modulus s.layer) (holds R i h up).0 in
        omega (arith, split i h, most))
        (λ down. omega (arith, split i h))

    below : (R i : ℕ) → i < count s.layer → slice_index T i ≤ (braid_spans m s R i).high
    below R i h = cond_both (raised s.layer i) _ _ (λ (span : Span). slice_index T i ≤ span.high)
        (λ up.
        let high = High cs (under R) R i in
        top_holds s.layer i R high (carry i) (slice_index T i) (split i h) (entry_most i) (holds R i h up).1)
        (λ down. omega (arith, split i h, ap (λ n. modulus s.layer * n) (closed_carries i h down)))

pub braid_laws : {S : Type 0} (m : Meaning S) → Laws m → Laws (braid_meaning m)
braid_laws m laws = record {
  few = λ s o. o.few;
  light = λ s o. o.light;
  long = λ s o T a. a.long;
  adds = λ s o T a. a.adds;
  above = λ s o T a. above m laws s o T a;
  below = λ s o T a. below m laws s o T a;
  rises = λ s o. rises m laws s o;
  falls = λ s o. falls m laws s o;
  low_light = λ s o. low_light m laws s o;
  high_light = λ s o. high_light m laws s o;
}
