-- The spans that a braid keeps in its tables are those of the rules for the totals that it admits: low
-- parts, status bits and the weight are all that the rules take from the totals. Outside knots, over
-- closed spans below, the rounds find what each raised slot has carried, and so its total.
use Rattle.std.proofs.Common.{◌≡◌, ℕ, zero, suc, ◌+◌, ◌*◌, ◌/◌, ◌^◌, ◌<◌, ◌≤◌, min, Bool, true, cond, leb, List, length, get_or, sym, ap, ◌∙◌, subst, inl, inr, mod-eq_of_lt, arith}
use native.Mathlib.Nat.{div-add-mod}
use lib.ListN.{length-map}
use Rattle.std.proofs.lemmas.Bool.{cases_Bool, cond-true, cond-false, leb-false}
use Rattle.rounds.specs.declared.span.Span.{Span}
use Rattle.rounds.specs.Rounds.{nobody, Low, High}
use Rattle.rounds.specs.Laws.{Closed, Knot, parties}
use Rattle.rounds.proofs.Closing.{outside_knots_close_lem}
use Rattle.store.specs.FlatMeaning.{entry_light}
use Rattle.store.specs.Meaning.{Meaning, Laws}
use Rattle.store.proofs.Sums.{listed_ext}
use Rattle.braid.specs.declared.layer.Layer.{Layer}
use Rattle.braid.specs.declared.braid.Braid.{Braid}
use Rattle.braid.specs.BraidMeaning as counters
use Rattle.rounds.specs.Spans.{closed_at}
use Rattle.braid.specs.BraidLaws.{proper, raised_takes, uses_within, fitting}
use Rattle.ledger.specs.Ledger.{Ledger, total_of, rows, totals}
use Rattle.ledger.specs.Rules as rules
use Rattle.ledger.specs.Promise.{Stands, Ruled, Closes}

-- from the first round on, a bound on what was carried that makes the total makes it the top
top_exact : (l : Layer) (i R high t : ℕ) → 0 < R → counters.part l i + counters.modulus l * high ≡ t → t ≤ l.weight
    → counters.top l i R high ≡ t
top_exact l i zero high t some e most = absurd (omega arith)
top_exact l i (suc R) high t some e most = omega arith

module _ {S : Type 0} (m : Meaning S) (s : Braid S) (sound : counters.BraidSound m s)
    (T : List ℕ) (admits : counters.BraidAdmits m s T) where
  abbrev l : Layer
  l = s.layer

  abbrev M : ℕ
  M = counters.modulus l

  abbrev wiring : List (List ℕ)
  wiring = counters.rows l

  same_claimant : (i : ℕ) → i < counters.count l → counters.claimant l i ≡ rules.claimant M wiring T i
  same_claimant i h =
      let bit : counters.raised l i ≡ rules.raised M wiring T i = admits.bits i h in
      λ k. cond (bit k) (record { row = counters.row l i; floor = 1 }) nobody

  -- the raised slots of the layer are those of the rules, on the same rows
  pub same_claimants : counters.claimants l ≡ rules.claimants M wiring T
  same_claimants =
      listed_ext (counters.count l) (counters.claimant l) (rules.claimant M wiring T) same_claimant

  same_high : (below : ℕ → Span) (R i : ℕ) → i < counters.count l
      → counters.top l i R (High (counters.claimants l) below R i) ≡ rules.high M wiring T below R i
  same_high below zero i h = sym admits.adds
  same_high below (suc R) i h =
      let part = admits.parts i h in
      let weight = sym admits.adds in
      λ k. min (weight k) (part k + M * High (same_claimants k) below (suc R) i)

  pub same_span : (below : ℕ → Span) (R i : ℕ) → i < counters.count l
      → counters.slot_span l below R i ≡ rules.span M wiring T below R i
  same_span below R i h =
      let bit : counters.raised l i ≡ rules.raised M wiring T i = admits.bits i h in
      let part = admits.parts i h in
      let weight = sym admits.adds in
      elim (cases_Bool (counters.raised l i)) [
        | inl up ↦
            let high = same_high below R i h in
            cond-true (counters.raised l i) _ _ up
            ∙ (λ k. record { low = min (weight k) (part k + M * Low (same_claimants k) below R i); high = high k })
            ∙ sym (cond-true (rules.raised M wiring T i) _ _ (sym bit ∙ up))
        | inr down ↦
            let off = sym bit ∙ down in
            let whole : counters.part l i ≡ get_or T i 0 = part ∙ mod-eq_of_lt (leb-false M (get_or T i 0) off) in
            cond-false (counters.raised l i) _ _ down ∙ ap closed_at whole
            ∙ sym (cond-false (rules.raised M wiring T i) _ _ off)
      ]

  module _ (laws : Laws m) where
    -- where all is closed below and nothing is knotted, what was carried is found, and the low part with it is the total
    pub span_closes : (R i : ℕ) → parties (counters.claimants l) < R
        → ((slot : ℕ) → slot < m.slots s.below → Closed (m.spans s.below R) slot)
        → i < counters.count l → counters.raised l i ≡ true
        → ((K : ℕ → Bool) → Knot (counters.claimants l) K → K i ≡ true → ⊥)
        → counters.braid_spans m s R i ≡ closed_at (get_or T i 0)
    span_closes R i more closed h up free =
        let N = m.slots s.below in
        let under = m.spans s.below R in
        let found = outside_knots_close_lem (counters.claimants l) under (counters.carried m l T) (proper l N sound.wired)
        (fitting m laws s sound T admits R) (λ j slot u. closed slot (uses_within l N sound.wired j slot u)) R i more
        (raised_takes l N sound.wired i h up) free in
        let most : get_or T i 0 ≤ l.weight = omega (arith, entry_light T i, admits.adds) in
        let whole : counters.part l i + M * (get_or T i 0 / M) ≡ get_or T i 0 =
        omega (arith, div-add-mod (get_or T i 0) M, admits.parts i h) in
        let low : min l.weight (counters.part l i + M * Low (counters.claimants l) under R i) ≡ get_or T i 0 =
        omega (arith, ap (λ n. M * n) found.0) in
        let high : counters.top l i R (High (counters.claimants l) under R i) ≡ get_or T i 0 =
        top_exact l i R _ (get_or T i 0) (omega arith) (ap (λ n. counters.part l i + M * n) found.1 ∙ whole) most in
        cond-true (counters.raised l i) _ _ up ∙ (λ k. record { low = low k; high = high k })

module _ {S : Type 0} (m : Meaning S) (depth : ℕ) (L : Ledger) (s : Braid S) (stands : Stands m depth L s) where
  inside : (i : ℕ) → i < length L.lines → i < counters.count s.layer
  inside i h = omega (arith, stands.admits.long, length-map L.lines total_of)

  -- the rules at the modulus and the rows of the braid's own tables are those at the ledger's
  span_as : (below : ℕ → Span) (R i : ℕ) → rules.span (counters.modulus s.layer) (counters.rows s.layer) (totals L) below R i
      ≡ rules.span (2 ^ depth) (rows L) (totals L) below R i
  span_as below R i = λ k. rules.span (2 ^ stands.depth_is k) (stands.rows k) (totals L) below R i

  claimants_as : counters.claimants s.layer ≡ rules.claimants (2 ^ depth) (rows L) (totals L)
  claimants_as =
      same_claimants m s stands.sound (totals L) stands.admits
      ∙ (λ k. rules.claimants (2 ^ stands.depth_is k) (stands.rows k) (totals L))

pub ruled : {S : Type 0} (m : Meaning S) (depth : ℕ) (L : Ledger) (s : Braid S) → Stands m depth L s → Ruled m depth L s
ruled m depth L s stands R i h =
    let here = inside m depth L s stands i h in
    same_span m s stands.sound (totals L) stands.admits (m.spans s.below R) R i here
    ∙ span_as m depth L s stands (m.spans s.below R) R i

pub closes : {S : Type 0} (m : Meaning S) → Laws m → (depth : ℕ) (L : Ledger) (s : Braid S) → Stands m depth L s
    → Closes m depth L s
closes m laws depth L s stands R more closed i h up free =
    let here = inside m depth L s stands i h in
    let same = claimants_as m depth L s stands in
    let raised : counters.raised s.layer i ≡ true =
    stands.admits.bits i here ∙ ap (λ d. leb (2 ^ d) (get_or (totals L) i 0)) stands.depth_is ∙ up in
    span_closes m s stands.sound (totals L) stands.admits laws R i
    (subst (λ cs. parties cs < R) (sym same) more) closed here raised
    (λ K knot. free K (subst (λ cs. Knot cs K) same knot))
