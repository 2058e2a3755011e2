-- The lines of a book follow the bounds of its flows as claimants, whose amounts are their units.
use Rattle.std.proofs.Common.{◌≡◌, ℕ, zero, suc, ◌<◌, ◌≤◌, Bool, true, false, cond, List, [], ◌∷◌, map, length, get_or, sym, refl, ap, ◌∙◌, subst, inl, inr, arith}
use lib.ListN.{length-map}
use Rattle.std.proofs.lemmas.List.{get_or_past}
use Rattle.std.proofs.lemmas.Bool.{cases_lt}
use Rattle.rounds.specs.declared.span.Span.{Span}
use Rattle.rounds.specs.Rounds as rounds
use Rattle.rounds.specs.Laws.{Proper, ProperRows, Fitting, parties}
use Rattle.rounds.proofs.Holding.{bounds_hold_lem}
use Rattle.rounds.proofs.Tightening.{more_rounds_tighten_lem}
use Rattle.rounds.proofs.Closing.{outside_knots_close_lem}
use Rattle.store.specs.FlatMeaning.{entry_light}
use Rattle.store.proofs.Sums.{sum_ext}
use Rattle.book.specs.Book.{Flow, Book, row_of, rows, units, total, units_at, reached, Wired}
use Rattle.book.specs.Lines.{claimant, claimants, high}
use Rattle.book.specs.LineLaws.{Covered, LinesHold, LinesTighten, LinesClose}
use Rattle.book.proofs.Rows.{row_proper, row_filled}

-- the claimants are on the rows of the flows, with floor 0
pub claimant_row : (flows : List Flow) (i : ℕ) → rounds.row_of (map claimant flows) i ≡ get_or (map row_of flows) i []
claimant_row [] i = refl
claimant_row (flow ∷ flows) zero = refl
claimant_row (flow ∷ flows) (suc i) = claimant_row flows i

claimant_floor : (flows : List Flow) (i : ℕ) → rounds.floor_of (map claimant flows) i ≡ 0
claimant_floor [] i = refl
claimant_floor (flow ∷ flows) zero = refl
claimant_floor (flow ∷ flows) (suc i) = claimant_floor flows i

-- each counts at most once
at_most_ones : (n : ℕ) (test : ℕ → Bool) → rounds.sum n (λ j. cond (test j) 1 0) ≤ n
at_most_ones zero test = omega arith
at_most_ones (suc n) test = omega (arith, at_most_ones n test, one (test n))
  where
    one : (b : Bool) → cond b 1 0 ≤ 1
    one true = omega arith
    one false = omega arith

module _ (B : Book) where
  abbrev cs : List rounds.Claimant
  cs = claimants B

  many : length cs ≡ length B.flows
  many = length-map B.flows claimant

  pub few_parties : parties cs ≤ length B.flows
  few_parties = omega (arith, many, at_most_ones (length cs) (λ j. rounds.filled (rounds.row_of cs j)))

  -- what the claimants bring a slot with the units of the flows is what reaches it
  pub load_reached : (slot : ℕ) → rounds.load cs (units_at B) slot ≡ reached B slot
  load_reached slot =
      let here : ℕ → ℕ = λ i. cond (rounds.has slot (get_or (rows B) i [])) (units_at B i) 0 in
      sum_ext (length cs) (rounds.share cs (units_at B) slot) here
      (λ i h. ap (λ (row : List ℕ). cond (rounds.has slot row) (units_at B i) 0) (claimant_row B.flows i))
      ∙ ap (λ n. rounds.sum n here) (many ∙ sym (length-map B.flows row_of))

  units_light : (i : ℕ) → units_at B i ≤ total B
  units_light i = entry_light (units B) i

  pub fitting : (spans : ℕ → Span) → Covered B spans → Fitting cs spans (units_at B)
  fitting spans covered = record {
    floors = λ i part. omega (arith, claimant_floor B.flows i);
    lows = λ i slot u. omega (arith, covered.lows i slot u, load_reached slot);
    highs = λ i slot u. omega (arith, covered.highs i slot u, load_reached slot);
  }

  module _ (wired : Wired B) where
    pub takes_part : (i : ℕ) → i < length B.flows → rounds.TakesPart cs i
    takes_part i h = ap rounds.filled (claimant_row B.flows i) ∙ row_filled (get_or (rows B) i []) (wired i h)

    pub proper : ProperRows cs
    proper i = elim (cases_lt i (length B.flows)) [
      | inl h ↦ subst Proper (sym (claimant_row B.flows i)) (row_proper (get_or (rows B) i []) (wired i h))
      | inr past ↦
          let none = get_or_past cs i rounds.nobody (omega (arith, many)) in
          subst (λ (c : rounds.Claimant). Proper c.row) (sym none) tt
    ]

  -- before any round the total alone bounds a line from above
  high_holds : (spans : ℕ → Span) (R i : ℕ) → (1 ≤ R → units_at B i ≤ rounds.High cs spans R i) → units_at B i ≤ high B spans R i
  high_holds spans zero i h = units_light i
  high_holds spans (suc R) i h = omega (arith, units_light i, h (omega arith))

  high_light : (spans : ℕ → Span) (R i : ℕ) → high B spans R i ≤ total B
  high_light spans zero i = omega arith
  high_light spans (suc R) i = omega arith

  high_falls : (spans fresh : ℕ → Span) (R R' i : ℕ) → R ≤ R'
      → (1 ≤ R → rounds.High cs fresh R' i ≤ rounds.High cs spans R i) → high B fresh R' i ≤ high B spans R i
  high_falls spans fresh zero R' i le h = high_light fresh R' i
  high_falls spans fresh (suc R) zero i le h = absurd (omega arith)
  high_falls spans fresh (suc R) (suc R') i le h = omega (arith, h (omega arith))

  high_exact : (spans : ℕ → Span) (R i : ℕ) → 1 ≤ R → rounds.High cs spans R i ≡ units_at B i → high B spans R i ≡ units_at B i
  high_exact spans zero i some e = absurd (omega arith)
  high_exact spans (suc R) i some e = omega (arith, units_light i)

pub lines_hold_lem : LinesHold
lines_hold_lem B spans wired covered R i h =
    let bounds = bounds_hold_lem (claimants B) spans (units_at B) (proper B wired) (fitting B spans covered) R i
    (takes_part B wired i h) in
    (omega (arith, bounds.0), high_holds B spans R i bounds.1)

pub lines_tighten_lem : LinesTighten
lines_tighten_lem B spans fresh wired narrow R R' i le h =
    let bounds = more_rounds_tighten_lem (claimants B) spans fresh (proper B wired) narrow R R' i le (takes_part B wired i h) in
    (omega (arith, bounds.0), high_falls B spans fresh R R' i le bounds.1)

pub lines_close_lem : LinesClose
lines_close_lem B spans wired covered closed R i more h free =
    let found = outside_knots_close_lem (claimants B) spans (units_at B) (proper B wired) (fitting B spans covered) closed R i
    (omega (arith, few_parties B)) (takes_part B wired i h) free in
    (omega (arith, found.0, units_light B i), high_exact B spans R i (omega arith) found.1)
