-- One enrol and one record: what the book answers by the state it is in, and what it then holds. An epoch that stands for
-- a book answers alike.
use Rattle.std.proofs.Common.{◌≡◌, ℕ, zero, suc, ◌+◌, ◌*◌, ◌^◌, ◌<◌, ◌≤◌, true, false, cond, List, [], ◌∷◌, ◌++◌, map, length, get_or, replicate, is_some, Some, None, sym, refl, ap, ◌∙◌, arith}
use lib.ListN.{length-map}
use Rattle.std.proofs.lemmas.List.{get_or_append_left, get_or_push, get_or-set_other, get_or-set_same, map_push}
use Rattle.std.proofs.lemmas.Bool.{cond-true, cond-false, eq-eqb, ne_eqb, lt-ltb, le-ltb, le-leb, lt-leb}
use Rattle.store.specs.Meaning.{Within}
use Rattle.store.specs.Sums.{slot_sums}
use Rattle.store.specs.Totals as totals
use Rattle.store.proofs.Lists.{total_more}
use Rattle.store.proofs.Sums.{sums_more, sums_push, sums_none, total_sums, sum_ext, total_sum}
use Rattle.rounds.specs.Rounds.{sum}
use Rattle.wiring.specs.Rising.{is_row}
use Rattle.book.specs.Book.{Said, enrolled, recorded, denied, Flow, Book, identifier_of, row_of, units_of, weight_of}
use Rattle.book.specs.Book.{identifiers, rows, units, total, weight, units_at, sums, Wired, opened, fits, place}
use Rattle.book.specs.Book.{enrol_says, record_there, record_says, accepted, with_flows, grown, grown_there, after_enrol, after_record}
use Rattle.book.proofs.Flows.{new_flow, grown_rows, grown_units}
use Rattle.book.proofs.Rows.{row_distinct}
use Rattle.book.proofs.Says.{Enrols, Records}

module _ (B : Book) where
  abbrev pub N : ℕ
  N = B.beneath

  -- enrol
  module _ (id : ℕ) (slots : List ℕ) where
    abbrev pub more_flows : Book
    more_flows = with_flows B (B.flows ++ new_flow id slots ∷ [])

    -- the answer is this, and the book after the call is that
    abbrev pub EnrolStep : Said → Book → Type 0
    EnrolStep said C = (enrol_says B id slots ≡ said) × (after_enrol B id slots ≡ C)

    refused : (why : ℕ) → enrol_says B id slots ≡ denied why → EnrolStep (denied why) B
    refused why is = (is, ap (λ said. cond (accepted said) more_flows B) is)

    pub enrol_no_row : is_row slots ≡ false → EnrolStep (denied 5) B
    enrol_no_row none = refused 5 (rw none)

    module _ (row : is_row slots ≡ true) where
      pub enrol_loaded : (B.burden ≡ 0 → ⊥) → EnrolStep (denied 6) B
      enrol_loaded some = refused 6 (rw (row, ne_eqb B.burden 0 some))

      module _ (empty : B.burden ≡ 0) where
        pub enrol_full : 1024 ≤ length B.flows → EnrolStep (denied 7) B
        enrol_full full = refused 7 (rw (row, eq-eqb B.burden 0 empty, le-ltb (length B.flows) 1024 full))

        module _ (few : length B.flows < 1024) where
          pub enrol_known : is_some (place id B.flows) ≡ true → EnrolStep (denied 8) B
          enrol_known known = refused 8 (rw (row, eq-eqb B.burden 0 empty, lt-ltb (length B.flows) 1024 few, known))

          pub enrol_outside : is_some (place id B.flows) ≡ false → fits N slots ≡ false → EnrolStep (denied 1) B
          enrol_outside new out =
              refused 1 (rw (row, eq-eqb B.burden 0 empty, lt-ltb (length B.flows) 1024 few, new, out))

    pub enrol_taken : Enrols B id slots → EnrolStep (enrolled (length B.flows)) more_flows
    enrol_taken e =
        let row = e.row in
        let new = e.new in
        let there = e.there in
        let is : enrol_says B id slots ≡ enrolled (length B.flows) =
        rw (row, eq-eqb B.burden 0 e.empty, lt-ltb (length B.flows) 1024 e.few, new, there) in
        (is, ap (λ said. cond (accepted said) more_flows B) is)

    pub enrol_identifiers : identifiers more_flows ≡ identifiers B ++ id ∷ []
    enrol_identifiers = map_push identifier_of B.flows (new_flow id slots)

    pub enrol_rows : rows more_flows ≡ rows B ++ slots ∷ []
    enrol_rows = map_push row_of B.flows (new_flow id slots)

    pub enrol_units : units more_flows ≡ units B ++ 0 ∷ []
    enrol_units = map_push units_of B.flows (new_flow id slots)

    -- a flow more brings nothing yet
    pub enrol_sums : sums more_flows ≡ sums B
    enrol_sums =
        let many = length-map B.flows row_of in
        let long = length-map B.flows units_of in
        let at : ℕ → ℕ = λ i. get_or (units B ++ 0 ∷ []) i 0 in
        (λ k. slot_sums N (enrol_rows k) (λ i. get_or (enrol_units k) i 0))
        ∙ sums_push N (rows B) slots (units_at B) at
        (λ i h. get_or_append_left (units B) (0 ∷ []) 0 i (omega arith))
        (get_or_push (units B) 0 0 (length (rows B)) (omega arith))

  -- record
  module _ (id n : ℕ) where
    abbrev pub RecordStep : Said → Book → Type 0
    RecordStep said C = (record_says B id n ≡ said) × (after_record B id n ≡ C)

    abbrev entered : Book
    entered = with_flows B (grown_there B.flows (place id B.flows) n)

    pub record_unknown : place id B.flows ≡ None → RecordStep (denied 9) B
    record_unknown none =
        let is : record_says B id n ≡ denied 9 = ap (record_there B n) none in
        (is, ap (λ said. cond (accepted said) entered B) is)

    pub record_over : (i : ℕ) → place id B.flows ≡ Some i → 2 ^ 40 < B.burden + weight B + length (get_or (rows B) i []) * n
        → RecordStep (denied 2) B
    record_over i at over =
        let is : record_says B id n ≡ denied 2 = ap (record_there B n) at ∙ cond-false _ _ _ (lt-leb _ (2 ^ 40) over) in
        (is, ap (λ said. cond (accepted said) entered B) is)

    pub record_taken : (i : ℕ) → Records B id n i → RecordStep (recorded (total B + n)) (with_flows B (grown B.flows i n))
    record_taken i r =
        let is : record_says B id n ≡ recorded (total B + n) =
        ap (record_there B n) r.at ∙ cond-true _ _ _ (le-leb _ (2 ^ 40) r.light) in
        (is, ap (λ said. cond (accepted said) entered B) is ∙ ap (λ p. with_flows B (grown_there B.flows p n)) r.at)

  -- n units more for flow i
  module _ (i n : ℕ) (here : i < length B.flows) where
    abbrev pub more_units : Book
    more_units = with_flows B (grown B.flows i n)

    pub record_total : total more_units ≡ total B + n
    record_total =
        ap totals.total (grown_units B.flows i n) ∙ total_more (units B) i n (omega (arith, length-map B.flows units_of))

    -- they reach each slot of its row
    pub record_sums : Wired B → Within N (get_or (rows B) i []) → sums more_units ≡ totals.spread (sums B) (get_or (rows B) i []) n
    record_sums wired within =
        let many = length-map B.flows row_of in
        let long = length-map B.flows units_of in
        let at : ℕ → ℕ = λ j. get_or (totals.more (units B) i n) j 0 in
        (λ k. slot_sums N (grown_rows B.flows i n k) (λ j. get_or (grown_units B.flows i n k) j 0))
        ∙ sums_more N (rows B) (units_at B) at i n (omega arith) (row_distinct (get_or (rows B) i []) (wired i here)) within
        (get_or-set_same (units B) i (units_at B i + n) 0 (omega arith))
        (λ j apart. get_or-set_other (units B) i j (units_at B i + n) 0 apart)

-- the sums of the slots add up to the weight
weight_at : (flows : List Flow) (i : ℕ)
    → length (get_or (map row_of flows) i []) * get_or (map units_of flows) i 0 ≡ get_or (map weight_of flows) i 0
weight_at [] i = refl
weight_at (flow ∷ flows) zero = refl
weight_at (flow ∷ flows) (suc i) = weight_at flows i

pub sums_weight : (B : Book) → Wired B → ((i : ℕ) → i < length B.flows → Within B.beneath (get_or (rows B) i []))
    → totals.total (sums B) ≡ weight B
sums_weight B wired within =
    let many = length-map B.flows row_of in
    let heavy : List ℕ = map weight_of B.flows in
    total_sums B.beneath (rows B) (units_at B)
    (λ i h. row_distinct (get_or (rows B) i []) (wired i (omega arith))) (λ i h. within i (omega arith))
    ∙ sum_ext (length (rows B)) _ (λ i. get_or heavy i 0) (λ i h. weight_at B.flows i)
    ∙ ap (λ n. sum n (λ i. get_or heavy i 0)) (many ∙ sym (length-map B.flows weight_of)) ∙ sym (total_sum heavy)

-- before any call nothing has reached a slot
pub opened_sums : (N W : ℕ) → sums (opened N W) ≡ replicate N 0
opened_sums N W = sums_none N [] (units_at (opened N W)) (λ i h. refl)
