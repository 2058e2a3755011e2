-- Lists of flows: which of them has an identifier, and what one flow more, or units more for one, do to what is read off
-- them.
use Rattle.std.proofs.Common.{◌≡◌, ℕ, zero, suc, ◌+◌, ◌*◌, ◌<◌, Bool, true, false, cond, ◌||◌, eqb, ltb, List, [], ◌∷◌, ◌++◌, map, length, get_or, is_some, Some, None, Option, sym, refl, ap, ◌∙◌, subst, mul-add, arith}
use lib.ListN.{length-map}
use Rattle.std.proofs.lemmas.Bool.{and_from, and_parts, both_ways, cond-true, cond-false, or_from, or_parts, eqb-true, eqb-false, eq-eqb, ne_eqb, lt-ltb, ltb-true}
use Rattle.std.specs.Option.{option_map}
use Rattle.rounds.specs.Rounds.{has}
use Rattle.rounds.specs.Laws.{Distinct}
use Rattle.store.specs.Meaning.{Within}
use Rattle.store.specs.Totals as totals
use Rattle.book.specs.Book.{Flow, identifier_of, row_of, units_of, weight_of, fits, place, grown}
use Rattle.book.specs.Runs.{only, every, named}

-- a row whose slots are all there
pub fits_within : (N : ℕ) (row : List ℕ) → fits N row ≡ true → Within N row
fits_within N [] h = tt
fits_within N (slot ∷ row) h =
    let both = and_parts (ltb slot N) (fits N row) h in
    (ltb-true slot N both.0, fits_within N row both.1)

pub within_fits : (N : ℕ) (row : List ℕ) → Within N row → fits N row ≡ true
within_fits N [] w = refl
within_fits N (slot ∷ row) w = and_from (ltb slot N) (fits N row) (lt-ltb slot N w.0) (within_fits N row w.1)

pub fits_not : (N : ℕ) (row : List ℕ) → fits N row ≡ false → Within N row → ⊥
fits_not N row h w = both_ways (fits N row) h (within_fits N row w)

-- the flow that an enrol appends
abbrev pub new_flow : ℕ → List ℕ → Flow
new_flow id slots = record { identifier = id; row = slots; units = 0 }

-- units more for one flow
pub grown_names : (flows : List Flow) (i n : ℕ) → map named (grown flows i n) ≡ map named flows
grown_names [] i n = refl
grown_names (flow ∷ flows) zero n = refl
grown_names (flow ∷ flows) (suc i) n = ap (λ l. named flow ∷ l) (grown_names flows i n)

pub grown_identifiers : (flows : List Flow) (i n : ℕ) → map identifier_of (grown flows i n) ≡ map identifier_of flows
grown_identifiers [] i n = refl
grown_identifiers (flow ∷ flows) zero n = refl
grown_identifiers (flow ∷ flows) (suc i) n = ap (λ l. flow.identifier ∷ l) (grown_identifiers flows i n)

pub grown_rows : (flows : List Flow) (i n : ℕ) → map row_of (grown flows i n) ≡ map row_of flows
grown_rows [] i n = refl
grown_rows (flow ∷ flows) zero n = refl
grown_rows (flow ∷ flows) (suc i) n = ap (λ l. flow.row ∷ l) (grown_rows flows i n)

pub grown_units : (flows : List Flow) (i n : ℕ) → map units_of (grown flows i n) ≡ totals.more (map units_of flows) i n
grown_units [] i n = refl
grown_units (flow ∷ flows) zero n = refl
grown_units (flow ∷ flows) (suc i) n = ap (λ l. flow.units ∷ l) (grown_units flows i n)

pub grown_length : (flows : List Flow) (i n : ℕ) → length (grown flows i n) ≡ length flows
grown_length [] i n = refl
grown_length (flow ∷ flows) zero n = refl
grown_length (flow ∷ flows) (suc i) n = ap suc (grown_length flows i n)

pub grown_weight : (flows : List Flow) (i n : ℕ) → i < length flows
    → totals.total (map weight_of (grown flows i n))
    ≡ totals.total (map weight_of flows) + length (get_or (map row_of flows) i []) * n
grown_weight [] i n h = absurd (omega arith)
grown_weight (flow ∷ flows) zero n h = omega (arith, mul-add (length flow.row) flow.units n)
grown_weight (flow ∷ flows) (suc i) n h = omega (arith, grown_weight flows i n (omega arith))

-- a flow that has no units yet weighs nothing
pub push_weight : (flows : List Flow) (id : ℕ) (row : List ℕ)
    → totals.total (map weight_of (flows ++ new_flow id row ∷ [])) ≡ totals.total (map weight_of flows)
push_weight [] id row = omega arith
push_weight (flow ∷ flows) id row = omega (arith, push_weight flows id row)

-- an identifier has a place among the flows just where it is one of theirs
pub known_has : (id : ℕ) (flows : List Flow) → is_some (place id flows) ≡ has id (map identifier_of flows)
known_has id [] = refl
known_has id (flow ∷ flows) = at (eqb id flow.identifier) (place id flows) (known_has id flows)
  where
    at : (b : Bool) (p : Option ℕ) → is_some p ≡ has id (map identifier_of flows)
        → is_some (cond b (Some 0) (option_map suc p)) ≡ (b || has id (map identifier_of flows))
    at true p e = refl
    at false None e = e
    at false (Some k) e = e

-- and there it is
pub place_some : (id : ℕ) (flows : List Flow) (i : ℕ) → place id flows ≡ Some i
    → (i < length flows) × (get_or (map identifier_of flows) i 0 ≡ id)
place_some id [] i e = let z : ◌≡◌ {A = ℕ} 0 1 = cc in absurd (omega arith)
place_some id (flow ∷ flows) i e = at (eqb id flow.identifier) refl (place id flows) (place_some id flows) e
  where
    Here : ℕ → Type 0
    Here k = (k < length (flow ∷ flows)) × (get_or (map identifier_of (flow ∷ flows)) k 0 ≡ id)

    at : (b : Bool) → eqb id flow.identifier ≡ b → (p : Option ℕ)
        → ((k : ℕ) → p ≡ Some k → (k < length flows) × (get_or (map identifier_of flows) k 0 ≡ id))
        → cond b (Some 0) (option_map suc p) ≡ Some i → Here i
    at true hit p later e = let z : 0 ≡ i = cc in subst Here z (omega arith, sym (eqb-true id flow.identifier hit))
    at false miss None later e = let z : ◌≡◌ {A = ℕ} 0 1 = cc in absurd (omega arith)
    at false miss (Some k) later e =
        let z : suc k ≡ i = cc in
        let r = later k refl in
        subst Here z (omega arith, r.1)

-- one step of a search for an identifier
pub place_here : (id : ℕ) (flow : Flow) (flows : List Flow) → id ≡ flow.identifier → place id (flow ∷ flows) ≡ Some 0
place_here id flow flows e = cond-true (eqb id flow.identifier) (Some 0) _ (eq-eqb id flow.identifier e)

pub place_there : (id : ℕ) (flow : Flow) (flows : List Flow) → (id ≡ flow.identifier → ⊥)
    → place id (flow ∷ flows) ≡ option_map suc (place id flows)
place_there id flow flows apart = cond-false (eqb id flow.identifier) (Some 0) _ (ne_eqb id flow.identifier apart)

-- the flow at i is the first with this identifier
pub place_first : (id : ℕ) (flows : List Flow) (i : ℕ) → i < length flows
    → ((k : ℕ) → k < i → id ≡ get_or (map identifier_of flows) k 0 → ⊥) → id ≡ get_or (map identifier_of flows) i 0
    → place id flows ≡ Some i
place_first id [] i h before here = absurd (omega arith)
place_first id (flow ∷ flows) zero h before here = place_here id flow flows here
place_first id (flow ∷ flows) (suc i) h before here =
    place_there id flow flows (before 0 (omega arith))
    ∙ ap (option_map suc) (place_first id flows i (omega arith) (λ k l. before (suc k) (omega arith)) here)

-- no flow has this identifier
pub place_absent : (id : ℕ) (flows : List Flow) → ((k : ℕ) → k < length flows → id ≡ get_or (map identifier_of flows) k 0 → ⊥)
    → place id flows ≡ None
place_absent id [] none = refl
place_absent id (flow ∷ flows) none =
    place_there id flow flows (none 0 (omega arith))
    ∙ ap (option_map suc) (place_absent id flows (λ k l. none (suc k) (omega arith)))

-- numbers that are all different
has_not : (xs : List ℕ) (a i : ℕ) → has a xs ≡ false → i < length xs → a ≡ get_or xs i 0 → ⊥
has_not [] a i off h e = omega arith
has_not (x ∷ xs) a zero off h e = eqb-false a x (or_parts (eqb a x) (has a xs) off).0 e
has_not (x ∷ xs) a (suc i) off h e = has_not xs a i (or_parts (eqb a x) (has a xs) off).1 (omega arith) e

has_push : (xs : List ℕ) (a y : ℕ) → has a xs ≡ false → (a ≡ y → ⊥) → has a (xs ++ y ∷ []) ≡ false
has_push [] a y off apart = or_from (eqb a y) false (ne_eqb a y apart) refl
has_push (x ∷ xs) a y off apart =
    let both = or_parts (eqb a x) (has a xs) off in
    or_from (eqb a x) (has a (xs ++ y ∷ [])) both.0 (has_push xs a y both.1 apart)

pub distinct_push : (xs : List ℕ) (y : ℕ) → Distinct xs → has y xs ≡ false → Distinct (xs ++ y ∷ [])
distinct_push [] y d off = (refl, tt)
distinct_push (x ∷ xs) y d off =
    let both = or_parts (eqb y x) (has y xs) off in
    (has_push xs x y d.0 (λ e. eqb-false y x both.0 (sym e)), distinct_push xs y d.1 both.1)

-- the units of the flows under some identifiers
abbrev pub held : (ℕ → Bool) → List Flow → ℕ
held which [] = 0
held which (flow ∷ flows) = cond (which flow.identifier) flow.units 0 + held which flows

pub held_push : (which : ℕ → Bool) (flows : List Flow) (id : ℕ) (row : List ℕ)
    → held which (flows ++ new_flow id row ∷ []) ≡ held which flows
held_push which [] id row = at (which id)
  where
    at : (b : Bool) → cond b 0 0 + 0 ≡ 0
    at true = refl
    at false = refl
held_push which (flow ∷ flows) id row = omega (arith, held_push which flows id row)

pub held_grown : (which : ℕ → Bool) (flows : List Flow) (i n : ℕ) → i < length flows
    → held which (grown flows i n) ≡ held which flows + cond (which (get_or (map identifier_of flows) i 0)) n 0
held_grown which [] i n h = absurd (omega arith)
held_grown which (flow ∷ flows) zero n h = omega (arith, at (which flow.identifier))
  where
    at : (b : Bool) → cond b (flow.units + n) 0 ≡ cond b flow.units 0 + cond b n 0
    at true = refl
    at false = refl
held_grown which (flow ∷ flows) (suc i) n h = omega (arith, held_grown which flows i n (omega arith))

pub held_every : (flows : List Flow) → held every flows ≡ totals.total (map units_of flows)
held_every [] = refl
held_every (flow ∷ flows) = omega (arith, held_every flows)

held_none : (id : ℕ) (flows : List Flow) → has id (map identifier_of flows) ≡ false → held (only id) flows ≡ 0
held_none id [] off = refl
held_none id (flow ∷ flows) off =
    let both = or_parts (eqb id flow.identifier) (has id (map identifier_of flows)) off in
    omega (arith, cond-false (eqb id flow.identifier) flow.units 0 both.0, held_none id flows both.1)

-- where identifiers are all different, those under the identifier of a flow are its own
pub held_only : (flows : List Flow) (i : ℕ) → Distinct (map identifier_of flows) → i < length flows
    → held (only (get_or (map identifier_of flows) i 0)) flows ≡ get_or (map units_of flows) i 0
held_only [] i d h = absurd (omega arith)
held_only (flow ∷ flows) zero d h =
    let id = flow.identifier in
    omega (arith, cond-true (eqb id id) flow.units 0 (eq-eqb id id refl), held_none id flows d.0)
held_only (flow ∷ flows) (suc i) d h =
    let ids = map identifier_of flows in
    let id = get_or ids i 0 in
    let long : i < length ids = omega (arith, length-map flows identifier_of) in
    let off = ne_eqb id flow.identifier (λ e. has_not ids flow.identifier i d.0 long (sym e)) in
    omega (arith, cond-false (eqb id flow.identifier) flow.units 0 off, held_only flows i d.1 (omega arith))
