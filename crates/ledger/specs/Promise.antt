-- The braid's promise, over any list of calls on a braid made over a fresh store.
use Rattle.std.specs.Prelude.{◌≡◌, ℕ, ◌^◌, ◌<◌, Bool, true, false, List, [], ◌∷◌, length, drop, MatchBool, ◌≢◌, slice_index}
use Rattle.rounds.specs.Laws.{Closed, Knot, parties}
use Rattle.braid.specs.declared.braid.Braid.{Braid}
use Rattle.braid.specs.BraidMeaning as counters
use Rattle.store.specs.Meaning.{Meaning}
use Rattle.ledger.specs.Ledger.{Asked, Said, wired, added, settled, denied, Ledger, rows, totals, opened, answer, after, answers, closing}
use Rattle.ledger.specs.Rules as rules
use Rattle.ledger.specs.Runs.{AddsUp}

-- the braid is what the ledger says: its slots on these rows, and these totals among those that it admits
pub record Stands {S : Type 0} (m : Meaning S) (depth : ℕ) (L : Ledger) (s : Braid S) : Type 0 where
  pub sound : counters.BraidSound m s
  pub admits : counters.BraidAdmits m s (totals L)
  pub rows : counters.rows s.layer ≡ rows L
  pub depth_is : s.layer.depth ≡ depth
  pub beneath : m.slots s.below ≡ L.beneath
  pub rounds : s.layer.rounds ≡ L.rounds

-- the spans of the braid are those of the rules, for every slot and any number of rounds, settled there or not
abbrev pub Ruled : {S : Type 0} → Meaning S → ℕ → Ledger → Braid S → Type 0
Ruled m depth L s = (R i : ℕ) → i < length L.lines
    → counters.braid_spans m s R i ≡ rules.span (2 ^ depth) (rows L) (totals L) (m.spans s.below R) R i

-- at more rounds than raised slots, where the spans below are all closed, each raised slot that is in no knot of
-- raised slots has its total for a span
abbrev pub Closes : {S : Type 0} → Meaning S → ℕ → Ledger → Braid S → Type 0
Closes m depth L s = (R : ℕ) → parties (rules.claimants (2 ^ depth) (rows L) (totals L)) < R
    → ((slot : ℕ) → slot < m.slots s.below → Closed (m.spans s.below R) slot)
    → (i : ℕ) → i < length L.lines → rules.raised (2 ^ depth) (rows L) (totals L) i ≡ true
    → ((K : ℕ → Bool) → Knot (rules.claimants (2 ^ depth) (rows L) (totals L)) K → K i ≢ true)
    → counters.braid_spans m s R i ≡ record { low = slice_index (totals L) i; high = slice_index (totals L) i }

-- whether a settling was accepted
abbrev pub some_settled : List Said → Bool
some_settled [] = false
some_settled (wired slot ∷ said) = some_settled said
some_settled (added w ∷ said) = some_settled said
some_settled (settled R ∷ said) = true
some_settled (denied why ∷ said) = some_settled said

-- what a work area holds in the end: its first 7,168 numbers are 0 and the others kept once a settling was
-- accepted, and everything is kept if none was
abbrev pub Left : Bool → List ℕ → List ℕ → Type 0
Left any work left = MatchBool any (((k : ℕ) → k < 7168 → slice_index left k ≡ 0) × (drop 7168 left ≡ drop 7168 work)) (left ≡ work)

abbrev pub Worked : List Said → List ℕ → List ℕ → Type 0
Worked said work left = Left (some_settled said) work left

-- one call: it is answered as the ledger answers it, and the braid is what the ledger says after it
pub record Served {S : Type 0} (m : Meaning S) (depth : ℕ) (L : Ledger) (call : Asked) (said : Said) (s : Braid S) (work left : List ℕ) : Type 0 where
  pub answers : said ≡ answer L call
  pub stands : Stands m depth (after L call) s
  pub worked : Worked (said ∷ []) work left

-- so it is for whatever ledger the braid stood before the call
abbrev pub Serves : {S : Type 0} → Meaning S → Braid S → Asked → Said → Braid S → List ℕ → List ℕ → Type 0
Serves m s call said t work left = (depth : ℕ) (L : Ledger) → Stands m depth L s → Served m depth L call said t work left

pub record Promise {S : Type 0} (m : Meaning S) (depth beneath : ℕ) (calls : List Asked) (said : List Said) (s : Braid S) (work left : List ℕ) : Type 0 where
  -- every call is answered as the ledger answers that is fed this very list, denied calls among them
  pub answers : said ≡ answers (opened beneath) calls
  -- the ledger's totals and rows are those of the calls that were accepted
  pub sums : AddsUp beneath calls
  -- and the braid is what the ledger then says
  pub stands : Stands m depth (closing (opened beneath) calls) s
  pub ruled : Ruled m depth (closing (opened beneath) calls) s
  pub closes : Closes m depth (closing (opened beneath) calls) s
  pub worked : Worked said work left
