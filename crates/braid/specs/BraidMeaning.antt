-- What a braid means: which totals it admits, and what it knows of each slot.
use Rattle.std.specs.Prelude.{◌≡◌, ℕ, zero, suc, ◌+◌, ◌*◌, ◌/◌, ◌%◌, ◌^◌, ◌<◌, ◌≤◌, min, Bool, true, cond, List, [], length, ◌==◌, nat_le, slice_index, slice_index_or}
use Rattle.rounds.specs.declared.span.Span.{Span}
use Rattle.rounds.specs.Spans.{closed_at}
use Rattle.rounds.specs.Rounds.{Claimant, nobody, Low, High}
use Rattle.store.specs.Meaning.{Meaning, Within}
use Rattle.store.specs.Sums.{listed, slot_sums}
use Rattle.store.specs.Totals.{total}
use Rattle.wiring.specs.Rising.{is_row}
use Rattle.braid.specs.declared.layer.Layer.{Layer}
use Rattle.braid.specs.declared.braid.Braid.{Braid}

-- counters of this layer count modulo this number
abbrev pub modulus : Layer → ℕ
modulus l = 2 ^ l.depth

-- the rows in the order of the slots, of which there is one each
abbrev pub rows : Layer → List (List ℕ)
rows l = l.rows

abbrev pub row : Layer → ℕ → List ℕ
row l i = slice_index_or (rows l) i []

-- how many slots there are
abbrev pub count : Layer → ℕ
count l = length (rows l)

-- the low part of a slot, and whether its status bit is set
abbrev pub part : Layer → ℕ → ℕ
part l i = slice_index l.parts i

abbrev pub raised : Layer → ℕ → Bool
raised l i = slice_index l.bits i == 1

-- a raised slot is a claimant with floor 1, since it has run over at least once; any other takes no part
abbrev pub claimant_of : ℕ → List ℕ → Claimant
claimant_of bit row = cond (bit == 1) (record { row = row; floor = 1 }) nobody

abbrev pub claimant : Layer → ℕ → Claimant
claimant l i = claimant_of (slice_index l.bits i) (row l i)

abbrev pub claimants : Layer → List Claimant
claimants l = listed (count l) (claimant l)

-- what a slot that has run over at least `low` times and at most `high` times holds, no more than the weight
abbrev pub top : Layer → ℕ → ℕ → ℕ → ℕ
top l i zero high = l.weight
top l i (suc R) high = min l.weight (part l i + modulus l * high)

abbrev pub raised_span : Layer → ℕ → ℕ → ℕ → ℕ → Span
raised_span l i R low high = record { low = min l.weight (part l i + modulus l * low); high = top l i R high }

-- the span of a slot, where the slots below have these spans at the same rounds
abbrev pub slot_span : Layer → (ℕ → Span) → ℕ → ℕ → Span
slot_span l below R i =
    cond (raised l i) (raised_span l i R (Low (claimants l) below R i) (High (claimants l) below R i)) (closed_at (part l i))

module _ {S : Type 0} (m : Meaning S) where
  -- what each slot has carried into the store below
  abbrev pub carried : Layer → List ℕ → ℕ → ℕ
  carried l T i = slice_index T i / modulus l

  pub record BraidAdmits (s : Braid S) (T : List ℕ) : Type 0 where
    pub long : length T ≡ count s.layer
    pub adds : total T ≡ s.layer.weight
    pub parts : (i : ℕ) → i < count s.layer → part s.layer i ≡ slice_index T i % modulus s.layer
    pub bits : (i : ℕ) → i < count s.layer → raised s.layer i ≡ nat_le (modulus s.layer) (slice_index T i)
    pub below : m.admits s.below (slot_sums (m.slots s.below) (rows s.layer) (carried s.layer T))

  abbrev pub braid_spans : Braid S → ℕ → ℕ → Span
  braid_spans s R i = slot_span s.layer (m.spans s.below R) R i

  -- what the making and the calls of a braid keep
  pub record BraidSound (s : Braid S) : Type 0 where
    pub below : m.sound s.below
    pub few : count s.layer ≤ 1024
    pub shallow : 2 ≤ s.layer.depth
    pub deep : s.layer.depth ≤ 16
    pub light : s.layer.weight ≤ 2 ^ 40
    pub parts : (i : ℕ) → i < count s.layer → part s.layer i ≤ s.layer.weight
    pub wired : (i : ℕ) → i < count s.layer → (is_row (row s.layer i) ≡ true) × Within (m.slots s.below) (row s.layer i)
    -- what was worked out for the raised slots, where the braid is settled at some rounds and admits a list
    pub lows : (T : List ℕ) → BraidAdmits s T → 0 < s.layer.rounds → (i : ℕ) → i < count s.layer → raised s.layer i ≡ true
        → slice_index s.layer.lows i ≡ Low (claimants s.layer) (m.spans s.below s.layer.rounds) s.layer.rounds i
    pub highs : (T : List ℕ) → BraidAdmits s T → 0 < s.layer.rounds → (i : ℕ) → i < count s.layer → raised s.layer i ≡ true
        → slice_index s.layer.highs i ≡ High (claimants s.layer) (m.spans s.below s.layer.rounds) s.layer.rounds i

  abbrev pub braid_meaning : Meaning (Braid S)
  braid_meaning = record {
    slots = λ s. count s.layer;
    weight = λ s. s.layer.weight;
    rounds = λ s. s.layer.rounds;
    admits = BraidAdmits;
    spans = braid_spans;
    sound = BraidSound;
  }
