-- What becomes of a layer: as it is made, with one row more, and with units added to a slot.
use Rattle.std.specs.Prelude.{◌≡◌, ℕ, ◌+◌, ◌/◌, ◌%◌, ◌^◌, ◌<◌, cond, List, [], ◌∷◌, ◌++◌, length, replicate, ◌==◌, nat_le, slice_index, slice_set}
use Rattle.rounds.specs.declared.span.Span.{Span}
use Rattle.braid.specs.declared.layer.Layer.{Layer}
use Rattle.store.specs.Meaning.{Within}
use Rattle.rounds.specs.Spans.{closed_at}
use Rattle.braid.specs.BraidMeaning.{row, rows, count, part, raised, raised_span}

-- the tables that are written one entry at a time have 1,024 entries
pub record Room (l : Layer) : Type 0 where
  pub parts : length l.parts ≡ 1024
  pub bits : length l.bits ≡ 1024

-- the same slots on the same rows
abbrev pub SameWiring : Layer → Layer → Type 0
SameWiring before after = (rows after ≡ rows before) × (after.depth ≡ before.depth)

-- a layer without slots
unfoldable pub zeros : List ℕ
zeros = replicate 1024 0

abbrev pub blank : ℕ → Layer
blank depth = record {
  parts = zeros;
  bits = zeros;
  lows = zeros;
  highs = zeros;
  rows = [];
  weight = 0;
  rounds = 0;
  depth = depth;
}

-- one slot more, empty and not raised
abbrev pub wired : Layer → List ℕ → Layer
wired l row = record {
  parts = slice_set l.parts (count l) 0;
  bits = slice_set l.bits (count l) 0;
  lows = l.lows;
  highs = l.highs;
  rows = rows l ++ row ∷ [];
  weight = l.weight;
  rounds = l.rounds;
  depth = l.depth;
}

-- what n units more make a slot carry
abbrev pub carry : Layer → ℕ → ℕ → ℕ
carry l i n = (slice_index l.parts i + n) / 2 ^ l.depth

-- n units more in a slot
abbrev pub added : Layer → ℕ → ℕ → Layer
added l i n = record {
  parts = slice_set l.parts i ((slice_index l.parts i + n) % 2 ^ l.depth);
  bits = cond (nat_le 1 (carry l i n)) (slice_set l.bits i 1) l.bits;
  lows = l.lows;
  highs = l.highs;
  rows = l.rows;
  weight = l.weight + n;
  rounds = 0;
  depth = l.depth;
}

-- what the tables know of a slot; before any round a raised slot has carried at least once
abbrev pub known_low : Layer → ℕ → ℕ
known_low l i = cond (l.rounds == 0) 1 (slice_index l.lows i)

abbrev pub known_span : Layer → ℕ → Span
known_span l i = cond (raised l i) (raised_span l i l.rounds (known_low l i) (slice_index l.highs i)) (closed_at (part l i))

-- the slots can be claimants: their rows are of slots that a store can have
abbrev pub Claimable : Layer → Type 0
Claimable l = (i : ℕ) → i < count l → Within 1024 (row l i)
