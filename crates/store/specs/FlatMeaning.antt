-- What a flat store means: it admits one list, its table, and knows every entry exactly.
use Rattle.std.specs.Prelude.{◌≡◌, ℕ, zero, suc, ◌≤◌, List, [], ◌∷◌, length, take, drop, slice_index}
use Rattle.std.proofs.Common.{ap, ◌∙◌, arith, length-take}
use Rattle.rounds.specs.Spans.{closed_at}
use Rattle.store.specs.Totals.{total}
use Rattle.store.specs.FlatView.{FlatSound}
use Rattle.store.specs.Meaning.{Meaning, Laws}
use Rattle.store.specs.declared.flat.Flat.{Flat}

-- the slots are the first 1,024 numbers of the table, or all if there are fewer
abbrev pub cells : Flat → List ℕ
cells f = take 1024 f.table

-- the numbers that are no slots
abbrev pub behind : Flat → List ℕ
behind f = drop 1024 f.table

abbrev pub flat_meaning : Meaning Flat
flat_meaning = record {
  slots = λ f. length (cells f);
  weight = λ f. f.weight;
  rounds = λ f. f.rounds;
  admits = λ f T. T ≡ cells f;
  spans = λ f R slot. closed_at (slice_index (cells f) slot);
  sound = λ f. FlatSound f.table f.weight;
}

-- no entry is more than all together
pub entry_light : (T : List ℕ) (slot : ℕ) → slice_index T slot ≤ total T
entry_light [] slot = omega arith
entry_light (x ∷ T) zero = omega arith
entry_light (x ∷ T) (suc slot) = omega (arith, entry_light T slot)

pub flat_laws : Laws flat_meaning
flat_laws = record {
  few = λ f o. omega (arith, length-take 1024 f.table);
  light = λ f o. o.light;
  long = λ f o T a. ap length a;
  adds = λ f o T a. ap total a ∙ o.adds;
  above = λ f o T a R slot h. omega (arith, ap (λ U. slice_index U slot) a);
  below = λ f o T a R slot h. omega (arith, ap (λ U. slice_index U slot) a);
  rises = λ f o R Q slot h k. omega arith;
  falls = λ f o R Q slot h k. omega arith;
  low_light = λ f o R slot h. omega (arith, entry_light (cells f) slot, o.adds);
  high_light = λ f o R slot h. omega (arith, entry_light (cells f) slot, o.adds);
}
