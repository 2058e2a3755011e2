-- A braid as it is made, and with one slot more.
use Rattle.std.proofs.Common.{◌≡◌, ℕ, ◌+◌, ◌/◌, ◌%◌, ◌<◌, ◌≤◌, true, false, eqb, leb, List, [], ◌∷◌, ◌++◌, length, get_or, set, sym, refl, ap, ◌∙◌, subst, inl, inr, arith}
use native.Mathlib.Nat.{zero-mod, zero-div}
use Rattle.std.proofs.lemmas.List.{get_or-set_same, get_or-set_other, get_or_append_left, get_or_push, length_push}
use Rattle.std.proofs.lemmas.Bool.{both_ways, cases_eq, lt-leb}
use Rattle.store.specs.FlatMeaning.{entry_light}
use Rattle.store.specs.Meaning.{Meaning, Laws, Fresh, Within}
use Rattle.store.specs.Totals.{total}
use Rattle.store.specs.Sums.{slot_sums}
use Rattle.store.proofs.Sums.{listed_get_or, sums_push}
use Rattle.wiring.specs.Rising.{is_row}
use Rattle.braid.specs.declared.braid.Braid.{Braid}
use Rattle.braid.specs.BraidMeaning.{count, rows, row, part, raised, modulus, carried, BraidAdmits, BraidSound, braid_meaning}
use Rattle.braid.specs.Layers.{Room, blank, wired}
use Rattle.braid.proofs.Depths.{modulus_least}

-- a list that adds up to 0 has no entry above 0
pub entry_none : (T : List ℕ) (i : ℕ) → total T ≡ 0 → get_or T i 0 ≡ 0
entry_none T i h = omega (arith, entry_light T i)

module _ {S : Type 0} (m : Meaning S) (below : S) (depth : ℕ) (shallow : 2 ≤ depth) (deep : depth ≤ 16) where
  abbrev made : Braid S
  made = record { below = below; layer = blank depth }

  pub made_sound : m.sound below → BraidSound m made
  made_sound sound = record {
    below = sound;
    few = omega arith;
    shallow = shallow;
    deep = deep;
    light = omega arith;
    parts = λ i h. absurd (omega arith);
    wired = λ i h. absurd (omega arith);
    lows = λ T a h. absurd (omega arith);
    highs = λ T a h. absurd (omega arith);
  }

  pub made_fresh : Laws m → Fresh m below → Fresh (braid_meaning m) made
  made_fresh laws fresh = record {
    live = record {
      sound = made_sound fresh.live.sound;
      totals = [];
      admitted = record {
        long = refl;
        adds = refl;
        parts = λ i h. absurd (omega arith);
        bits = λ i h. absurd (omega arith);
        below = subst (m.admits below) none fresh.live.admitted;
      };
    };
    empty = refl;
  }
    where
      none : fresh.live.totals ≡ slot_sums (m.slots below) [] (carried m (blank depth) [])
      none = sym (listed_get_or (m.slots below) (λ slot. 0) fresh.live.totals 0 (laws.long below fresh.live.sound _ fresh.live.admitted)
          (λ k h. sym (entry_none fresh.live.totals k (laws.adds below fresh.live.sound _ fresh.live.admitted ∙ fresh.empty))))

-- a cell of a table that was written, and the others
set_at : {X : Type 0} (xs : List X) (n i : ℕ) (x d : X) → n < length xs → i ≡ n → get_or (set xs n x) i d ≡ x
set_at xs n i x d h e = ap (λ k. get_or (set xs n x) k d) e ∙ get_or-set_same xs n x d h

total_push : (T : List ℕ) → total (T ++ 0 ∷ []) ≡ total T
total_push [] = refl
total_push (x ∷ T) = ap (λ v. x + v) (total_push T)

get_or_front : (T : List ℕ) (n i : ℕ) → length T ≡ n → i < n → get_or (T ++ 0 ∷ []) i 0 ≡ get_or T i 0
get_or_front T n i e h = get_or_append_left T (0 ∷ []) 0 i (omega arith)

get_or_last : (T : List ℕ) (n i : ℕ) → length T ≡ n → i ≡ n → get_or (T ++ 0 ∷ []) i 0 ≡ 0
get_or_last T n i e h = get_or_push T 0 0 i (e ∙ sym h)

module _ {S : Type 0} (m : Meaning S) (s : Braid S) (r : List ℕ) (few : count s.layer < 1024) (room : Room s.layer) where
  abbrev after : Braid S
  after = record { below = s.below; layer = wired s.layer r }

  longer : count after.layer ≡ count s.layer + 1
  longer = length_push (rows s.layer) r

  part_old : (i : ℕ) → (i ≡ count s.layer → ⊥) → part (wired s.layer r) i ≡ part s.layer i
  part_old i d = get_or-set_other s.layer.parts (count s.layer) i 0 0 d

  part_new : (i : ℕ) → i ≡ count s.layer → part (wired s.layer r) i ≡ 0
  part_new i e = set_at s.layer.parts (count s.layer) i 0 0 (omega arith) e

  raised_old : (i : ℕ) → (i ≡ count s.layer → ⊥) → raised (wired s.layer r) i ≡ raised s.layer i
  raised_old i d = ap (λ b. eqb b 1) (get_or-set_other s.layer.bits (count s.layer) i 0 0 d)

  raised_new : (i : ℕ) → i ≡ count s.layer → raised (wired s.layer r) i ≡ false
  raised_new i e = ap (λ b. eqb b 1) (set_at s.layer.bits (count s.layer) i 0 0 (omega arith) e)

  row_old : (i : ℕ) → i < count s.layer → row (wired s.layer r) i ≡ row s.layer i
  row_old i h = get_or_append_left (rows s.layer) (r ∷ []) [] i h

  row_new : (i : ℕ) → i ≡ count s.layer → row (wired s.layer r) i ≡ r
  row_new i e = get_or_push (rows s.layer) r [] i (sym e)

  -- without weight no slot of an admitted list is raised
  none_raised : (T : List ℕ) → s.layer.weight ≡ 0 → 2 ≤ s.layer.depth → BraidAdmits m after T → (i : ℕ) → i < count after.layer → raised (wired s.layer r) i ≡ true → ⊥
  none_raised T empty shallow a i h up =
      let zero : get_or T i 0 ≡ 0 = entry_none T i (a.adds ∙ empty) in
      both_ways _ (a.bits i h ∙ ap (leb (modulus s.layer)) zero ∙ lt-leb (modulus s.layer) 0 (omega (arith, modulus_least s.layer.depth shallow))) up

  pub wired_sound : s.layer.weight ≡ 0 → is_row r ≡ true → Within (m.slots s.below) r → BraidSound m s → BraidSound m after
  wired_sound empty one within sound = record {
    below = sound.below;
    few = omega (arith, longer);
    shallow = sound.shallow;
    deep = sound.deep;
    light = sound.light;
    parts = λ i h. elim (cases_eq i (count s.layer)) [
      | inl e ↦ omega (arith, part_new i e)
      | inr d ↦ omega (arith, part_old i d, sound.parts i (omega (arith, longer)))
    ];
    wired = λ i h. elim (cases_eq i (count s.layer)) [
      | inl e ↦ subst (λ x. (is_row x ≡ true) × Within (m.slots s.below) x) (sym (row_new i e)) (one, within)
      | inr d ↦ subst (λ x. (is_row x ≡ true) × Within (m.slots s.below) x) (sym (row_old i (omega (arith, longer)))) (sound.wired i (omega (arith, longer)))
    ];
    lows = λ T a h i k up. absurd (none_raised T empty sound.shallow a i k up);
    highs = λ T a h i k up. absurd (none_raised T empty sound.shallow a i k up);
  }

  pub wired_admits : (T : List ℕ) → 2 ≤ s.layer.depth → BraidAdmits m s T → BraidAdmits m after (T ++ 0 ∷ [])
  wired_admits T shallow a =
      let M = modulus s.layer in
      let some = modulus_least s.layer.depth shallow in
      record {
        long = length_push T 0 ∙ ap (λ k. k + 1) a.long ∙ sym longer;
        adds = total_push T ∙ a.adds;
        parts = λ i h. elim (cases_eq i (count s.layer)) [
          | inl e ↦ part_new i e ∙ sym (zero-mod M) ∙ ap (λ x. x % M) (sym (get_or_last T (count s.layer) i a.long e))
          | inr d ↦ part_old i d ∙ a.parts i (omega (arith, longer)) ∙ ap (λ x. x % M) (sym (get_or_front T (count s.layer) i a.long (omega (arith, longer))))
        ];
        bits = λ i h. elim (cases_eq i (count s.layer)) [
          | inl e ↦ raised_new i e ∙ sym (lt-leb M 0 (omega arith)) ∙ ap (leb M) (sym (get_or_last T (count s.layer) i a.long e))
          | inr d ↦ raised_old i d ∙ a.bits i (omega (arith, longer)) ∙ ap (leb M) (sym (get_or_front T (count s.layer) i a.long (omega (arith, longer))))
        ];
        below = subst (m.admits s.below) (sym (same T a)) a.below;
      }
    where
      same : (T : List ℕ) → BraidAdmits m s T → slot_sums (m.slots s.below) (rows (wired s.layer r)) (carried m (wired s.layer r) (T ++ 0 ∷ []))
          ≡ slot_sums (m.slots s.below) (rows s.layer) (carried m s.layer T)
      same T a =
          sums_push (m.slots s.below) (rows s.layer) r (carried m s.layer T) (carried m s.layer (T ++ 0 ∷ []))
          (λ i h. ap (λ x. x / modulus s.layer) (get_or_front T (count s.layer) i a.long h))
          (ap (λ x. x / modulus s.layer) (get_or_last T (count s.layer) (count s.layer) a.long refl) ∙ zero-div (modulus s.layer))
