-- What wiring a slot answers and leaves.
use Rattle.std.specs.Prelude.{◌≡◌, ℕ, ◌+◌, ◌<◌, ◌≤◌, ◌⊎◌, List, [], ◌∷◌, ◌++◌, Ok, Err, Result}
use Rattle.store.specs.Meaning.{Meaning, Within}
use Rattle.store.specs.Refusals as store
use Rattle.braid.specs.declared.braid.Braid.{Braid}
use Rattle.braid.specs.declared.refusal.Refusal.{Refusal}
use Rattle.braid.specs.declared.refusal.Refusal.TheVariants.{Weighted, Full, Store}
use Rattle.braid.specs.BraidMeaning.{count, rows, BraidAdmits, BraidSound}

-- the number under which each refusal is known; that of the store below is the store's
abbrev pub number : Refusal → ℕ
number Weighted = 6
number Full = 7
number (Store why) = store.number why

abbrev pub told_wire : Result ℕ Refusal → Result ℕ ℕ
told_wire (Ok slot) = Ok slot
told_wire (Err why) = Err (number why)

module _ {S : Type 0} (m : Meaning S) where
  -- wire, accepted: the new slot has the row, and holds nothing in every list that was admitted
  pub record Wired (before after : Braid S) (row : List ℕ) (answer : Result ℕ ℕ) : Type 0 where
    pub answers : answer ≡ Ok (count before.layer)
    pub below : after.below ≡ before.below
    pub slots : count after.layer ≡ count before.layer + 1
    pub wiring : rows after.layer ≡ rows before.layer ++ row ∷ []
    pub depth : after.layer.depth ≡ before.layer.depth
    pub weight : after.layer.weight ≡ before.layer.weight
    pub rounds : after.layer.rounds ≡ before.layer.rounds
    pub sound : BraidSound m before → BraidSound m after
    pub admits : (T : List ℕ) → BraidSound m before → BraidAdmits m before T → BraidAdmits m after (T ++ 0 ∷ [])

  -- wire: 6 where the braid or the store below has weight, then 7 where there are 1,024 slots, then 1 where a slot of
  -- the row is not there; a refusal alters nothing
  pub record Wires (before after : Braid S) (row : List ℕ) (answer : Result ℕ ℕ) : Type 0 where
    pub weighted : (0 < before.layer.weight) ⊎ (0 < m.weight before.below) → (answer ≡ Err 6) × (after ≡ before)
    pub full : before.layer.weight ≡ 0 → m.weight before.below ≡ 0 → 1024 ≤ count before.layer → (answer ≡ Err 7) × (after ≡ before)
    pub no_slot : before.layer.weight ≡ 0 → m.weight before.below ≡ 0 → count before.layer < 1024
        → (Within (m.slots before.below) row → ⊥) → (answer ≡ Err 1) × (after ≡ before)
    pub wired : before.layer.weight ≡ 0 → m.weight before.below ≡ 0 → count before.layer < 1024
        → Within (m.slots before.below) row → Wired before after row answer
