-- What a store means, the laws that every store shows, and what its calls answer and leave.
use Rattle.std.specs.Prelude.{◌≡◌, ℕ, ◌+◌, ◌*◌, ◌^◌, ◌<◌, ◌≤◌, List, [], ◌∷◌, length, drop, Ok, Err, Result, slice_index}
use Rattle.rounds.specs.declared.span.Span.{Span}
use Rattle.store.specs.Totals.{total, more, spread}

pub record Meaning (S : Type 0) : Type 1 where
  -- how many slots there are
  pub slots : S → ℕ
  -- the weight: what was added to all slots together
  pub weight : S → ℕ
  -- the rounds that it is settled at
  pub rounds : S → ℕ
  -- the lists of totals, one for each slot, that it admits as what its slots may hold
  pub admits : S → List ℕ → Type 0
  -- what is known of a slot at some rounds, settled there or not: rounds, slot
  pub spans : S → ℕ → ℕ → Span
  -- the store's making and its calls have brought it about
  pub sound : S → Type 0

-- what every store shows that its making and its calls have brought about
pub record Laws {S : Type 0} (m : Meaning S) : Type 0 where
  pub few : (s : S) → m.sound s → m.slots s ≤ 1024
  pub light : (s : S) → m.sound s → m.weight s ≤ 2 ^ 40
  -- an admitted list has an entry for each slot, and they add up to the weight
  pub long : (s : S) → m.sound s → (T : List ℕ) → m.admits s T → length T ≡ m.slots s
  pub adds : (s : S) → m.sound s → (T : List ℕ) → m.admits s T → total T ≡ m.weight s
  -- each entry of an admitted list lies in its slot's span, at every number of rounds
  pub above : (s : S) → m.sound s → (T : List ℕ) → m.admits s T → (R slot : ℕ) → slot < m.slots s → (m.spans s R slot).low ≤ slice_index T slot
  pub below : (s : S) → m.sound s → (T : List ℕ) → m.admits s T → (R slot : ℕ) → slot < m.slots s → slice_index T slot ≤ (m.spans s R slot).high
  -- with more rounds no low is lower and no high is higher
  pub rises : (s : S) → m.sound s → (R Q slot : ℕ) → R ≤ Q → slot < m.slots s → (m.spans s R slot).low ≤ (m.spans s Q slot).low
  pub falls : (s : S) → m.sound s → (R Q slot : ℕ) → R ≤ Q → slot < m.slots s → (m.spans s Q slot).high ≤ (m.spans s R slot).high
  -- no low and no high is above the weight
  pub low_light : (s : S) → m.sound s → (R slot : ℕ) → slot < m.slots s → (m.spans s R slot).low ≤ m.weight s
  pub high_light : (s : S) → m.sound s → (R slot : ℕ) → slot < m.slots s → (m.spans s R slot).high ≤ m.weight s

-- every slot of a row is one of the first N
abbrev pub Within : ℕ → List ℕ → Type 0
Within N [] = Unit {0}
Within N (slot ∷ row) = (slot < N) × Within N row

-- a store to which answers are owed
pub record Live {S : Type 0} (m : Meaning S) (s : S) : Type 0 where
  pub sound : m.sound s
  pub totals : List ℕ
  pub admitted : m.admits s totals

-- a store that nothing was added to
pub record Fresh {S : Type 0} (m : Meaning S) (s : S) : Type 0 where
  pub live : Live m s
  pub empty : m.weight s ≡ 0

module _ {S : Type 0} (m : Meaning S) where
  -- span: 1 where there is no such slot, else the span at the settled rounds
  pub record Spans (s : S) (slot : ℕ) (answer : Result Span ℕ) : Type 0 where
    pub no_slot : m.slots s ≤ slot → answer ≡ Err 1
    pub span : slot < m.slots s → answer ≡ Ok (m.spans s (m.rounds s) slot)

  -- add, accepted
  pub record Added (before after : S) (slot n : ℕ) (answer : Result ℕ ℕ) : Type 0 where
    pub answers : answer ≡ Ok (m.weight before + n)
    pub slots : m.slots after ≡ m.slots before
    pub weight : m.weight after ≡ m.weight before + n
    pub rounds : m.rounds after ≡ 0
    pub sound : m.sound after
    pub admits : (T : List ℕ) → m.admits before T → m.admits after (more T slot n)

  -- add: 1 where there is no such slot, then 2 where the weight would pass the ceiling; a refusal alters nothing
  pub record Adds (before after : S) (slot n : ℕ) (answer : Result ℕ ℕ) : Type 0 where
    pub no_slot : m.slots before ≤ slot → (answer ≡ Err 1) × (after ≡ before)
    pub ceiling : slot < m.slots before → 2 ^ 40 < m.weight before + n → (answer ≡ Err 2) × (after ≡ before)
    pub added : slot < m.slots before → m.weight before + n ≤ 2 ^ 40 → Added before after slot n answer

  -- n units more in each slot of a row, accepted
  pub record Spread (before after : S) (row : List ℕ) (n : ℕ) (answer : Result ℕ ℕ) : Type 0 where
    pub answers : answer ≡ Ok (m.weight before + length row * n)
    pub slots : m.slots after ≡ m.slots before
    pub weight : m.weight after ≡ m.weight before + length row * n
    pub rounds : 0 < length row → m.rounds after ≡ 0
    pub sound : m.sound after
    pub admits : (T : List ℕ) → m.admits before T → m.admits after (spread T row n)

  -- adding to a row: 1 where a slot is not there, then 2 where the weight would pass the ceiling; never half done
  pub record Spreads (before after : S) (row : List ℕ) (n : ℕ) (answer : Result ℕ ℕ) : Type 0 where
    pub no_slot : (Within (m.slots before) row → ⊥) → (answer ≡ Err 1) × (after ≡ before)
    pub ceiling : Within (m.slots before) row → 2 ^ 40 < m.weight before + length row * n → (answer ≡ Err 2) × (after ≡ before)
    pub added : Within (m.slots before) row → m.weight before + length row * n ≤ 2 ^ 40 → Spread before after row n answer

  -- settle, accepted: only the settled rounds change, and the work area's front is cleared
  pub record Settled (before after : S) (R : ℕ) (work left : List ℕ) (answer : Result ℕ ℕ) : Type 0 where
    pub answers : answer ≡ Ok R
    pub slots : m.slots after ≡ m.slots before
    pub weight : m.weight after ≡ m.weight before
    pub rounds : m.rounds after ≡ R
    pub sound : m.sound after
    pub admits : (T : List ℕ) → m.admits before T → m.admits after T
    pub no_more : (T : List ℕ) → m.admits after T → m.admits before T
    pub spans : m.spans after ≡ m.spans before
    pub cleared : (k : ℕ) → k < 7168 → slice_index left k ≡ 0
    pub kept : drop 7168 left ≡ drop 7168 work

  -- settle: 3 where the rounds are too many, then 4 where the work area is too short; a refusal alters nothing
  pub record Settles (before after : S) (R : ℕ) (work left : List ℕ) (answer : Result ℕ ℕ) : Type 0 where
    pub many : 2048 < R → (answer ≡ Err 3) × (after ≡ before) × (left ≡ work)
    pub short : R ≤ 2048 → length work < 7168 → (answer ≡ Err 4) × (after ≡ before) × (left ≡ work)
    pub settled : R ≤ 2048 → 7168 ≤ length work → Settled before after R work left answer
