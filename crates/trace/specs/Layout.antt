-- How a trace is laid out: the bytes of its records one after another, and what can stand behind
-- them. A record is one byte of kind and then a body whose length the kind fixes.
use Rattle.std.specs.Prelude.{◌≡◌, ℕ, ◌-◌, ◌<◌, ◌≤◌, List, [], ◌∷◌, ◌++◌, length, slice_index}
use Rattle.std.specs.List.{flat_map}

-- a record but the end, by the bytes of its fields
pub data Entry : Type 0 where
  -- kind 1: identifier, slots
  enrol : List ℕ → List ℕ → Entry
  -- kind 2: identifier, units
  amount : List ℕ → List ℕ → Entry
  -- kind 3: text
  remark : List ℕ → Entry

-- what stands behind the last record
pub data Ending : Type 0 where
  -- the end record, kind 4, and nothing behind it
  end : Ending
  -- a byte that is no kind, and any bytes
  unknown : ℕ → List ℕ → Ending
  -- a kind, and fewer bytes than its body has
  short : ℕ → List ℕ → Ending
  -- the end record, and a byte and any bytes behind it
  trailing : ℕ → List ℕ → Ending
  -- nothing
  nothing : Ending

pub record Reading : Type 0 where
  pub entries : List Entry
  pub ending : Ending

-- how long the body of a kind is, 1 to 4
abbrev pub body_length : ℕ → ℕ
body_length kind = slice_index (14 ∷ (12 ∷ (16 ∷ (0 ∷ [])))) (kind - 1)

abbrev pub Known : ℕ → Type 0
Known kind = (1 ≤ kind) × (kind ≤ 4)

-- the bytes of a record, of what stands behind the records, and of both
abbrev pub lay_entry : Entry → List ℕ
lay_entry (enrol id slots) = 1 ∷ (id ++ slots)
lay_entry (amount id units) = 2 ∷ (id ++ units)
lay_entry (remark text) = 3 ∷ text

abbrev pub lay_ending : Ending → List ℕ
lay_ending end = 4 ∷ []
lay_ending (unknown kind rest) = kind ∷ rest
lay_ending (short kind rest) = kind ∷ rest
lay_ending (trailing byte rest) = 4 ∷ (byte ∷ rest)
lay_ending nothing = []

abbrev pub lay : Reading → List ℕ
lay R = flat_map lay_entry R.entries ++ lay_ending R.ending

-- each field has its length, and each ending is what its name says
abbrev pub ProperEntry : Entry → Type 0
ProperEntry (enrol id slots) = (length id ≡ 8) × (length slots ≡ 6)
ProperEntry (amount id units) = (length id ≡ 8) × (length units ≡ 4)
ProperEntry (remark text) = length text ≡ 16

abbrev pub ProperEntries : List Entry → Type 0
ProperEntries [] = Unit {0}
ProperEntries (e ∷ es) = ProperEntry e × ProperEntries es

abbrev pub ProperEnding : Ending → Type 0
ProperEnding end = Unit {0}
ProperEnding (unknown kind rest) = Known kind → ⊥
ProperEnding (short kind rest) = Known kind × (length rest < body_length kind)
ProperEnding (trailing byte rest) = Unit {0}
ProperEnding nothing = Unit {0}

-- the trace is laid out by this reading
pub record Lays (R : Reading) (trace : List ℕ) : Type 0 where
  pub entries : ProperEntries R.entries
  pub ending : ProperEnding R.ending
  pub bytes : lay R ≡ trace

-- every trace, whatever its bytes, is laid out by exactly one reading
pub record OneWay (trace : List ℕ) : Type 0 where
  pub reading : Reading
  pub lays : Lays reading trace
  pub only : (R : Reading) → Lays R trace → R ≡ reading
