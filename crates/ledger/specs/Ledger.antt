-- The ledger of a braid: what was wired and what was added, and what each call is to answer. It knows of
-- no counters, no carries and no store below but how many slots that has.
use Rattle.std.specs.Prelude.{ℕ, zero, suc, ◌+◌, ◌^◌, Bool, true, cond, ◌&&◌, List, [], ◌∷◌, ◌++◌, map, length, ◌==◌, nat_le, nat_lt}
use Rattle.store.specs.Totals.{total}
use Rattle.wiring.specs.Rising.{is_row}

-- what is asked
pub data Asked : Type 0 where
  -- a slot more, on these slots of the store below
  wire : List ℕ → Asked
  -- units for a slot: slot, units
  add : ℕ → ℕ → Asked
  -- so many rounds, with a work area of so many numbers
  settle : ℕ → ℕ → Asked

-- what is said: what the call answers, or the number of its refusal
pub data Said : Type 0 where
  wired : ℕ → Said
  added : ℕ → Said
  settled : ℕ → Said
  denied : ℕ → Said

-- a slot: its row, and all that was added to it
pub record Line : Type 0 where
  pub row : List ℕ
  pub total : ℕ

pub record Ledger : Type 0 where
  -- how many slots the store below has
  pub beneath : ℕ
  -- the slots in their order
  pub lines : List Line
  -- the rounds that the braid is settled at
  pub rounds : ℕ

abbrev pub row_of : Line → List ℕ
row_of line = line.row

abbrev pub total_of : Line → ℕ
total_of line = line.total

abbrev pub rows : Ledger → List (List ℕ)
rows L = map row_of L.lines

abbrev pub totals : Ledger → List ℕ
totals L = map total_of L.lines

abbrev pub weight : Ledger → ℕ
weight L = total (totals L)

-- before any call
abbrev pub opened : ℕ → Ledger
opened beneath = record { beneath = beneath; lines = []; rounds = 0 }

-- every slot of a row is one of the first N
abbrev pub fits : ℕ → List ℕ → Bool
fits N [] = true
fits N (slot ∷ row) = nat_lt slot N && fits N row

-- what each call is to answer, the refusals in the order in which they are tried
abbrev pub answer : Ledger → Asked → Said
answer L (wire slots) =
    cond (is_row slots)
    (cond (weight L == 0)
    (cond (nat_lt (length L.lines) 1024)
    (cond (fits L.beneath slots) (wired (length L.lines)) (denied 1))
    (denied 7))
    (denied 6))
    (denied 5)
answer L (add slot n) =
    cond (nat_lt slot (length L.lines)) (cond (nat_le (weight L + n) (2 ^ 40)) (added (weight L + n)) (denied 2)) (denied 1)
answer L (settle R room) = cond (nat_le R 2048) (cond (nat_le 7168 room) (settled R) (denied 4)) (denied 3)

-- n more for the line of a slot
abbrev pub grown : List Line → ℕ → ℕ → List Line
grown [] slot n = []
grown (line ∷ lines) zero n = record { row = line.row; total = line.total + n } ∷ lines
grown (line ∷ lines) (suc slot) n = line ∷ grown lines slot n

-- the ledger after a call: what is denied leaves it as it is
abbrev pub entered : Ledger → Asked → Said → Ledger
entered L (wire slots) (wired slot) =
    record { beneath = L.beneath; lines = L.lines ++ record { row = slots; total = 0 } ∷ []; rounds = L.rounds }
entered L (wire slots) (added w) = L
entered L (wire slots) (settled R) = L
entered L (wire slots) (denied why) = L
entered L (add slot n) (added w) = record { beneath = L.beneath; lines = grown L.lines slot n; rounds = 0 }
entered L (add slot n) (wired s) = L
entered L (add slot n) (settled R) = L
entered L (add slot n) (denied why) = L
entered L (settle R room) (settled Q) = record { beneath = L.beneath; lines = L.lines; rounds = R }
entered L (settle R room) (wired s) = L
entered L (settle R room) (added w) = L
entered L (settle R room) (denied why) = L

abbrev pub after : Ledger → Asked → Ledger
after L a = entered L a (answer L a)

-- a whole list of calls
abbrev pub answers : Ledger → List Asked → List Said
answers L [] = []
answers L (a ∷ calls) = answer L a ∷ answers (after L a) calls

abbrev pub closing : Ledger → List Asked → Ledger
closing L [] = L
closing L (a ∷ calls) = closing (after L a) calls
