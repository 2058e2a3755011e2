-- Which rows and depths are made, and the number of each refusal.
use Rattle.std.specs.Prelude.{ℕ, cond, ◌&&◌, List, Ok, Err, Result, nat_le}
use Rattle.wiring.specs.Rising.{is_row}
use Rattle.wiring.specs.declared.refusal.Refusal.{Refusal}
use Rattle.wiring.specs.declared.refusal.Refusal.TheVariants.{Unordered, Bits}

-- the number under which each refusal is known; no case carries a value
abbrev pub number : Refusal → ℕ
number Unordered = 5
number Bits = 10

-- what a making told: what was made, or the number of the refusal. A row is spoken of as the list of its slots,
-- and a depth as its number of bits
abbrev pub told : {X : Type 0} → Result X Refusal → Result X ℕ
told (Ok x) = Ok x
told (Err why) = Err (number why)

-- what is to be told where a row is asked for
abbrev pub row_from : List ℕ → Result (List ℕ) ℕ
row_from slots = cond (is_row slots) (Ok slots) (Err 5)

-- what is to be told where a depth is asked for
abbrev pub depth_from : ℕ → Result ℕ ℕ
depth_from bits = cond (nat_le 2 bits && nat_le bits 16) (Ok bits) (Err 10)
