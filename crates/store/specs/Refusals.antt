-- The number under which each refusal of a store is known; no case carries a value.
use Rattle.std.specs.Prelude.{ℕ, Ok, Err, Result}
use Rattle.store.specs.declared.refusal.Refusal.{Refusal}
use Rattle.store.specs.declared.refusal.Refusal.TheVariants.{NoSlot, Ceiling, Rounds, Work}

abbrev pub number : Refusal → ℕ
number NoSlot = 1
number Ceiling = 2
number Rounds = 3
number Work = 4

-- what a call told: its answer, or the number of the refusal
abbrev pub told : {X : Type 0} → Result X Refusal → Result X ℕ
told (Ok x) = Ok x
told (Err why) = Err (number why)
