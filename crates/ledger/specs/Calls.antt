-- What the calls and answers of a list stand for in the ledger, and the number of each denial.
use Rattle.std.specs.Prelude.{ℕ, min, Ok, Err, Result}
use Rattle.braid.specs.Wires as braid
use Rattle.store.specs.Refusals as store
use Rattle.wiring.specs.Wiring as wiring
use Rattle.ledger.specs.declared.calls.Call.{Call}
use Rattle.ledger.specs.declared.calls.Call.TheVariants.{Wire, Add, Settle}
use Rattle.ledger.specs.declared.calls.Denial.{Denial}
use Rattle.ledger.specs.declared.calls.Denial.TheVariants.{Row, Braid, Store}
use Rattle.ledger.specs.declared.calls.Done.{Done}
use Rattle.ledger.specs.declared.calls.Done.TheVariants.{Wired, Added, Settled}
use Rattle.ledger.specs.Ledger.{Asked, wire, add, settle, Said, wired, added, settled, denied}

-- a call that may use a work area of `area` numbers
abbrev pub asked : ℕ → Call → Asked
asked area (Wire slots) = wire slots.now
asked area (Add slot units) = add slot units
asked area (Settle rounds room) = settle rounds (min area room)

-- a denial keeps the number that it has where it comes from
abbrev pub number : Denial → ℕ
number (Row why) = wiring.number why
number (Braid why) = braid.number why
number (Store why) = store.number why

abbrev pub told : Result Done Denial → Said
told (Ok (Wired slot)) = wired slot
told (Ok (Added weight)) = added weight
told (Ok (Settled rounds)) = settled rounds
told (Err why) = denied (number why)
