-- What is said where a claimant is brought to the decoder on some slots, and the claimants then.
use Rattle.std.specs.Prelude.{ℕ, cond, List, Ok, Err, Result}
use Rattle.decoder.specs.Inputs.{claim_told, grown}
use Rattle.decoder.specs.declared.unfit.Unfit.{Unfit}
use Rattle.rounds.specs.Rounds.{Claimant}
use Rattle.wiring.specs.Rising.{is_row}

-- what the decoder does not take is refused with 1
abbrev pub as_refused : Result ℕ Unfit → Result ℕ ℕ
as_refused (Ok n) = Ok n
as_refused (Err why) = Err 1

abbrev pub claim_said : List Claimant → List ℕ → ℕ → Result ℕ ℕ
claim_said cs slots floor = cond (is_row slots) (as_refused (claim_told cs (record { row = slots; floor = floor }))) (Err 1)

abbrev pub claims_then : List Claimant → List ℕ → ℕ → List Claimant
claims_then cs slots floor =
    cond (is_row slots) (grown (claim_told cs (record { row = slots; floor = floor })) cs (record { row = slots; floor = floor })) cs
