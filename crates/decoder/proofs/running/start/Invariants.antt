use Rattle.rounds.specs.Rounds.{floor_of}
use Rattle.decoder.specs.Inputs.{claimants}
use Rattle.decoder.proofs.Saying.{Said}
use Rattle.decoder.proofs.running.start.Given as goal

abbrev pub invariant-loop-i : goal.invariant-loop-i
invariant-loop-i l =
    let cs = claimants l.claims in
    Said cs (λ j s. floor_of cs j) (floor_of cs) l.messages l.initial.lows l.lows l.i
