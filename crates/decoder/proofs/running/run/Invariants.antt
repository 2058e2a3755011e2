use Rattle.decoder.specs.Inputs.{claimants, span_at}
use Rattle.decoder.proofs.Stepping.{Standing}
use Rattle.decoder.proofs.running.run.Given as goal

abbrev pub invariant-loop-past : goal.invariant-loop-past
invariant-loop-past l =
    Standing (claimants l.claims) (span_at l.spans) l.past l.evens l.odds l.fn.lows l.lows l.fn.highs l.highs
