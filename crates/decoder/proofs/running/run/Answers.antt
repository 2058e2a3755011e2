use Rattle.std.proofs.Common.{add-one}
use Rattle.decoder.proofs.Stepping.{even_of, odd_of, evens_held, odds_held, stepped_odd, stepped_even}
use Rattle.decoder.proofs.running.run.Goals as goal
use Rattle.decoder.proofs.running.run.Goals.{then-past-eq0, else-past-eq0}

pub invariant_of-round : goal.invariant_of-round
invariant_of-round c = record { held = evens_held c.loop-past.invariant (even_of _ c.if-past-eq0.true) }

pub invariant_of-round-else-past-eq0 : goal.invariant_of-round-else-past-eq0
invariant_of-round-else-past-eq0 c = record { held = odds_held c.loop-past.invariant (odd_of _ c.if-past-eq0.false) }

pub loop-past-preserved : goal.loop-past-preserved
loop-past-preserved c =
    elim c.if-past-eq0.branch [
      | then-past-eq0 w ↦ rw (add-one, w.evens-is, w.odds-is, w.lows-is, w.highs-is)
          (stepped_odd c.loop-past.invariant (even_of _ w.if-past-eq0.true) _ _ w.run.ensures.held w.run.ensures.bounds)
      | else-past-eq0 w ↦ rw (add-one, w.evens-is, w.odds-is, w.lows-is, w.highs-is)
          (stepped_even c.loop-past.invariant (odd_of _ w.if-past-eq0.false) _ _ w.run-else-past-eq0.ensures.held w.run-else-past-eq0.ensures.bounds)
    ]
