use Rattle.std.proofs.Common.{suc}
use Rattle.rounds.specs.Rounds.{message, estimate}
use Rattle.decoder.specs.Inputs.{claimants, span_at}
use Rattle.decoder.proofs.Saying.{Said}
use Rattle.decoder.proofs.round.Round.run.Given as goal

abbrev pub invariant-loop-i : goal.invariant-loop-i
invariant-loop-i l =
    let cs = claimants l.self.claims.now in
    let spans = span_at l.self.spans.now in
    let t = suc l.self.past in
    Said cs (message cs spans t) (estimate cs spans t) l.fresh l.initial.bounds l.bounds l.i
