use Rattle.std.proofs.Common.{◌≡◌, ◌*◌, ◌^◌, ◌≤◌}
use Rattle.decoder.proofs.Sums.{sum_to}
use Rattle.decoder.proofs.round.Round.others.Given as goal

abbrev pub invariant-loop-j : goal.invariant-loop-j
invariant-loop-j l =
    (l.total ≡ sum_to l.self.claims.now l.self.spans.now l.self.past l.slot l.i l.j) × (l.total ≤ l.j * 2 ^ 40)
