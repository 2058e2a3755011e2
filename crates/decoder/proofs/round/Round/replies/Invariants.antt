use Rattle.std.proofs.Common.{◌≡◌, suc, map, take}
use Rattle.rounds.specs.Rounds.{odd, message, reply}
use Rattle.decoder.specs.Inputs.{claimants, span_at}
use Rattle.decoder.proofs.round.Round.replies.Given as goal

abbrev pub invariant-loop-slot : goal.invariant-loop-slot
invariant-loop-slot l =
    let cs = claimants l.self.claims.now in
    let spans = span_at l.self.spans.now in
    l.replies.items ≡ map (reply cs spans (odd (suc l.self.past)) (message cs spans l.self.past) l.i) (take l.slot-index l.row)
