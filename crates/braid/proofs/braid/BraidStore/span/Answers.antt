use Rattle.std.proofs.Common.{Ok, ap, ◌∙◌, arith}
use Rattle.braid.specs.BraidMeaning.{braid_spans}
use Rattle.braid.proofs.Knowing.{known}
use Rattle.braid.proofs.braid.BraidStore.span.Goals as goal

pub returns : goal.returns
returns g c = λ live.
    let m = g.S.Store.meaning in
    let s = c.args.self.now in
    let at = c.in_ok-i.ensures in
    record {
      no_slot = λ h. absurd (omega arith);
      span = λ h. ap Ok (c.span.ensures ∙ known m s live c.in_ok-i.i (omega arith) ∙ ap (braid_spans m s s.layer.rounds) at.0);
    }
