use Rattle.std.proofs.Common.{refl}
use Rattle.braid.proofs.Settling.{not_many, not_short, live_below, claimable, live_after, settled_whole}
use Rattle.braid.proofs.braid.BraidStore.settle.Goals as goal

pub returns-in_err-claims-clause-settles : goal.returns-in_err-claims-clause-settles
returns-in_err-claims-clause-settles g c = λ live.
    absurd (c.in_err-claims.ensures (claimable g.S.Store.meaning g.S.Store.laws c.args.self.now live))

pub returns-in_err-spans-clause-settles : goal.returns-in_err-spans-clause-settles
returns-in_err-spans-clause-settles g c = λ live.
    let m = g.S.Store.meaning in
    let said = c.in_ok-settle.ensures (live_below m g.S.Store.laws c.args.self.now live) in
    record {
      many = λ h. absurd (not_many m _ _ _ _ _ _ said h);
      short = λ h k. absurd (not_short m _ _ _ _ _ _ said h k);
      settled = λ h k. absurd (c.in_err-spans.ensures (live_after m g.S.Store.laws c.args.self.now live _ _ _ _ _ (said.settled h k)));
    }

pub returns-clause-settles : goal.returns-clause-settles
returns-clause-settles g c = λ live.
    let m = g.S.Store.meaning in
    let said = c.in_ok-settle.ensures (live_below m g.S.Store.laws c.args.self.now live) in
    record {
      many = λ h. absurd (not_many m _ _ _ _ _ _ said h);
      short = λ h k. absurd (not_short m _ _ _ _ _ _ said h k);
      settled = λ h k.
          let done = said.settled h k in
          settled_whole m g.S.Store.laws c.args.self.now live _ _ _ _ _ done _ _ _ _ _
          (c.in_ok-claims.ensures (claimable m g.S.Store.laws c.args.self.now live))
          (c.in_ok-spans.ensures (live_after m g.S.Store.laws c.args.self.now live _ _ _ _ _ done))
          (c.in_ok-decode.ensures.decoded refl);
    }
