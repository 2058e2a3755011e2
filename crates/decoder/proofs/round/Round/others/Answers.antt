use Rattle.std.proofs.Common.{sym, ap, ◌∙◌, arith}
use Rattle.decoder.proofs.Wired.{claims_many}
use Rattle.decoder.proofs.Sums.{sum_to, shared_small, sent_shared, sum_skip, sum_take}
use Rattle.decoder.proofs.round.Round.others.Goals as goal
use Rattle.decoder.proofs.round.Round.others.Goals.{then-j-i, else-j-i}

pub overflow_add-total : goal.overflow_add-total
overflow_add-total c =
    let r = c.args.self.now in
    let j = c.loop-j.j in
    omega (
      arith,
      sent_shared r.claims.now r.spans.now r.past c.args.slot r.old.now r.held _ j c.claim-item.result
          c.as_slice-claim-items.ensures.value c.loop-j-test.true c.claim-item.is,
      shared_small r.claims.now r.spans.now r.past c.args.slot j,
    )

pub loop-j-preserved : goal.loop-j-preserved
loop-j-preserved c =
    let r = c.args.self.now in
    let j = c.loop-j.j in
    elim c.if-j-i.branch [
      | then-j-i w ↦
          let sent = sent_shared r.claims.now r.spans.now r.past c.args.slot r.old.now r.held _ j c.claim-item.result
          c.as_slice-claim-items.ensures.value c.loop-j-test.true c.claim-item.is in
          let small = shared_small r.claims.now r.spans.now r.past c.args.slot j in
          let more = sum_take r.claims.now r.spans.now r.past c.args.slot c.args.i j w.if-j-i.true in
          (omega arith, omega arith)
      | else-j-i w ↦
          let same = sum_skip r.claims.now r.spans.now r.past c.args.slot c.args.i j w.if-j-i.false in
          (omega arith, omega arith)
    ]

pub returns : goal.returns
returns c =
    let r = c.args.self.now in
    c.loop-j.invariant.0
    ∙ ap (sum_to r.claims.now r.spans.now r.past c.args.slot c.args.i)
    (sym (claims_many r.claims.now _ _ c.as_slice-claim-items.ensures.value c.loop-j-test.false c.loop-j.auto.j-end))
