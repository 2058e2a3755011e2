use Rattle.std.proofs.Common.{ℕ, suc, List, length, length-set, sym, ap, ◌∙◌, arith}
use Rattle.rounds.specs.Rounds.{odd, message, reply}
use Rattle.rounds.specs.Laws.{Distinct}
use Rattle.decoder.specs.Inputs.{claimants, span_at}
use Rattle.decoder.proofs.Wired.{claims_many, row_is, row_distinct, row_some, row_none}
use Rattle.decoder.proofs.Saying.{said_mails, said_bounds, said_skip, said_more, part_of, absent_of, says_others, bound_of}
use Rattle.decoder.proofs.round.Round.run.Goals as goal
use Rattle.decoder.proofs.round.Round.run.Goals.{then-is_some, else-is_some}

pub loop-i-preserved : goal.loop-i-preserved
loop-i-preserved c =
    let claims = c.args.self.now.claims.now in
    let cs = claimants claims in
    let up = odd (suc c.args.self.now.past) in
    let i = c.loop-i.i in
    let f = reply cs (span_at c.args.self.now.spans.now) up (message cs (span_at c.args.self.now.spans.now) c.args.self.now.past) i in
    let x = c.claim-item.result in
    let slots = row_is claims _ i x c.as_slice-claim-items.ensures.value c.loop-i-test.true c.claim-item.is in
    elim c.if-is_some.branch [
      | then-is_some w ↦
          let row = w.slots-row.ensures.value ∙ sym slots in
          let apart : Distinct w.slots-row.result.now = rw w.slots-row.ensures.value (row_distinct x.row x.rising) in
          let some = row_some x.row x.rising (sym c.is_some.ensures ∙ w.if-is_some.true) in
          let all = w.as_slice-replies.ensures.value ∙ w.replies-replies.ensures in
          rw (w.fresh-is, w.bounds-is) (said_more c.loop-i.invariant _ _
          (omega (arith, c.if-is_some.array_long, ap length w.fresh-is, length-set {A = List ℕ}))
          (omega (arith, c.if-is_some.array_long2, ap length w.bounds-is, length-set {A = ℕ}))
          (part_of cs i _ row (omega (arith, some, ap length w.slots-row.ensures.value)))
          (λ s on. rw (w.tightest_but.ensures, w.tightest_but-then-is_some.ensures, w.tightest_but-then-is_some-2.ensures)
          (says_others cs i _ row w.slots-row.ensures.short up f _ all apart s on))
          (w.tightest_but-then-is_some-3.ensures ∙ bound_of cs i _ row w.slots-row.ensures.short up f _ all _ (omega arith)))
      | else-is_some w ↦ rw (w.fresh-is, w.bounds-is) (said_skip c.loop-i.invariant (absent_of cs i _ (sym slots) (row_none x.row (sym c.is_some.ensures ∙ w.if-is_some.false))))
    ]

pub returns-clause-held : goal.returns-clause-held
returns-clause-held c = said_mails c.loop-i.invariant
    (claims_many c.args.self.now.claims.now _ _ c.as_slice-claim-items.ensures.value c.loop-i-test.false c.loop-i.auto.i-end)

pub returns-clause-bounds : goal.returns-clause-bounds
returns-clause-bounds c = said_bounds c.loop-i.invariant
    (claims_many c.args.self.now.claims.now _ _ c.as_slice-claim-items.ensures.value c.loop-i-test.false c.loop-i.auto.i-end)
