use Rattle.std.proofs.lemmas.Bool.Decides.{nat_tests}
use Rattle.std.proofs.Common.{ℕ, List, length, length-set, sym, ap, ◌∙◌, arith}
use Rattle.decoder.specs.Inputs.{claimants}
use Rattle.decoder.proofs.Wired.{claims_many, row_is, floor_is}
use Rattle.decoder.proofs.Saying.{said_mails, said_bounds, said_skip, said_more, part_of, absent_of, says_floor}
use Rattle.decoder.proofs.running.start.Goals as goal
use Rattle.decoder.proofs.running.start.Goals.{then-not-is_empty, else-not-is_empty}

pub loop-i-preserved : goal.loop-i-preserved
loop-i-preserved c =
    let claims = c.args.claims.now in
    let cs = claimants claims in
    let i = c.loop-i.i in
    let x = c.claim-item.result in
    let slots = row_is claims _ i x c.as_slice-claim-items.ensures.value c.loop-i-test.true c.claim-item.is in
    let floor = floor_is claims _ i x c.as_slice-claim-items.ensures.value c.loop-i-test.true c.claim-item.is in
    let row = c.slots.ensures.value ∙ sym slots in
    elim c.if-not-is_empty.branch [
      | then-not-is_empty w ↦
          rw (w.messages-is, w.lows-is) (said_more c.loop-i.invariant _ x.floor
          (omega (arith, c.if-not-is_empty.array_long, ap length w.messages-is, length-set {A = List ℕ}))
          (omega (arith, c.if-not-is_empty.array_long2, ap length w.lows-is, length-set {A = ℕ}))
          (part_of cs i _ row (grind (arith, nat_tests))) (says_floor cs i _ row c.slots.ensures.short x.floor floor) (sym floor))
      | else-not-is_empty w ↦ rw (w.messages-is, w.lows-is) (said_skip c.loop-i.invariant (absent_of cs i _ row (grind (arith, nat_tests))))
    ]

pub returns-clause-held : goal.returns-clause-held
returns-clause-held c = λ spans. said_mails c.loop-i.invariant
    (claims_many c.args.claims.now _ _ c.as_slice-claim-items.ensures.value c.loop-i-test.false c.loop-i.auto.i-end)

pub returns-clause-lows : goal.returns-clause-lows
returns-clause-lows c = said_bounds c.loop-i.invariant
    (claims_many c.args.claims.now _ _ c.as_slice-claim-items.ensures.value c.loop-i-test.false c.loop-i.auto.i-end)
