use Rattle.std.proofs.Common.{◌≡◌, ◌+◌, ◌<◌, length, drop, sym, ap, ◌∙◌, subst, arith, length-take}
use Rattle.std.proofs.lemmas.List.{drop-drop, drop-set-lt}
use Rattle.ledger.specs.Ledger.{opened}
use Rattle.ledger.proofs.AddingUp.{totals_add_up_lem}
use Rattle.ledger.proofs.Ruling.{ruled, closes}
use Rattle.ledger.proofs.Running.{SoFar, one_more, stands_first}
use Rattle.ledger.proofs.run.run.Goals as goal

pub loop-i-preserved : goal.loop-i-preserved
loop-i-preserved g c =
    let i = c.loop-i.i in
    let many = c.min-many.result in
    let said = c.loop-i.answers in
    let in_many : i < many = omega (arith, length-take many c.args.calls.now) in (
      λ depth L stands.
          one_more g.S.Store.meaning depth L _ c.args.calls.now said many i _ _ _ _ _ _ _ in_many
          (omega (arith, c.min-many.ensures)) (omega (arith, c.loop-i.auto.answers, c.min-many.ensures)) c.loop-i.auto.work
          (c.loop-i.invariant.0 depth L stands) c.serve.ensures,
      drop-set-lt (i + 1) said i c.serve.result (omega arith) ∙ sym (drop-drop 1 i said) ∙ ap (drop 1) c.loop-i.invariant.1 ∙ drop-drop 1 i c.args.answers.now,
    )

pub returns-clause-promise : goal.returns-clause-promise
returns-clause-promise g c = λ fresh.
    let m = g.S.Store.meaning in
    let depth = c.args.depth in
    let ledger = opened (m.slots c.args.below) in
    let all : c.loop-i.i ≡ c.min-many.result =
    omega (arith, c.min-many.ensures, c.loop-i.auto.i-end, length-take c.min-many.result c.args.calls.now) in
    let first = stands_first m depth c.args.below c.new-braid.result c.new-braid.ensures.below c.new-braid.ensures.layer (c.new-braid.ensures.fresh fresh) in
    let done = subst (λ k. SoFar m depth ledger (length c.args.work.now) c.args.calls.now c.loop-i.answers k
    c.loop-i.braid c.args.work.now c.loop-i.work) all (c.loop-i.invariant.0 depth ledger first) in
    record {
      answers = done.answers;
      sums = totals_add_up_lem (m.slots c.args.below) _;
      stands = done.stands;
      ruled = ruled m depth _ _ done.stands;
      closes = closes m g.S.Store.laws depth _ _ done.stands;
      worked = done.worked;
    }
