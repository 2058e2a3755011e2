use Rattle.std.proofs.Common.{get_or, take, Ok, sym, subst}
use Rattle.std.proofs.lemmas.List.{take_more}
use Rattle.store.specs.Meaning.{Spread}
use Rattle.store.proofs.Spreading.{one_more, next_added, no_refusal}
use Rattle.store.proofs.spread.add_each.Goals as goal

pub returns-in_err-add : goal.returns-in_err-add
returns-in_err-add g c = λ live all fits.
    let so = c.loop-slot.invariant live all fits in
    let said = next_added g.S.Store.meaning _ _ _ c.args.row.now c.loop-slot.slot-index _ _ live all fits c.loop-slot-test.true so c.in_err-add.ensures in
    absurd (no_refusal _ _ said.answers)

pub loop-slot-preserved : goal.loop-slot-preserved
loop-slot-preserved g c = λ live all fits.
    let m = g.S.Store.meaning in
    let row = c.args.row.now in
    let i = c.loop-slot.slot-index in
    let so = c.loop-slot.invariant live all fits in
    let said = next_added m _ _ _ row i _ _ live all fits c.loop-slot-test.true so c.in_ok-add.ensures in
    subst (λ r. Spread m c.args.store.now c.add.new.self r c.args.n (Ok (m.weight c.add.new.self)))
    (sym (take_more row i 0 c.loop-slot-test.true)) (one_more m _ _ _ (take i row) (get_or row i 0) c.args.n _ so said)
