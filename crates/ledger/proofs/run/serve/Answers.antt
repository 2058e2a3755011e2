use Rattle.std.proofs.Common.{◌≡◌, ◌≤◌, min, length, arith, length-take, sym}
use Rattle.std.proofs.lemmas.Result.{err_from_is_err_and}
use Rattle.ledger.proofs.Standing.{wire_serves, add_served, settle_served}
use Rattle.ledger.proofs.run.serve.Goals as goal

pub returns-in_err-wire-in-Wire : goal.returns-in_err-wire-in-Wire
returns-in_err-wire-in-Wire g c =
    let gone = err_from_is_err_and c.from_residual-in_err-wire-in-Wire.result c.from_residual-in_err-wire-in-Wire.ensures.1 in
    rw (c.in-Wire.is, gone.1, gone.2) (wire_serves g.S.Store.meaning g.S.Store.laws _ _ _ _ _ _ c.in_ok-row-in-Wire.ensures c.in_err-wire-in-Wire.ensures)

pub returns-in_ok-wire-in-Wire : goal.returns-in_ok-wire-in-Wire
returns-in_ok-wire-in-Wire g c =
    rw c.in-Wire.is (wire_serves g.S.Store.meaning g.S.Store.laws _ _ _ _ _ _ c.in_ok-row-in-Wire.ensures c.in_ok-wire-in-Wire.ensures)

pub returns-in_ok-add-in-Add : goal.returns-in_ok-add-in-Add
returns-in_ok-add-in-Add g c =
    let said = c.in_ok-add-in-Add.ensures in
    rw c.in-Add.is (λ depth L stands. add_served g.S.Store.meaning g.S.Store.laws _ _ depth L stands _ _ _ _ said.adds said.wiring said.beneath)

pub returns-in_ok-settle-in-Settle : goal.returns-in_ok-settle-in-Settle
returns-in_ok-settle-in-Settle g c =
    let said = c.in_ok-settle-in-Settle.ensures in
    let work = c.args.work.now in
    let n = c.min-many.result in
    let heeded : min (length work) c.in-Settle.room ≡ n = sym c.min-many.ensures in
    let inside : n ≤ length work = omega (arith, heeded) in
    rw (c.in-Settle.is, heeded) (λ depth L stands. settle_served g.S.Store.meaning g.S.Store.laws _ _ depth L stands _ n _ work _ inside
    (omega (arith, c.settle.auto.work, length-take n work)) said.settles said.wiring said.beneath)
