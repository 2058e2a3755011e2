use Rattle.std.proofs.Common.{◌≡◌, min, length, take, sym, arith, length-take}
use Rattle.ledger.proofs.run.run_on_table.Goals as goal

pub returns-clause-promise : goal.returns-clause-promise
returns-clause-promise c =
    let made = c.new.result.table in
    let slots : length (take 1024 made) ≡ min (length c.args.table.now) 1024 = omega (arith, length-take 1024 made, c.new.ensures.table) in
    rw (sym slots) (c.run.ensures.promise c.new.ensures.fresh)
