use Rattle.std.proofs.Common.{◌<◌, ◌≤◌, rules, tests}
use Rattle.std.proofs.lemmas.Iterator.{cases_from_all, YieldsList-from_slice}
use Rattle.store.proofs.Spreading.{within_tested}
use Rattle.store.proofs.spread.within.Goals as goal

pub returns : goal.returns
returns c =
    let N = c.args.many in
    let row = c.args.row.now in
    within_tested _ N row (cases_from_all _ _ _ (λ x. x < N) (λ x. N ≤ x) c.all.ensures.ran (YieldsList-from_slice row cc) (λ x q k. search (rules, tests)) (λ x q k. search (rules, tests)))
