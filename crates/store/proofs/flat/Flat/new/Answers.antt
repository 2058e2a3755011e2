use Rattle.std.proofs.Common.{refl, ap, ◌∙◌, arith, length-take}
use Rattle.store.specs.Totals.{total}
use Rattle.store.proofs.Lists.{total_replicate, replaced_front, replaced_behind}
use Rattle.store.proofs.flat.Flat.new.Goals as goal

pub invariant_of-result : goal.invariant_of-result
invariant_of-result c =
    let xs = c.args.table.now in
    let n = c.min-many.result in
    let zeros = c.fill.ensures.after (λ y e. e) in
    record {
      adds = ap total (replaced_front xs c.fill.new.self n c.min-many.ensures (omega (arith, c.fill.ensures.len, length-take n xs)) ∙ zeros) ∙ total_replicate _;
      light = omega arith;
    }

pub returns-clause-fresh : goal.returns-clause-fresh
returns-clause-fresh c = record {
  live = record { sound = invariant_of-result c; totals = _; admitted = refl };
  empty = refl;
}

pub returns-clause-behind : goal.returns-clause-behind
returns-clause-behind c =
    let xs = c.args.table.now in
    let n = c.min-many.result in
    replaced_behind xs c.fill.new.self n c.min-many.ensures (omega (arith, c.fill.ensures.len, length-take n xs))
