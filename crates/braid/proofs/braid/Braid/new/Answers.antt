use Rattle.std.proofs.Common.{sym, subst}
use Rattle.store.specs.Meaning.{Fresh}
use Rattle.braid.specs.declared.layer.Layer.{Layer}
use Rattle.braid.specs.BraidMeaning.{braid_meaning}
use Rattle.braid.proofs.Making.{made_fresh}
use Rattle.braid.proofs.braid.Braid.new.Goals as goal

pub returns-clause-fresh : goal.returns-clause-fresh
returns-clause-fresh g c = λ fresh.
    let m = g.S.Store.meaning in
    let below = c.args.below in
    subst (λ (l : Layer). Fresh (braid_meaning m) (record { below = below; layer = l })) (sym c.new.ensures.value)
    (made_fresh m below c.args.depth c.new.ensures.least c.new.ensures.most g.S.Store.laws fresh)
