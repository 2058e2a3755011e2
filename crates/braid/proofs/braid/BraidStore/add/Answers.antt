use Rattle.std.proofs.Common.{◌≡◌, ◌+◌, ◌^◌, ◌<◌, ◌≤◌, Ok, sym, ap, ◌∙◌, subst, arith}
use Rattle.store.specs.Meaning.{Live, Added}
use Rattle.store.proofs.Spreading.{no_refusal}
use Rattle.braid.specs.declared.braid.Braid.{Braid}
use Rattle.braid.specs.declared.layer.Layer.{Layer}
use Rattle.braid.specs.BraidMeaning.{count, braid_meaning}
use Rattle.braid.specs.Layers.{Room, added}
use Rattle.braid.proofs.Adding.{Carried, none_carried, some_carried, handed, added_whole}
use Rattle.braid.proofs.braid.BraidStore.add.Given as given
use Rattle.braid.proofs.braid.BraidStore.add.Goals as goal
use Rattle.braid.proofs.braid.BraidStore.add.Goals.{After-from_residual-in_err-add_to_row, After-count_more, then-carry-ge1+in_ok-add_to_row, else-carry-ge1}

-- the store below does not decline what is carried
not_declined : (g : given.Over) (c : After-from_residual-in_err-add_to_row g) (live : Live (braid_meaning g.S.Store.meaning) c.args.self.now) → ⊥
not_declined g c live =
    let s = c.args.self.now in
    let at = c.in_ok-i.ensures in
    let said = handed g.S.Store.meaning g.S.Store.laws s c.in_ok-i.i c.args.n live.sound (omega arith) (omega (arith, live.sound.light)) live _ _ _ _
    c.row.ensures c.carry-carry.ensures c.in_err-add_to_row.ensures in
    no_refusal _ _ said.answers

pub returns-in_err-add_to_row-clause-adds : goal.returns-in_err-add_to_row-clause-adds
returns-in_err-add_to_row-clause-adds g c = λ live.
    absurd (not_declined g (goal.at.returns-in_err-add_to_row-clause-adds g c).After-from_residual-in_err-add_to_row live)

-- the layer is as it was when the units are counted, whatever was carried
same_layer : (g : given.Over) (c : After-count_more g) → c.if-carry-ge1.self.layer ≡ c.args.self.now.layer
same_layer g c = elim c.if-carry-ge1.branch [
  | then-carry-ge1+in_ok-add_to_row w ↦ ap (λ (b : Braid g.row.S.Denot). b.layer) w.self-is
  | else-carry-ge1 w ↦ ap (λ (b : Braid g.row.S.Denot). b.layer) w.self-is
]

module _ (g : given.Over) (c : After-count_more g) (live : Live (braid_meaning g.S.Store.meaning) c.args.self.now) where
  inside : c.in_ok-i.i < count c.args.self.now.layer
  inside = let at = c.in_ok-i.ensures in omega arith

  fits : c.args.self.now.layer.weight + c.args.n ≤ 2 ^ 40
  fits = omega (arith, live.sound.light)

  below : Carried g.S.Store.meaning g.S.Store.laws c.args.self.now c.in_ok-i.i c.args.n live.sound inside fits c.if-carry-ge1.self.below
  below =
      let m = g.S.Store.meaning in
      let laws = g.S.Store.laws in
      let s = c.args.self.now in
      let i = c.in_ok-i.i in
      let n = c.args.n in
      elim c.if-carry-ge1.branch [
        | then-carry-ge1+in_ok-add_to_row w ↦
            subst (λ (b : Braid g.row.S.Denot). Carried m laws s i n live.sound inside fits b.below) (sym w.self-is)
            (some_carried m laws s i n live.sound inside fits _ _
            (handed m laws s i n live.sound inside fits live _ _ _ _ w.row.ensures c.carry-carry.ensures w.add_to_row.ensures))
        | else-carry-ge1 w ↦
            subst (λ (b : Braid g.row.S.Denot). Carried m laws s i n live.sound inside fits b.below) (sym w.self-is)
            (none_carried m laws s i n live.sound inside fits (subst (λ q. q < 1) c.carry-carry.ensures w.if-carry-ge1.false))
      ]

  counted : c.count_more.new.self ≡ added c.args.self.now.layer c.in_ok-i.i c.args.n
  counted =
      let same = same_layer g c in
      c.count_more.ensures.added
      ∙ ap (λ (l : Layer). added l c.in_ok-i.i c.args.n) same

  added_at : Added (braid_meaning g.S.Store.meaning) c.args.self.now (record { below = c.if-carry-ge1.self.below; layer = c.count_more.new.self })
      c.args.slot c.args.n (Ok c.count_more.new.self.weight)
  added_at =
      let m = g.S.Store.meaning in
      let s = c.args.self.now in
      let at = c.in_ok-i.ensures in
      subst (λ slot. Added (braid_meaning m) s (record { below = c.if-carry-ge1.self.below; layer = c.count_more.new.self }) slot c.args.n (Ok c.count_more.new.self.weight))
      at.0 (added_whole m g.S.Store.laws s c.in_ok-i.i c.args.n live.sound inside fits _ _ below (subst Room (same_layer g c) c.count_more.ensures.room) counted)

pub returns-clause-adds : goal.returns-clause-adds
returns-clause-adds g c = λ live.
    let at = c.in_ok-i.ensures in
    record {
      no_slot = λ h. absurd (omega arith);
      ceiling = λ h k. absurd (omega arith);
      added = λ h k. added_at g (goal.at.returns-clause-adds g c).After-count_more live;
    }
