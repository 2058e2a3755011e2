use Rattle.std.proofs.Common.{length, take, refl, ap, ◌∙◌, sym, arith}
use Rattle.store.specs.FlatMeaning.{entry_light}
use Rattle.store.specs.Totals.{more}
use Rattle.store.proofs.Lists.{length_more, placed, held, front_more, behind_more, sound_more}
use Rattle.store.proofs.flat.FlatStore.add.Goals as goal

pub overflow_add-self : goal.overflow_add-self
overflow_add-self c =
    let xs = c.self.inside.table.now in
    let place = c.in_ok-place.place in
    let there = placed c.self.view_is c.in_ok-place.ensures in
    omega (arith, held xs place 0 there, entry_light (take 1024 xs) place, c.self.invariant.adds)

pub invariant_of-self : goal.invariant_of-self
invariant_of-self c =
    let xs = c.self.inside.table.now in
    let place = c.in_ok-place.place in
    let there = placed c.self.view_is c.in_ok-place.ensures in
    sound_more xs place c.from-n.result there c.self.inside.weight c.self.invariant (omega arith)

pub returns-clause-adds : goal.returns-clause-adds
returns-clause-adds c = rw (← c.self.view_is) (λ live.
    let xs = c.self.inside.table.now in
    let slot = c.args.slot in
    let n = c.args.n in
    record {
      no_slot = λ h. absurd (omega (arith, placed c.self.view_is c.in_ok-place.ensures, c.in_ok-place.ensures.0));
      ceiling = λ h k. absurd (omega (arith, c.from-n.ensures));
      added = λ h k.
          let after = front_more xs slot n h in
          rw (c.in_ok-place.ensures.0, c.from-n.ensures) record {
            answers = refl;
            slots = ap length after ∙ length_more (take 1024 xs) slot n;
            weight = refl;
            rounds = refl;
            sound = sound_more xs slot n h c.self.inside.weight live.sound k;
            admits = λ T a. ap (λ U. more U slot n) a ∙ sym after;
          };
    })

pub returns-clause-behind : goal.returns-clause-behind
returns-clause-behind c = rw (← c.self.view_is) (behind_more c.self.inside.table.now c.in_ok-place.place c.from-n.result (placed c.self.view_is c.in_ok-place.ensures))
