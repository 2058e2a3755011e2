use Rattle.std.proofs.Common.{◌≡◌, length, get_or, take, refl, ap, ◌∙◌, arith, length-take}
use lib.ListN.{get_or-replicate}
use Rattle.std.proofs.lemmas.List.{get_or_append_left, drop_at}
use Rattle.store.proofs.flat.FlatStore.settle.Goals as goal

pub returns-clause-settles : goal.returns-clause-settles
returns-clause-settles c = rw (← c.self.view_is) (λ live.
    let area = c.fill.new.self in
    record {
      many = λ h. absurd (omega (arith, c.in_ok-admitted.ensures.few));
      short = λ h k. absurd (omega (arith, c.in_ok-admitted.ensures.enough));
      settled = λ h k.
          let long : length area ≡ 7168 = omega (arith, c.fill.ensures.len, length-take 7168 c.args.work.now) in
          record {
            answers = refl;
            slots = refl;
            weight = refl;
            rounds = refl;
            sound = live.sound;
            admits = λ T a. a;
            no_more = λ T a. a;
            spans = refl;
            cleared = λ i lt. get_or_append_left area _ 0 i (omega arith) ∙ ap (λ l. get_or l i 0) (c.fill.ensures.after (λ y e. e)) ∙ get_or-replicate (length (take 7168 c.args.work.now)) i 0 0 (omega (arith, length-take 7168 c.args.work.now));
            kept = drop_at area _ 7168 long;
          };
    })
