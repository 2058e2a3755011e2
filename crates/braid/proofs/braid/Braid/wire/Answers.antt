use Rattle.std.proofs.Common.{◌≡◌, true, Ok, sym, refl, ap, subst, inl, inr, arith}
use Rattle.store.specs.Meaning.{Within}
use Rattle.wiring.specs.Rising.{is_row}
use Rattle.braid.specs.declared.layer.Layer.{Layer}
use Rattle.std.proofs.lemmas.List.{length_push}
use Rattle.braid.specs.BraidMeaning.{rows}
use Rattle.braid.specs.Layers.{wired}
use Rattle.braid.specs.Wires.{Wired}
use Rattle.braid.proofs.Making.{wired_sound, wired_admits}
use Rattle.braid.proofs.braid.Braid.wire.Goals as goal

pub returns : goal.returns
returns g c =
    let m = g.S.Store.meaning in
    let s = c.args.self.now in
    let row = c.args.row in
    let fits : Within (m.slots s.below) row =
    subst (λ N. Within N row) c.slots-2.ensures (subst (Within c.slots-2.result) c.slots.ensures.value c.if-not-within.ensures) in
    let is : c.wire.new.self ≡ wired s.layer row = c.wire.ensures.wired in
    record {
      weighted = λ some. elim some [ inl own ↦ absurd (omega arith) | inr below ↦ absurd (omega (arith, c.weight.ensures)) ];
      full = λ own below full. absurd (omega arith);
      no_slot = λ own below few outside. absurd (outside fits);
      wired = λ own below few within.
          let room = c.wire.ensures.room in
          subst (λ (l : Layer). Wired m s (record { below = s.below; layer = l }) row (Ok c.wire.result)) (sym is) (record {
            answers = ap Ok c.wire.ensures.number;
            below = refl;
            slots = length_push (rows s.layer) row;
            wiring = refl;
            depth = refl;
            weight = refl;
            rounds = refl;
            sound = wired_sound m s row few room own (subst (λ r. is_row r ≡ true) c.slots.ensures.value c.slots.ensures.rising) within;
            admits = λ T sound. wired_admits m s row few room T sound.shallow;
          });
    }
