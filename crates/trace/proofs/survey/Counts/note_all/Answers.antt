use Rattle.std.proofs.Common.{rules, ◌≡◌, ℕ, ◌+◌, ◌<◌, ◌≤◌, length, take, sym, ap, ◌∙◌, subst, arith, Ok, Err}
use Rattle.trace.specs.Answers.{Stands, told_record}
use Rattle.trace.specs.Layout.{Reading, Lays}
use Rattle.trace.specs.Survey.{Counted}
use Rattle.trace.proofs.Ways.{one_way}
use Rattle.trace.proofs.Surveying.{goes_on, is_over, told_entry}
use Rattle.trace.proofs.survey.Counts.note_all.Goals as goal
use Rattle.trace.proofs.survey.Counts.note_all.Goals.{After-note}

pub loop-place-init : goal.loop-place-init
loop-place-init c =
    let way = one_way c.args.trace.now in
    let start = c.new-reader.ensures way.reading way.lays in
    record {
      counted = λ R lays. (0, c.new-reader.ensures R lays, c.requires);
      same = sym start.lays.bytes ∙ way.lays.bytes;
      within = search rules;
    }

pub returns-in_err-found : goal.returns-in_err-found
returns-in_err-found c R lays =
    let so = c.loop-place.invariant.counted R lays in
    let fault : c.from_residual.result ≡ Err c.in_err-found.field-0.0 = search rules in
    rw fault (is_over R so.0 c.loop-place.self (Err c.in_err-found.field-0.0) (c.in_err-found.ensures R so.0 so.1).0 so.2)

pub returns-in-End : goal.returns-in-End
returns-in-End c R lays =
    let so = c.loop-place.invariant.counted R lays in
    is_over R so.0 c.loop-place.self (Ok c.in-End.place) (sym (ap told_record c.in-End.is) ∙ (c.in_ok-found.ensures R so.0 so.1).0) so.2

-- one record on
on : (c : After-note) (R : Reading) → Lays R c.args.trace.now
    → (k : ℕ) × Stands R k c.next.new.self × Counted (take k R.entries) c.note.new.self × (c.loop-place.reader.place < c.next.new.self.place)
on c R lays =
    let so = c.loop-place.invariant.counted R lays in
    let f = c.in_ok-found.ensures R so.0 so.1 in
    let e = told_entry c.in_ok-found.found c.in_default.not-End in
    let g = goes_on R so.0 e.0 e.1.0 lays.entries (sym e.1.1 ∙ f.0) in (
      so.0 + 1,
      f.1,
      subst (λ es. Counted es c.note.new.self) (sym g.2) (c.note.ensures.counted (take so.0 R.entries) e.0 e.1.0 g.1 e.1.1 so.2),
      omega (arith, so.1.next, f.1.next, g.3),
    )

pub loop-place-smaller : goal.loop-place-smaller
loop-place-smaller c =
    let way = one_way c.args.trace.now in
    let next = on c way.reading way.lays in
    let same : c.next.new.self.trace.now ≡ c.args.trace.now = sym next.1.lays.bytes ∙ way.lays.bytes in
    let within : c.next.new.self.place ≤ length c.next.new.self.trace.now = c.next.new.self.within in
    omega (arith, next.3, ap length same)

pub loop-place-preserved : goal.loop-place-preserved
loop-place-preserved c =
    let way = one_way c.args.trace.now in
    let next = on c way.reading way.lays in
    let within = c.note.ensures.within _ c.loop-place.invariant.within in
    record {
      counted = λ R lays. let next = on c R lays in (next.0, next.1, next.2);
      same = sym next.1.lays.bytes ∙ way.lays.bytes;
      within = search rules;
    }
