use Rattle.std.proofs.Common.{◌≡◌, ◌^◌, ◌<◌, ◌≤◌, true, [], ◌∷◌, ◌++◌, length, Ok, sym, refl, ap, ◌∙◌, arith}
use Rattle.std.proofs.lemmas.Bool.{and_from, le-leb}
use Rattle.decoder.specs.Inputs.{spans_in, grown}
use Rattle.rounds.specs.declared.span.Span.{Span}
use Rattle.store.specs.Meaning.{Live}
use Rattle.store.proofs.Spreading.{no_refusal}
use Rattle.store.proofs.Sums.{length_listed}
use Rattle.store.proofs.Listing.{listed_more, told_taken, same_ok}
use Rattle.store.proofs.inputs.spans_of.Given as given
use Rattle.store.proofs.inputs.spans_of.Goals as goal
use Rattle.store.proofs.inputs.spans_of.Goals.{After-push}

-- the span of the next slot is that of the store, and is taken
taken_at : (g : given.Over) (c : After-push g) → Live g.S.Store.meaning c.args.below.now
    → let m = g.S.Store.meaning in let b = c.args.below.now in
    (c.push.result ≡ Ok (length (spans_in c.loop-slot.spans)))
    × (spans_in c.push.new.self ≡ spans_in c.loop-slot.spans ++ m.spans b (m.rounds b) c.loop-slot.slot ∷ [])
taken_at g c live =
    let m = g.S.Store.meaning in
    let laws = g.S.Store.laws in
    let b = c.args.below.now in
    let slot = c.loop-slot.slot in
    let known = spans_in c.loop-slot.spans in
    let inside : slot < m.slots b = omega (arith, c.slots-slot-end.ensures) in
    let span : c.in_ok-span.span ≡ m.spans b (m.rounds b) slot = same_ok _ _ ((c.in_ok-span.ensures live).span inside) in
    let room : length known < 1024 =
    omega (arith, ap length (c.loop-slot.invariant live), length_listed slot (m.spans b (m.rounds b)), laws.few b live.sound) in
    let low : c.in_ok-span.span.low ≤ 2 ^ 40 =
    omega (arith, ap (λ (s : Span). s.low) span, laws.low_light b live.sound (m.rounds b) slot inside, laws.light b live.sound) in
    let high : c.in_ok-span.span.high ≤ 2 ^ 40 =
    omega (arith, ap (λ (s : Span). s.high) span, laws.high_light b live.sound (m.rounds b) slot inside, laws.light b live.sound) in
    let told : c.push.result ≡ Ok (length known) =
    c.push.ensures.answer ∙ told_taken (length known) _ true room (and_from _ _ (le-leb _ (2 ^ 40) low) (le-leb _ (2 ^ 40) high)) refl in (
      told,
      c.push.ensures.grows ∙ ap (λ r. grown r known c.in_ok-span.span) told ∙ ap (λ (s : Span). known ++ s ∷ []) span,
    )

pub returns-in_err-push : goal.returns-in_err-push
returns-in_err-push g c = λ live.
    let at = taken_at g (goal.at.returns-in_err-push g c).After-push live in
    absurd (no_refusal _ _ (sym c.in_err-push.was ∙ at.0))

pub loop-slot-preserved : goal.loop-slot-preserved
loop-slot-preserved g c = λ live.
    let m = g.S.Store.meaning in
    let f = m.spans c.args.below.now (m.rounds c.args.below.now) in
    (taken_at g (goal.at.loop-slot-preserved g c).After-push live).1 ∙ ap (λ ss. ss ++ f c.loop-slot.slot ∷ []) (c.loop-slot.invariant live) ∙ sym (listed_more c.loop-slot.slot f)
