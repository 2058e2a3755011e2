use Rattle.std.proofs.Common.{eqb, sym, ◌∙◌, rules, tests}
use Rattle.std.proofs.lemmas.Iterator.{YieldsList-from_slice}
use Rattle.std.proofs.lemmas.Iterator.Search.{position_from_yields_List}
use Rattle.decoder.proofs.Messages.{to_found, to_none}
use Rattle.decoder.proofs.claims.Claim.sent.Goals as goal

pub returns-in-Some : goal.returns-in-Some
returns-in-Some c =
    let at = position_from_yields_List (λ a. eqb a c.args.slot) _ _ c.position.result c.position.ensures.ran (YieldsList-from_slice c.slots.result.now (cc)) (λ x b q k. search (rules, tests)) in
    rw (← c.slots.ensures.value) (to_found c.args.slot c.slots.result.now c.args.messages.now c.in-Some.place (sym at ∙ c.in-Some.is))

pub returns-in-None : goal.returns-in-None
returns-in-None c =
    let at = position_from_yields_List (λ a. eqb a c.args.slot) _ _ c.position.result c.position.ensures.ran (YieldsList-from_slice c.slots.result.now (cc)) (λ x b q k. search (rules, tests)) in
    rw (← c.slots.ensures.value) (to_none c.args.slot c.slots.result.now c.args.messages.now (sym at ∙ c.in-None.is))
