use Rattle.std.proofs.Common.{◌≡◌, ◌∷◌, ◌++◌, [], length, Ok, sym, refl, ap, ◌∙◌}
use Rattle.std.proofs.lemmas.Bool.{eq-eqb, cond-true}
use Rattle.decoder.specs.Inputs.{claimants, grown}
use Rattle.decoder.specs.Limits.{reach}
use Rattle.rounds.specs.Rounds.{Claimant, nobody}
use Rattle.store.proofs.Listing.{reach_within, told_taken}
use Rattle.braid.proofs.inputs.push_claim.Goals as goal

pub returns-then-bit-eq1 : goal.returns-then-bit-eq1
returns-then-bit-eq1 c = λ within room.
    let row = c.args.row in
    let cs = claimants c.args.claims.now in
    let told : c.push.result ≡ Ok (length cs) =
    c.push.ensures.answer ∙ told_taken (length cs) _ (reach row) room refl (reach_within row within) in
    let raised = cond-true _ (record { row = row; floor = 1 }) nobody (eq-eqb _ 1 c.if-bit-eq1.true) in
    (told, c.push.ensures.grows ∙ ap (λ r. grown r cs (record { row = row; floor = 1 })) told ∙ ap (λ (x : Claimant). cs ++ x ∷ []) (sym raised))
