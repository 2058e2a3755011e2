use Rattle.std.proofs.Common.{◌≡◌, ◌<◌, [], ◌∷◌, ◌++◌, length, get_or, Ok, sym, ap, ◌∙◌, subst, rules, arith}
use Rattle.std.proofs.lemmas.List.{length_push}
use Rattle.std.proofs.lemmas.Slice.Zip.{zip_turn}
use Rattle.store.specs.Meaning.{Within}
use Rattle.store.specs.Sums.{listed}
use Rattle.store.proofs.Spreading.{no_refusal}
use Rattle.store.proofs.Sums.{length_listed}
use Rattle.store.proofs.Listing.{listed_more}
use Rattle.decoder.specs.Inputs.{claimants}
use Rattle.braid.specs.BraidMeaning.{count, row, claimant, claimant_of}
use Rattle.braid.specs.Layers.{Claimable}
use Rattle.braid.proofs.inputs.claims_of.Goals as goal
use Rattle.braid.proofs.inputs.claims_of.Goals.{After-push_claim}

-- slot i is taken
taken_at : (c : After-push_claim) (able : Claimable c.args.layer.now)
    → (c.push_claim.result ≡ Ok (length (claimants c.loop-row.claims)))
    × (claimants c.push_claim.new.claims ≡ claimants c.loop-row.claims ++ claimant c.args.layer.now (length c.loop-row.yielded) ∷ [])
taken_at c able =
    let l = c.args.layer.now in
    let k = length c.loop-row.yielded in
    let turn = zip_turn c.as_slice.result.now l.bits c.loop-row.yielded c.into_iter-row-iterator.result c.loop-row.row-iterator c.next.new.self
    c.next.result (search rules) (search rules) c.loop-row.yielded_by (c.in-Some.row, c.in-Some.bit) c.in-Some.is c.next.ensures.steps in
    let inside : k < count l = omega (arith, ap length c.as_slice.ensures.value, turn.0) in
    let row_is : c.in-Some.row.now ≡ row l k =
    turn.2 [] ∙ ap (λ rs. get_or rs k []) c.as_slice.ensures.value in
    let so = c.loop-row.invariant able in
    let said = c.push_claim.ensures (subst (Within 1024) (sym row_is) (able k inside)) (omega (arith, ap length so, length_listed k (claimant l), c.as_slice.ensures.fits)) in (
      said.0,
      said.1 ∙ ap (λ bit. claimants c.loop-row.claims ++ claimant_of bit c.in-Some.row.now ∷ []) (turn.3 0)
          ∙ ap (λ r. claimants c.loop-row.claims ++ claimant_of (get_or l.bits k 0) r ∷ []) row_is,
    )

pub returns-in_err-push_claim : goal.returns-in_err-push_claim
returns-in_err-push_claim c = λ able.
    absurd (no_refusal _ _ (sym c.in_err-push_claim.was ∙ (taken_at (goal.at.returns-in_err-push_claim c).After-push_claim able).0))

pub loop-row-preserved : goal.loop-row-preserved
loop-row-preserved c = λ able.
    let f = claimant c.args.layer.now in
    let k = length c.loop-row.yielded in
    (taken_at (goal.at.loop-row-preserved c).After-push_claim able).1 ∙ ap (λ cs. cs ++ f k ∷ []) (c.loop-row.invariant able)
    ∙ sym (listed_more k f) ∙ ap (λ n. listed n f) (sym (length_push c.loop-row.yielded (c.in-Some.row, c.in-Some.bit)))
