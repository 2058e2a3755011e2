use Rattle.std.proofs.Common.{rules, ◌≡◌, ◌^◌, ◌<◌, length, ℕ, ◌+◌, ◌*◌, Bor, List, [], map, ◌∙◌, refl, arith, ap, get_or, sym, append-nil}
use Rattle.std.proofs.lemmas.Fn.{serves_by, fold_over, slice_gives, fronts}
use Rattle.trace.specs.Big.{big}
use Rattle.trace.proofs.Spelling.{big_push, big_more, big_below, room}
use Rattle.trace.proofs.number.number.Goals as goal
use Rattle.trace.proofs.number.number.Goals.{After-fold}

pub fold-requires-clause-callable : goal.fold-requires-clause-callable
fold-requires-clause-callable c =
    serves_by _ (λ (xs : List (Bor ℕ)) (q : Unit {0} × ℕ). q.1 ≡ big (map (λ y. y.now) xs))
    (λ xs q x v j k. let step : v.1 ≡ q.1 * 256 + x.now = search rules in step ∙ ap (λ n. n * 256 + x.now) j ∙ sym (big_more xs x))
    fronts _ _ _ refl
    (λ xs t q x u given one is.
    let bytes : (i : ℕ) → get_or c.iter.result.rest.now i 0 < 256 = λ i. rw c.iter.ensures.rest (omega (arith, c.type_inv.bytes i)) in
    let fits : q.1 * 256 + x.now < 2 ^ 64 = rw is (room xs x c.iter.result t u given one (omega (arith, ap length c.iter.ensures.rest)) bytes) in
    search rules)

value : (c : After-fold) → c.fold.result ≡ big c.args.bytes.now
value c =
    fold_over fronts (λ y. y.now) _ (λ ys n. n ≡ big ys) _ (λ ys a x b f' j k. let more = big_push ys x.now in search rules) _ _ _ _ (slice_gives c.iter.result) refl c.fold.ensures.ran
    ∙ ap big c.iter.ensures.rest

pub returns-clause-value : goal.returns-clause-value
returns-clause-value c = let is = value c in search rules

pub returns-clause-bound : goal.returns-clause-bound
returns-clause-bound c = rw (value c) (big_below c.args.bytes.now [] (rw append-nil (λ i. omega (arith, c.type_inv.bytes i))))
