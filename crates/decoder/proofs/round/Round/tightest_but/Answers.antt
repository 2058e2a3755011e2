use Rattle.std.proofs.Common.{suc, ℕ, ap, ◌∙◌, unwrap_or, rules, tests, arith}
use Rattle.std.proofs.lemmas.Iterator.{YieldsList-from_slice, YieldsList-from_map}
use Rattle.std.proofs.lemmas.Iterator.Consumers.{YieldsList-from_enumerate, YieldsList-from_filter, YieldsList-at}
use Rattle.std.specs.List.{reduce}
use Rattle.rounds.specs.Rounds.{odd, tighter}
use Rattle.decoder.specs.Area.{but}
use Rattle.decoder.proofs.Gathering.{unless, others_left, reduced, reduce_tightest}
use Rattle.decoder.proofs.round.Round.tightest_but.Goals as goal

pub returns : goal.returns
returns c =
    let up = odd (suc c.args.self.now.past) in
    let skip = c.args.skip in
    let xs = c.args.replies.now in
    let is = reduced _ (tighter up) _ (λ a x b q k. search rules) c.map.result c.reduce.result _ c.reduce.ensures.ran
    (YieldsList-from_map _ (λ (p : ℕ × ℕ). p.1)
    (YieldsList-at c.map.ensures.source
    (YieldsList-from_filter _ (unless skip)
    (YieldsList-at c.filter.ensures.source (YieldsList-from_enumerate (YieldsList-from_slice xs (search rules)) (search rules)))
    c.filter.ensures.closure (λ x r q k. search (rules, tests))))
    c.map.ensures.closure (λ x r q k. search rules)) in
    c.unwrap_or.ensures ∙ ap (λ o. unwrap_or o 0) is
    ∙ ap (λ l. unwrap_or (reduce (tighter up) l) 0) (others_left skip skip 0 xs (omega arith)) ∙ reduce_tightest up (but skip xs)
