use Rattle.std.proofs.Common.{Ok, ap, sym, arith}
use Rattle.rounds.specs.Spans.{closed_at}
use Rattle.store.proofs.Lists.{placed, held}
use Rattle.store.proofs.flat.FlatStore.span.Goals as goal

pub returns : goal.returns
returns c = rw (← c.self.view_is, c.closed.ensures, c.in_ok-place.ensures.0) (λ live. record {
  no_slot = λ h. absurd (omega (arith, placed c.self.view_is c.in_ok-place.ensures, c.in_ok-place.ensures.0));
  span = λ h. ap (λ n. Ok (closed_at n)) (sym (held c.self.inside.table.now c.args.slot 0 h));
})
