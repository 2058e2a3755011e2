use Rattle.std.proofs.Common.{◌∙◌, arith}
use Rattle.std.proofs.lemmas.List.{get_or_append_left, drop_at}
use Rattle.decoder.proofs.decode.Goals as goal

pub returns-clause-decoded : goal.returns-clause-decoded
returns-clause-decoded c = λ _.
    record {
      low = c.run.ensures.low;
      high = c.run.ensures.high;
      high_untouched = c.run.ensures.high_untouched;
      area_clear = λ k lt. get_or_append_left c.run.new.area _ 0 k (omega (arith, c.run.ensures.long)) ∙ c.run.ensures.clear k lt;
      area_kept = drop_at c.run.new.area _ 7168 c.run.ensures.long;
    }
