-- The reading of a trace: its records, and what stands behind them. Every trace, whatever its bytes, has exactly
-- one reading, so that this is the reading and not merely one of several.
use Rattle.std.specs.Prelude.{ℕ, List}
use Rattle.trace.specs.Layout.{Reading}
use Rattle.trace.proofs.Ways.{one_way}

unfoldable pub reading : List ℕ → Reading
reading bytes = (one_way bytes).reading
