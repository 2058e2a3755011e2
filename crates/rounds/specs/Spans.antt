-- Spans by what they say of a total.
use Rattle.std.specs.Prelude.{ℕ}
use Rattle.rounds.specs.declared.span.Span.{Span}

-- the span of a total that is known exactly
abbrev pub closed_at : ℕ → Span
closed_at n = record { low = n; high = n }
