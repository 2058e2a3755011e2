use Rattle.std.proofs.Common.{◌≡◌, ℕ, ◌-◌, length, take}
use Rattle.trace.specs.Answers.{Stands}
use Rattle.trace.specs.Layout.{Reading, Lays}
use Rattle.trace.specs.Survey.{Counted, Within}
use Rattle.trace.proofs.survey.Counts.note_all.Given as goal

-- some records are counted, and the reader stands behind them; each has at least a byte
abbrev pub invariant-loop-place : goal.invariant-loop-place
invariant-loop-place l = record {
  counted : (R : Reading) → Lays R l.trace → (k : ℕ) × Stands R k l.reader × Counted (take k R.entries) l.self;
  same : l.reader.trace.now ≡ l.trace;
  within : Within l.reader.place l.self;
}

abbrev pub decreases-loop-place : goal.decreases-loop-place
decreases-loop-place l = length l.trace - l.reader.place
