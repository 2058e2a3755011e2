use Rattle.std.proofs.Common.{◌≡◌, ℕ, length, drop}
use Rattle.ledger.specs.Ledger.{Ledger}
use Rattle.ledger.specs.Promise.{Stands}
use Rattle.ledger.proofs.Running.{SoFar}
use Rattle.ledger.proofs.run.run.Given as goal

-- answers that are still to come have not been touched
abbrev pub invariant-loop-i : goal.invariant-loop-i
invariant-loop-i g l =
    ((depth : ℕ) (L : Ledger) → Stands g.S.Store.meaning depth L l.initial.braid
    → SoFar g.S.Store.meaning depth L (length l.initial.work) l.calls l.answers l.i l.braid l.initial.work l.work)
    × (drop l.i l.answers ≡ drop l.i l.initial.answers)
