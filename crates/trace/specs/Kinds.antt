-- The kinds of records by their bytes.
use Rattle.std.specs.Prelude.{◌≡◌, ℕ, Result, MatchResult}
use Rattle.trace.specs.declared.kind.Kind.{Kind}
use Rattle.trace.specs.declared.kind.Kind.TheVariants.{Enrol, Amount, Remark, End}
use Rattle.trace.specs.declared.kind.UnknownKind.{UnknownKind}
use Rattle.trace.specs.Layout.{Known}

-- the byte of a kind
abbrev pub code : Kind → ℕ
code Enrol = 1
code Amount = 2
code Remark = 3
code End = 4

-- a byte is the kind whose byte it is, and refused where it is no kind's
abbrev pub Decodes : ℕ → Result Kind UnknownKind → Type 0
Decodes byte r = MatchResult r (λ kind. code kind ≡ byte) (λ why. (why.0 ≡ byte) × (Known byte → ⊥))
