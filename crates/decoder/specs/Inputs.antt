-- What the decoder's inputs stand for, and which claimants and spans they take.
use Rattle.std.specs.Prelude.{ℕ, ◌^◌, Bool, true, cond, ◌&&◌, List, [], ◌∷◌, ◌++◌, map, length, Ok, Err, Result, nat_le, slice_index_or}
use Rattle.rounds.specs.declared.span.Span.{Span}
use Rattle.rounds.specs.Rounds.{Claimant}
use Rattle.decoder.specs.declared.claims.Claim.{Claim}
use Rattle.decoder.specs.declared.claims.Claims.{Claims}
use Rattle.decoder.specs.declared.spans.Ends.{Ends}
use Rattle.decoder.specs.declared.spans.Spans.{Spans}
use Rattle.decoder.specs.declared.unfit.Unfit.{Unfit}
use Rattle.decoder.specs.declared.unfit.Unfit.TheVariants.{Full, Large, Slot}
use Rattle.decoder.specs.Limits.{slots_in, reach}

abbrev pub claimant_of : Claim → Claimant
claimant_of claim = record { row = slots_in claim.row; floor = claim.floor }

-- The claimants in their order.
unfoldable pub claimants : Claims → List Claimant
claimants claims = map claimant_of claims.entries.items

abbrev pub span_of : Ends → Span
span_of ends = record { low = ends.low; high = ends.high }

-- The spans in the order of their slots.
unfoldable pub spans_in : Spans → List Span
spans_in spans = map span_of spans.entries.items

abbrev pub span_at : Spans → ℕ → Span
span_at spans s = slice_index_or (spans_in spans) s (record { low = 0; high = 0 })

-- The number of one more entry where there are n, if there is room for it.
abbrev pub next : ℕ → Result ℕ Unfit
next n = cond (nat_le 1024 n) (Err Full) (Ok n)

-- What is told where one more entry is brought to n others: its number, or why it is not taken. The refusals have no
-- numbers that users know, since the layers above bring only entries that fit.
abbrev pub told : ℕ → Bool → Bool → Result ℕ Unfit
told n small reaches = cond (nat_le 1024 n) (Err Full) (cond small (cond reaches (Ok n) (Err Slot)) (Err Large))

abbrev pub claim_told : List Claimant → Claimant → Result ℕ Unfit
claim_told cs c = told (length cs) (nat_le c.floor (2 ^ 40)) (reach c.row)

abbrev pub span_told : List Span → Span → Result ℕ Unfit
span_told spans span = told (length spans) (nat_le span.low (2 ^ 40) && nat_le span.high (2 ^ 40)) true

-- A list with one more at its end where the answer is a number, and as it was where it is a refusal.
abbrev pub grown : {X : Type 0} → Result ℕ Unfit → List X → X → List X
grown (Ok n) xs x = xs ++ x ∷ []
grown (Err why) xs x = xs
