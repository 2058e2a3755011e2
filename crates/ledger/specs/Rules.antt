-- The spans of a braid by the rules: from the totals of its slots, their rows and the depth of the
-- counters, over the spans of the store below at the same rounds.
use Rattle.std.specs.Prelude.{ℕ, zero, suc, ◌+◌, ◌*◌, ◌%◌, min, Bool, cond, List, [], length, nat_le, slice_index, slice_index_or}
use Rattle.rounds.specs.declared.span.Span.{Span}
use Rattle.rounds.specs.Rounds.{Claimant, nobody, Low, High}
use Rattle.store.specs.Sums.{listed}
use Rattle.store.specs.Totals.{total}

module _ (M : ℕ) (rows : List (List ℕ)) (T : List ℕ) where
  -- a slot is raised once its total has reached the modulus
  abbrev pub raised : ℕ → Bool
  raised i = nat_le M (slice_index T i)

  -- raised slots are claimants with floor 1, the others take no part
  abbrev pub claimant : ℕ → Claimant
  claimant i = cond (raised i) (record { row = slice_index_or rows i []; floor = 1 }) nobody

  abbrev pub claimants : List Claimant
  claimants = listed (length rows) claimant

  -- what the low part and so many times the modulus make, no more than the weight
  abbrev pub holds : ℕ → ℕ → ℕ
  holds i times = min (total T) (slice_index T i % M + M * times)

  -- before any round only the weight bounds a raised slot from above
  abbrev pub high : (ℕ → Span) → ℕ → ℕ → ℕ
  high below zero i = total T
  high below (suc R) i = holds i (High claimants below (suc R) i)

  abbrev pub span : (ℕ → Span) → ℕ → ℕ → Span
  span below R i =
      cond (raised i) (record { low = holds i (Low claimants below R i); high = high below R i }) (record { low = slice_index T i; high = slice_index T i })
