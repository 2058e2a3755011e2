-- The table in which a layer keeps its rows, and that the rows tell all of it.
use Rattle.std.specs.Prelude.{◌≡◌, ℕ, ◌≤◌, List, [], ◌∷◌, length, take, slice_index_or}
use Rattle.std.proofs.Common.{sym, ◌∙◌, inl, inr, arith}
use Rattle.std.proofs.lemmas.List.{get_or-take, get_or_past, length-take-le}
use Rattle.std.proofs.lemmas.Bool.{cases_lt}
use Rattle.store.specs.Sums.{listed}
use Rattle.store.proofs.Sums.{listed_get_or}

-- what stands in a place that no slot has
abbrev pub spare : List ℕ
spare = 0 ∷ (1 ∷ (2 ∷ []))

-- the table that holds these rows
unfoldable pub table_of : List (List ℕ) → List (List ℕ)
table_of rows = listed 1024 (λ i. slice_index_or rows i spare)

-- a table that has rows in its first places, so many, and nothing behind them
pub record Tabled (table : List (List ℕ)) (count : ℕ) : Type 0 where
  pub room : length table ≡ 1024
  pub few : count ≤ 1024
  pub behind : (i : ℕ) → count ≤ i → slice_index_or table i spare ≡ spare

module _ (table : List (List ℕ)) (count : ℕ) (tabled : Tabled table count) where
  pub same_count : length (take count table) ≡ count
  same_count = length-take-le count table (omega (arith, tabled.few, tabled.room))

  pub same_table : table_of (take count table) ≡ table
  unfolding table_of
  same_table = listed_get_or 1024 (λ i. slice_index_or (take count table) i spare) table spare tabled.room (λ k h. elim (cases_lt k count) [
    | inl here ↦ get_or-take count table k spare here
    | inr past ↦ get_or_past (take count table) k spare (omega (arith, same_count)) ∙ sym (tabled.behind k past)
  ])
