-- What is seen of a flat store, and what is true of every one.
use Rattle.std.specs.Prelude.{◌≡◌, ℕ, ◌^◌, ◌≤◌, List, take}
use Rattle.store.specs.Totals.{total}

pub record FlatView : Type 0 where
  pub table : List ℕ
  pub weight : ℕ
  pub rounds : ℕ

-- the weight is what the slots hold, and at most the ceiling
pub record FlatSound (table : List ℕ) (weight : ℕ) : Type 0 where
  pub adds : total (take 1024 table) ≡ weight
  pub light : weight ≤ 2 ^ 40
