-- A table of rows as it is made: the first three slots stand in every place.
use Rattle.std.proofs.Common.{◌≡◌, ℕ, List, replicate, ◌∙◌, inl, inr, arith}
use Rattle.std.proofs.lemmas.List.{get_or_past, get_or-replicate, length-replicate}
use Rattle.std.proofs.lemmas.Bool.{cases_lt}
use Rattle.braid.specs.Tables.{spare, Tabled}

pub tabled_none : (row : List ℕ) → row ≡ spare → Tabled (replicate 1024 row) 0
tabled_none row is = record {
  room = length-replicate 1024 row;
  few = omega arith;
  behind = λ i _. elim (cases_lt i 1024) [
    | inl here ↦ get_or-replicate 1024 i row spare here ∙ is
    | inr past ↦ get_or_past (replicate 1024 row) i spare (omega (arith, length-replicate 1024 row))
  ];
}
