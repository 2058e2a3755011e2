-- A list of calls, one after the other: what each accepted call enters in the ledger is what it brings.
use Rattle.std.proofs.Common.{◌≡◌, ℕ, zero, suc, ◌+◌, ◌<◌, cond, eqb, List, [], ◌∷◌, ◌++◌, length, get_or, sym, refl, ap, ◌∙◌, inl, inr, arith}
use lib.ListN.{length-map}
use Rattle.std.proofs.lemmas.List.{append_assoc, append-nil, get_or_past, map_push}
use Rattle.std.proofs.lemmas.Bool.{cases_lt, cond-false, ne_eqb}
use Rattle.store.specs.Totals.{more}
use Rattle.store.proofs.Lists.{length_more}
use Rattle.store.proofs.Sums.{get_or_more}
use Rattle.ledger.specs.Ledger.{Asked, wire, add, settle, Said, Ledger}
use Rattle.ledger.specs.Ledger.{row_of, total_of, rows, totals, opened}
use Rattle.ledger.specs.Ledger.{answer, entered, after, answers, closing}
use Rattle.ledger.proofs.Answering.{wire_answers, add_answers, settle_answers}
use Rattle.ledger.proofs.Lines.{grown_rows, grown_totals}
use Rattle.ledger.specs.Runs.{units, units_for, new_rows, rows_from, TotalsAddUp}

-- an empty entry at the end is not told from none
get_or_push_none : (T : List ℕ) (i : ℕ) → get_or (T ++ 0 ∷ []) i 0 ≡ get_or T i 0
get_or_push_none [] zero = refl
get_or_push_none [] (suc i) = refl
get_or_push_none (x ∷ T) zero = refl
get_or_push_none (x ∷ T) (suc i) = get_or_push_none T i

get_or_more_all : (T : List ℕ) (slot n i : ℕ) → slot < length T → get_or (more T slot n) i 0 ≡ get_or T i 0 + cond (eqb i slot) n 0
get_or_more_all T slot n i h = elim (cases_lt i (length T)) [
  | inl here ↦ get_or_more T slot n i here
  | inr past ↦
      let off = cond-false (eqb i slot) n 0 (ne_eqb i slot (λ e. omega arith)) in
      omega (arith, off, get_or_past T i 0 past, get_or_past (more T slot n) i 0 (omega (arith, length_more T slot n)))
]

module _ (L : Ledger) where
  -- one call enters just what it brings
  abbrev TotalGrows : ℕ → Asked → Said → Type 0
  TotalGrows i a said = get_or (totals (entered L a said)) i 0 ≡ get_or (totals L) i 0 + units i a said

  abbrev RowsGrow : Asked → Said → Type 0
  RowsGrow a said = rows (entered L a said) ≡ rows L ++ new_rows a said

  total_after : (i : ℕ) (a : Asked) → TotalGrows i a (answer L a)
  total_after i (wire slots) = wire_answers L (TotalGrows i (wire slots)) slots
      (λ _. omega arith) (λ _ _. omega arith) (λ _ _ _. omega arith) (λ _ _ _ _. omega arith)
      (λ _ _ _ _. omega (
        arith,
        ap (λ T. get_or T i 0) (map_push total_of L.lines (record { row = slots; total = 0 })),
        get_or_push_none (totals L) i,
      ))
  total_after i (add slot n) = add_answers L (TotalGrows i (add slot n)) slot n
      (λ _. omega arith) (λ _ _. omega arith)
      (λ there _.
      ap (λ T. get_or T i 0) (grown_totals L.lines slot n)
      ∙ get_or_more_all (totals L) slot n i (omega (arith, length-map L.lines total_of)))
  total_after i (settle R room) =
      settle_answers L (TotalGrows i (settle R room)) R room (λ _. omega arith) (λ _ _. omega arith) (λ _ _. omega arith)

  rows_after : (a : Asked) → RowsGrow a (answer L a)
  rows_after a = at a (sym (append-nil (rows L)))
    where
      at : (a : Asked) → rows L ≡ rows L ++ [] → RowsGrow a (answer L a)
      at (wire slots) same = wire_answers L (RowsGrow (wire slots)) slots
          (λ _. same) (λ _ _. same) (λ _ _ _. same) (λ _ _ _ _. same)
          (λ _ _ _ _. map_push row_of L.lines (record { row = slots; total = 0 }))
      at (add slot n) same = add_answers L (RowsGrow (add slot n)) slot n
          (λ _. same) (λ _ _. same) (λ _ _. grown_rows L.lines slot n ∙ same)
      at (settle R room) same = settle_answers L (RowsGrow (settle R room)) R room (λ _. same) (λ _ _. same) (λ _ _. same)

total_closing : (L : Ledger) (calls : List Asked) (i : ℕ)
    → get_or (totals (closing L calls)) i 0 ≡ get_or (totals L) i 0 + units_for i calls (answers L calls)
total_closing L [] i = omega arith
total_closing L (a ∷ calls) i = omega (arith, total_closing (after L a) calls i, total_after L i a)

rows_closing : (L : Ledger) (calls : List Asked) → rows (closing L calls) ≡ rows L ++ rows_from calls (answers L calls)
rows_closing L [] = sym (append-nil (rows L))
rows_closing L (a ∷ calls) =
    rows_closing (after L a) calls ∙ ap (λ rs. rs ++ rows_from calls (answers (after L a) calls)) (rows_after L a)
    ∙ append_assoc (rows L) (new_rows a (answer L a)) (rows_from calls (answers (after L a) calls))

pub totals_add_up_lem : TotalsAddUp
totals_add_up_lem N calls = record {
  totals = λ i. omega (arith, total_closing (opened N) calls i);
  rows = rows_closing (opened N) calls;
}
