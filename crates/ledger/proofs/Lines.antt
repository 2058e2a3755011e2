-- Lines of a ledger: what one more line, or units more in one, do to the rows and the totals.
use Rattle.std.proofs.Common.{◌≡◌, ℕ, zero, suc, true, false, ltb, List, [], ◌∷◌, map, refl, ap}
use Rattle.std.proofs.lemmas.Bool.{and_from, and_parts, lt-ltb, ltb-true, both_ways}
use Rattle.store.specs.Meaning.{Within}
use Rattle.store.specs.Totals.{more}
use Rattle.ledger.specs.Ledger.{Line, row_of, total_of, fits, grown}

pub grown_totals : (lines : List Line) (slot n : ℕ) → map total_of (grown lines slot n) ≡ more (map total_of lines) slot n
grown_totals [] slot n = refl
grown_totals (line ∷ lines) zero n = refl
grown_totals (line ∷ lines) (suc slot) n = ap (λ l. line.total ∷ l) (grown_totals lines slot n)

pub grown_rows : (lines : List Line) (slot n : ℕ) → map row_of (grown lines slot n) ≡ map row_of lines
grown_rows [] slot n = refl
grown_rows (line ∷ lines) zero n = refl
grown_rows (line ∷ lines) (suc slot) n = ap (λ l. line.row ∷ l) (grown_rows lines slot n)

pub fits_within : (N : ℕ) (row : List ℕ) → fits N row ≡ true → Within N row
fits_within N [] h = tt
fits_within N (slot ∷ row) h =
    let both = and_parts (ltb slot N) (fits N row) h in
    (ltb-true slot N both.0, fits_within N row both.1)

within_fits : (N : ℕ) (row : List ℕ) → Within N row → fits N row ≡ true
within_fits N [] w = refl
within_fits N (slot ∷ row) w = and_from (ltb slot N) (fits N row) (lt-ltb slot N w.0) (within_fits N row w.1)

pub fits_not : (N : ℕ) (row : List ℕ) → fits N row ≡ false → Within N row → ⊥
fits_not N row h w = both_ways (fits N row) h (within_fits N row w)
