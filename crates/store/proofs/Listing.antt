-- Lists made entry by entry, as loops make them, and what the decoder takes.
use Rattle.std.proofs.Common.{◌≡◌, ℕ, zero, suc, ◌+◌, ◌<◌, Bool, true, false, ltb, List, [], ◌∷◌, ◌++◌, Ok, Err, Result, refl, ap, ◌∙◌, add-one, arith}
use Rattle.std.proofs.lemmas.Bool.{and_from, cond_both, lt-ltb, lt-leb}
use Rattle.decoder.specs.Inputs.{told}
use Rattle.decoder.specs.Limits.{reach}
use Rattle.store.specs.Meaning.{Within}
use Rattle.store.specs.Sums.{listed}
use Rattle.wiring.specs.Rising.{is_row}
use Rattle.wiring.specs.Wiring.{row_from}

listed_suc : {X : Type 0} (n : ℕ) (f : ℕ → X) → listed (suc n) f ≡ listed n f ++ f n ∷ []
listed_suc zero f = refl
listed_suc (suc n) f = ap (λ l. f 0 ∷ l) (listed_suc n (λ k. f (suc k)))

pub listed_more : {X : Type 0} (n : ℕ) (f : ℕ → X) → listed (n + 1) f ≡ listed n f ++ f n ∷ []
listed_more n f = ap (λ k. listed k f) (add-one n) ∙ listed_suc n f

pub reach_within : (row : List ℕ) → Within 1024 row → reach row ≡ true
reach_within [] w = refl
reach_within (slot ∷ row) w = and_from (ltb slot 1024) (reach row) (lt-ltb slot 1024 w.0) (reach_within row w.1)

-- an entry that keeps to the limits is taken
pub told_taken : (n : ℕ) (small reaches : Bool) → n < 1024 → small ≡ true → reaches ≡ true → told n small reaches ≡ Ok n
told_taken n small reaches room s r = rw (lt-leb 1024 n room, s, r)

-- slots of which a row was made are one
pub made_row : (slots made : List ℕ) → ◌≡◌ {A = Result (List ℕ) ℕ} (Ok made) (row_from slots) → (is_row slots ≡ true) × (made ≡ slots)
made_row slots made =
    cond_both (is_row slots) _ _ (λ r. ◌≡◌ {A = Result (List ℕ) ℕ} (Ok made) r → (is_row slots ≡ true) × (made ≡ slots))
    (λ one e. (one, (cc)))
    (λ none e. let z : ◌≡◌ {A = ℕ} 0 1 = cc in absurd (omega arith))

-- slots of which none was made are none, and the refusal is 5
pub no_row : (slots : List ℕ) (why : ℕ) → ◌≡◌ {A = Result (List ℕ) ℕ} (Err why) (row_from slots) → (is_row slots ≡ false) × (why ≡ 5)
no_row slots why =
    cond_both (is_row slots) _ _ (λ r. ◌≡◌ {A = Result (List ℕ) ℕ} (Err why) r → (is_row slots ≡ false) × (why ≡ 5))
    (λ one e. let z : ◌≡◌ {A = ℕ} 0 1 = cc in absurd (omega arith))
    (λ none e. (none, (cc)))

pub same_ok : {X E : Type 0} (x y : X) → ◌≡◌ {A = Result X E} (Ok x) (Ok y) → x ≡ y
same_ok x y is = cc
