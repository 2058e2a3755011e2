-- What the book can answer, and what an answer tells of the call.
use Rattle.std.proofs.Common.{◌≡◌, ℕ, ◌+◌, ◌*◌, ◌^◌, ◌<◌, ◌≤◌, true, false, ◌&&◌, eqb, ltb, leb, List, [], length, get_or, is_some, Some, None, Option, refl}
use Rattle.std.proofs.lemmas.Bool.{cond_both, eqb-true, leb-true, ltb-true}
use Rattle.trace.specs.Layout.{Reading}
use Rattle.wiring.specs.Rising.{is_row}
use Rattle.book.specs.Book.{Said, enrolled, recorded, denied, Book, rows, total, weight, fits, place}
use Rattle.book.specs.Book.{enrol_says, record_there, record_says, taken, ends, replay_says}
use Rattle.book.specs.Runs.{count}

module _ (B : Book) where
  -- when an enrol is accepted
  pub record Enrols (id : ℕ) (slots : List ℕ) : Type 0 where
    pub row : is_row slots ≡ true
    pub empty : B.burden ≡ 0
    pub few : length B.flows < 1024
    pub new : is_some (place id B.flows) ≡ false
    pub there : fits B.beneath slots ≡ true

  pub enrol_either : (id : ℕ) (slots : List ℕ) (P : Said → Type 0) → (Enrols id slots → P (enrolled (length B.flows)))
      → ((why : ℕ) → P (denied why)) → P (enrol_says B id slots)
  enrol_either id slots P took denies = cond_both (is_row slots) _ _ P
      (λ row. cond_both (eqb B.burden 0) _ _ P
      (λ empty. cond_both (ltb (length B.flows) 1024) _ _ P
      (λ few. cond_both (is_some (place id B.flows)) _ _ P (λ _. denies 8)
      (λ new. cond_both (fits B.beneath slots) _ _ P
      (λ there. took (record {
        row = row;
        empty = eqb-true B.burden 0 empty;
        few = ltb-true (length B.flows) 1024 few;
        new = new;
        there = there;
      }))
      (λ _. denies 1)))
      (λ _. denies 7))
      (λ _. denies 6))
      (λ _. denies 5)

  -- when a record is accepted, and which flow it is for
  pub record Records (id n i : ℕ) : Type 0 where
    pub at : place id B.flows ≡ Some i
    pub light : B.burden + weight B + length (get_or (rows B) i []) * n ≤ 2 ^ 40

  pub record_either : (id n : ℕ) (P : Said → Type 0) → ((i : ℕ) → Records id n i → P (recorded (total B + n)))
      → ((why : ℕ) → P (denied why)) → P (record_says B id n)
  record_either id n P took denies = look (place id B.flows) refl
    where
      look : (p : Option ℕ) → place id B.flows ≡ p → P (record_there B n p)
      look None e = denies 9
      look (Some i) e =
          let then = B.burden + weight B + length (get_or (rows B) i []) * n in
          cond_both (leb then (2 ^ 40)) _ _ P
          (λ light. took i (record { at = e; light = leb-true then (2 ^ 40) light })) (λ _. denies 2)

  -- a replay tells how many records it took, whether it stopped or not
  pub replay_count : (R : Reading) → count (replay_says B R) ≡ taken B R.entries
  replay_count R = cond_both (eqb (taken B R.entries) (length R.entries) && ends R.ending) _ _
      (λ said. count said ≡ taken B R.entries) (λ _. refl) (λ _. refl)
