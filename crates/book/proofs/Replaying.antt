-- The records of a trace, one more at a time: while each is taken the count goes up by one, and at the first that is
-- declined, or past the last, it is told.
use Rattle.std.proofs.Common.{◌≡◌, ℕ, suc, ◌+◌, ◌<◌, ◌≤◌, Bool, true, false, cond, eqb, List, [], ◌∷◌, ◌++◌, length, take, drop, sym, refl, ap, ◌∙◌, arith}
use Rattle.std.proofs.lemmas.List.{append_assoc, append_cancel_left, length-take-le, take_all, take-append-drop}
use Rattle.std.proofs.lemmas.Bool.{and_from, and_left, and_right, cond-true, cond-false, eq-eqb, ne_eqb}
use Rattle.trace.specs.Layout.{Entry, Reading}
use Rattle.book.specs.Book.{replayed, stopped, Book, takes, after_entry, taken, after_entries, ends, replay_says}

-- records that are all taken, and some behind them
taken_append : (B : Book) (xs ys : List Entry) → taken B xs ≡ length xs
    → (taken B (xs ++ ys) ≡ length xs + taken (after_entries B xs) ys)
    × (after_entries B (xs ++ ys) ≡ after_entries (after_entries B xs) ys)
taken_append B [] ys all = (omega arith, refl)
taken_append B (e ∷ xs) ys all = at (takes B e) (taken_append (after_entry B e) xs ys) all
  where
    C : Book
    C = after_entry B e

    at : (b : Bool)
        → (taken C xs ≡ length xs → (taken C (xs ++ ys) ≡ length xs + taken (after_entries C xs) ys)
        × (after_entries C (xs ++ ys) ≡ after_entries (after_entries C xs) ys))
        → cond b (suc (taken C xs)) 0 ≡ suc (length xs)
        → (cond b (suc (taken C (xs ++ ys))) 0 ≡ suc (length xs) + taken (cond b (after_entries C xs) B) ys)
        × (cond b (after_entries C (xs ++ ys)) B ≡ after_entries (cond b (after_entries C xs) B) ys)
    at true later e = let r = later (omega arith) in (omega (arith, r.0), r.1)
    at false later e = absurd (omega arith)

-- the first k records were taken, and the book is C after them
pub record Took (B : Book) (es : List Entry) (k : ℕ) (C : Book) : Type 0 where
  pub few : k ≤ length es
  pub all : taken B (take k es) ≡ k
  pub left : after_entries B (take k es) ≡ C

pub took_none : (B : Book) (es : List Entry) → Took B es 0 B
took_none B es = record { few = omega arith; all = refl; left = refl }

module _ (B : Book) (es : List Entry) (k : ℕ) (C : Book) (so : Took B es k C) where
  front : length (take k es) ≡ k
  front = length-take-le k es so.few

  behind : (ys : List Entry)
      → (taken B (take k es ++ ys) ≡ k + taken C ys) × (after_entries B (take k es ++ ys) ≡ after_entries C ys)
  behind ys =
      let r = taken_append B (take k es) ys (so.all ∙ sym front) in
      (r.0 ∙ (λ j. front j + taken (so.left j) ys), r.1 ∙ ap (λ D. after_entries D ys) so.left)

  whole : (taken B es ≡ k + taken C (drop k es)) × (after_entries B es ≡ after_entries C (drop k es))
  whole =
      let split = take-append-drop k es in
      let r = behind (drop k es) in
      (ap (taken B) (sym split) ∙ r.0, ap (after_entries B) (sym split) ∙ r.1)

  module _ (e : Entry) (here : k < length es) (next : take (k + 1) es ≡ take k es ++ e ∷ []) where
    pub took_more : takes C e ≡ true → Took B es (k + 1) (after_entry C e)
    took_more took =
        let r = behind (e ∷ []) in
        record {
          few = omega arith;
          all = ap (taken B) next ∙ r.0 ∙ ap (λ n. k + n) (cond-true (takes C e) 1 0 took);
          left = ap (after_entries B) next ∙ r.1 ∙ cond-true (takes C e) (after_entry C e) C took;
        }

    rest : drop k es ≡ e ∷ drop (k + 1) es
    rest = append_cancel_left (take k es) (drop k es) (e ∷ drop (k + 1) es)
        (take-append-drop k es ∙ sym (take-append-drop (k + 1) es) ∙ ap (λ l. l ++ drop (k + 1) es) next
        ∙ append_assoc (take k es) (e ∷ []) (drop (k + 1) es))

    -- a record that is declined is where it stops
    pub took_declined : takes C e ≡ false → (taken B es ≡ k) × (after_entries B es ≡ C)
    took_declined not_taken =
        let many : taken C (drop k es) ≡ 0 = ap (taken C) rest ∙ cond-false (takes C e) _ 0 not_taken in
        let same : after_entries C (drop k es) ≡ C = ap (after_entries C) rest ∙ cond-false (takes C e) _ C not_taken in
        (omega (arith, whole.0, many), whole.1 ∙ same)

  -- past the last record all were taken
  pub took_all : length es ≤ k → (taken B es ≡ k) × (after_entries B es ≡ C)
  took_all past =
      let same = take_all k es past in
      (ap (taken B) (sym same) ∙ so.all, ap (after_entries B) (sym same) ∙ so.left)

-- what is told then
module _ (B : Book) (R : Reading) (k : ℕ) (so : taken B R.entries ≡ k) where
  abbrev all_taken : Bool
  all_taken = eqb (taken B R.entries) (length R.entries)

  pub says_replayed : k ≡ length R.entries → ends R.ending ≡ true → replay_says B R ≡ replayed k
  says_replayed all end =
      cond-true _ _ _ (and_from all_taken (ends R.ending) (eq-eqb _ _ (so ∙ all)) end) ∙ ap replayed so

  pub says_declined : k < length R.entries → replay_says B R ≡ stopped k
  says_declined some =
      cond-false _ _ _ (and_left all_taken (ends R.ending) (ne_eqb _ _ (λ e. omega arith))) ∙ ap stopped so

  pub says_fault : ends R.ending ≡ false → replay_says B R ≡ stopped k
  says_fault fault = cond-false _ _ _ (and_right all_taken (ends R.ending) fault) ∙ ap stopped so
