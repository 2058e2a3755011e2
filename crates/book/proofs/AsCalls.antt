-- A replay makes the calls that its records stand for: each record that is taken is a call that is accepted.
use Rattle.std.proofs.Common.{◌≡◌, ℕ, suc, ◌<◌, ◌≤◌, Bool, true, false, cond, List, [], ◌∷◌, length, take, drop, sym, refl, ◌∙◌, subst, arith}
use Rattle.std.proofs.lemmas.Bool.{and_from, and_left, both_ways, cond-true, cond-false}
use Rattle.trace.specs.Layout.{Entry, enrol, amount, remark}
use Rattle.book.specs.Reading.{reading}
use Rattle.book.specs.Book.{Book, takes, after_entry, taken, after_entries, answers, closing}
use Rattle.book.specs.Replays.{calls_of, all_accepted, ReplaysAsCalls}
use Rattle.book.proofs.Replaying.{says_replayed, says_declined, says_fault}

closing_cons : (B : Book) (e : Entry) (es : List Entry)
    → closing B (calls_of (e ∷ es)) ≡ closing (after_entry B e) (calls_of es)
closing_cons B (enrol id slots) es = refl
closing_cons B (amount id n) es = refl
closing_cons B (remark text) es = refl

accepted_cons : (B : Book) (e : Entry) (es : List Entry) → takes B e ≡ true
    → all_accepted (answers (after_entry B e) (calls_of es)) ≡ true → all_accepted (answers B (calls_of (e ∷ es))) ≡ true
accepted_cons B (enrol id slots) es took later = and_from _ _ took later
accepted_cons B (amount id n) es took later = and_from _ _ took later
accepted_cons B (remark text) es took later = later

abbrev Denied : List Entry → Book → Type 0
Denied es B = all_accepted (answers B (calls_of es)) ≡ false

denied_cons : (B : Book) (e : Entry) → takes B e ≡ false → Denied (e ∷ []) B
denied_cons B (enrol id slots) off = and_left _ _ off
denied_cons B (amount id n) off = and_left _ _ off
denied_cons B (remark text) off = absurd (both_ways true off refl)

record Calls (B : Book) (es : List Entry) (k : ℕ) : Type 0 where
  few : k ≤ length es
  all : all_accepted (answers B (calls_of (take k es))) ≡ true
  book : after_entries B es ≡ closing B (calls_of (take k es))
  next : k < length es → Denied (take 1 (drop k es)) (closing B (calls_of (take k es)))

as_calls : (B : Book) (es : List Entry) → Calls B es (taken B es)
as_calls B [] = record { few = omega arith; all = refl; book = refl; next = λ h. absurd (omega arith) }
as_calls B (e ∷ es) = at (takes B e) refl (as_calls (after_entry B e) es)
  where
    at : (b : Bool) → takes B e ≡ b → Calls (after_entry B e) es (taken (after_entry B e) es)
        → Calls B (e ∷ es) (cond b (suc (taken (after_entry B e) es)) 0)
    at true took later =
        let t = taken (after_entry B e) es in
        let step = closing_cons B e (take t es) in
        record {
          few = omega (arith, later.few);
          all = accepted_cons B e (take t es) took later.all;
          book = cond-true (takes B e) _ B took ∙ later.book ∙ sym step;
          next = λ h. subst (Denied (take 1 (drop t es))) (sym step) (later.next (omega arith));
        }
    at false off later = record {
      few = omega arith;
      all = refl;
      book = cond-false (takes B e) _ B off;
      next = λ h. denied_cons B e off;
    }

pub replays_as_calls_lem : ReplaysAsCalls
replays_as_calls_lem B bytes =
    let R = reading bytes in
    let k = taken B R.entries in
    let c = as_calls B R.entries in (
      k,
      record {
        few = c.few;
        taken = c.all;
        book = c.book;
        next = λ h. subst (Denied (take 1 (drop k R.entries))) (sym c.book) (c.next h);
        whole = says_replayed B R k refl;
        declined = says_declined B R k refl;
        fault = says_fault B R k refl;
      },
    )
