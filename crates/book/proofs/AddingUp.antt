-- A list of calls, one after the other: what each accepted record enters in the book is what it brings, and what each
-- accepted enrol appends is what it names.
use Rattle.std.proofs.Common.{◌≡◌, ℕ, suc, ◌+◌, Bool, true, false, cond, List, [], ◌∷◌, ◌++◌, map, get_or, take, sym, refl, ap, ◌∙◌, arith}
use Rattle.std.proofs.lemmas.List.{append_assoc, append-nil, map_push}
use Rattle.trace.specs.Big.{big}
use Rattle.trace.specs.Layout.{Entry, enrol, amount, remark}
use Rattle.book.specs.Reading.{reading}
use Rattle.book.specs.Book.{Asked, to_enrol, to_record, to_replay, Book, identifiers, opened, place, accepted, with_flows}
use Rattle.book.specs.Book.{grown_there, words, enrol_says, record_says, after_enrol, after_record, takes, after_entry}
use Rattle.book.specs.Book.{taken, after_entries, answer, after, answers, closing}
use Rattle.book.specs.Runs.{only, every, brought, brought_by, amounts, amounts_of}
use Rattle.book.specs.Runs.{named, enrolled_by, enrolments, enrolments_of, UnitsAddUp}
use Rattle.book.proofs.Flows.{new_flow, grown_names, place_some, held, held_push, held_grown, held_every, held_only}
use Rattle.book.proofs.Keeping.{kept_opened, kept_closing}
use Rattle.book.proofs.Says.{enrol_either, record_either, replay_count}

-- what each call does to the units under some identifiers
module _ (which : ℕ → Bool) where
  held_enrol : (B : Book) (id : ℕ) (slots : List ℕ) → held which (after_enrol B id slots).flows ≡ held which B.flows
  held_enrol B id slots = enrol_either B id slots
      (λ said. held which (cond (accepted said) (with_flows B (B.flows ++ new_flow id slots ∷ [])) B).flows
      ≡ held which B.flows)
      (λ _. held_push which B.flows id slots) (λ why. refl)

  held_record : (B : Book) (id n : ℕ)
      → held which (after_record B id n).flows
      ≡ held which B.flows + cond (accepted (record_says B id n)) (cond (which id) n 0) 0
  held_record B id n = record_either B id n
      (λ said. held which (cond (accepted said) (with_flows B (grown_there B.flows (place id B.flows) n)) B).flows
      ≡ held which B.flows + cond (accepted said) (cond (which id) n 0) 0)
      (λ i r.
      let at = place_some id B.flows i r.at in
      ap (λ p. held which (grown_there B.flows p n)) r.at ∙ held_grown which B.flows i n at.0
      ∙ ap (λ k. held which B.flows + cond (which k) n 0) at.1)
      (λ why. omega arith)

  held_entry : (B : Book) (e : Entry) → takes B e ≡ true
      → held which (after_entry B e).flows ≡ held which B.flows + brought which e
  held_entry B (enrol id slots) took = omega (arith, held_enrol B (big id) (words slots))
  held_entry B (amount id n) took =
      held_record B (big id) (big n)
      ∙ ap (λ b. held which B.flows + cond b (cond (which (big id)) (big n) 0) 0) took
  held_entry B (remark text) took = omega arith

  held_entries : (B : Book) (es : List Entry)
      → held which (after_entries B es).flows ≡ held which B.flows + brought_by which (take (taken B es) es)
  held_entries B [] = omega arith
  held_entries B (e ∷ es) = at (takes B e) (held_entry B e) (held_entries (after_entry B e) es)
    where
      at : (b : Bool) → (b ≡ true → held which (after_entry B e).flows ≡ held which B.flows + brought which e)
          → held which (after_entries (after_entry B e) es).flows
          ≡ held which (after_entry B e).flows + brought_by which (take (taken (after_entry B e) es) es)
          → held which (cond b (after_entries (after_entry B e) es) B).flows
          ≡ held which B.flows + brought_by which (take (cond b (suc (taken (after_entry B e) es)) 0) (e ∷ es))
      at true here later = omega (arith, here refl)
      at false here later = omega arith

  held_call : (B : Book) (a : Asked) → held which (after B a).flows ≡ held which B.flows + amounts which a (answer B a)
  held_call B (to_enrol id slots) = omega (arith, held_enrol B id slots)
  held_call B (to_record id n) = held_record B id n
  held_call B (to_replay bytes) =
      let es = (reading bytes).entries in
      held_entries B es
      ∙ ap (λ k. held which B.flows + brought_by which (take k es)) (sym (replay_count B (reading bytes)))

  held_closing : (B : Book) (calls : List Asked)
      → held which (closing B calls).flows ≡ held which B.flows + amounts_of which calls (answers B calls)
  held_closing B [] = omega arith
  held_closing B (a ∷ calls) = omega (arith, held_closing (after B a) calls, held_call B a)

-- what each call does to the list of identifiers and rows
names_enrol : (B : Book) (id : ℕ) (slots : List ℕ)
    → map named (after_enrol B id slots).flows
    ≡ map named B.flows ++ cond (accepted (enrol_says B id slots)) ((id, slots) ∷ []) []
names_enrol B id slots = enrol_either B id slots
    (λ said. map named (cond (accepted said) (with_flows B (B.flows ++ new_flow id slots ∷ [])) B).flows
    ≡ map named B.flows ++ cond (accepted said) ((id, slots) ∷ []) [])
    (λ _. map_push named B.flows (new_flow id slots)) (λ why. sym (append-nil (map named B.flows)))

names_record : (B : Book) (id n : ℕ) → map named (after_record B id n).flows ≡ map named B.flows
names_record B id n = record_either B id n
    (λ said. map named (cond (accepted said) (with_flows B (grown_there B.flows (place id B.flows) n)) B).flows
    ≡ map named B.flows)
    (λ i r. ap (λ p. map named (grown_there B.flows p n)) r.at ∙ grown_names B.flows i n) (λ why. refl)

names_entry : (B : Book) (e : Entry) → takes B e ≡ true
    → map named (after_entry B e).flows ≡ map named B.flows ++ enrolled_by (e ∷ [])
names_entry B (enrol id slots) took =
    names_enrol B (big id) (words slots)
    ∙ ap (λ b. map named B.flows ++ cond b ((big id, words slots) ∷ []) []) took
names_entry B (amount id n) took = names_record B (big id) (big n) ∙ sym (append-nil (map named B.flows))
names_entry B (remark text) took = sym (append-nil (map named B.flows))

enrolled_cons : (e : Entry) (es : List Entry) → enrolled_by (e ∷ es) ≡ enrolled_by (e ∷ []) ++ enrolled_by es
enrolled_cons (enrol id slots) es = refl
enrolled_cons (amount id n) es = refl
enrolled_cons (remark text) es = refl

names_entries : (B : Book) (es : List Entry)
    → map named (after_entries B es).flows ≡ map named B.flows ++ enrolled_by (take (taken B es) es)
names_entries B [] = sym (append-nil (map named B.flows))
names_entries B (e ∷ es) = at (takes B e) (names_entry B e) (names_entries (after_entry B e) es)
  where
    C : Book
    C = after_entry B e

    at : (b : Bool) → (b ≡ true → map named C.flows ≡ map named B.flows ++ enrolled_by (e ∷ []))
        → map named (after_entries C es).flows ≡ map named C.flows ++ enrolled_by (take (taken C es) es)
        → map named (cond b (after_entries C es) B).flows
        ≡ map named B.flows ++ enrolled_by (take (cond b (suc (taken C es)) 0) (e ∷ es))
    at true here later =
        later ∙ ap (λ l. l ++ enrolled_by (take (taken C es) es)) (here refl)
        ∙ append_assoc (map named B.flows) (enrolled_by (e ∷ [])) (enrolled_by (take (taken C es) es))
        ∙ ap (λ l. map named B.flows ++ l) (sym (enrolled_cons e (take (taken C es) es)))
    at false here later = sym (append-nil (map named B.flows))

names_call : (B : Book) (a : Asked) → map named (after B a).flows ≡ map named B.flows ++ enrolments a (answer B a)
names_call B (to_enrol id slots) = names_enrol B id slots
names_call B (to_record id n) = names_record B id n ∙ sym (append-nil (map named B.flows))
names_call B (to_replay bytes) =
    let es = (reading bytes).entries in
    names_entries B es
    ∙ ap (λ k. map named B.flows ++ enrolled_by (take k es)) (sym (replay_count B (reading bytes)))

names_closing : (B : Book) (calls : List Asked)
    → map named (closing B calls).flows ≡ map named B.flows ++ enrolments_of calls (answers B calls)
names_closing B [] = sym (append-nil (map named B.flows))
names_closing B (a ∷ calls) =
    names_closing (after B a) calls ∙ ap (λ l. l ++ enrolments_of calls (answers (after B a) calls)) (names_call B a)
    ∙ append_assoc (map named B.flows) (enrolments a (answer B a)) (enrolments_of calls (answers (after B a) calls))

pub units_add_up_lem : UnitsAddUp
units_add_up_lem N W calls =
    let B = closing (opened N W) calls in
    let kept = kept_closing N W (opened N W) calls (kept_opened N W) in
    record {
      units = λ i h.
          let which = only (get_or (identifiers B) i 0) in
          omega (arith, held_only B.flows i kept.apart h, held_closing which (opened N W) calls);
      total = omega (arith, held_every B.flows, held_closing every (opened N W) calls);
      flows = names_closing (opened N W) calls;
      kept = kept;
    }
