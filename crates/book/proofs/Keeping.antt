-- How every call leaves the flows: on rows of the store, under identifiers of their own, and no heavier than the ceiling.
use Rattle.std.proofs.Common.{◌≡◌, ℕ, ◌<◌, true, cond, List, [], ◌∷◌, ◌++◌, map, length, get_or, sym, refl, ap, ◌∙◌, subst, inl, inr, arith}
use lib.ListN.{length-map}
use Rattle.std.proofs.lemmas.List.{get_or_append_left, get_or_push, length_push, map_push}
use Rattle.std.proofs.lemmas.Bool.{cases_lt, cond_both}
use Rattle.rounds.specs.Laws.{Distinct}
use Rattle.store.specs.Meaning.{Within}
use Rattle.trace.specs.Big.{big}
use Rattle.trace.specs.Layout.{Entry, enrol, amount, remark}
use Rattle.wiring.specs.Rising.{is_row}
use Rattle.book.specs.Reading.{reading}
use Rattle.book.specs.Book.{Asked, to_enrol, to_record, to_replay, Flow, Book, identifier_of, row_of, identifiers, opened, place}
use Rattle.book.specs.Book.{accepted, with_flows, grown, grown_there, words, after_enrol, after_record, takes, after_entry}
use Rattle.book.specs.Book.{after_entries, after, closing}
use Rattle.book.specs.Runs.{Kept}
use Rattle.book.proofs.Flows.{new_flow, fits_within, grown_identifiers, grown_rows, grown_length, grown_weight, push_weight}
use Rattle.book.proofs.Flows.{known_has, place_some, distinct_push}
use Rattle.book.proofs.Says.{Enrols, enrol_either, Records, record_either}

module _ (N W : ℕ) where
  pub kept_opened : Kept N W (opened N W)
  kept_opened = record {
    beneath = refl;
    burden = refl;
    few = omega arith;
    unloaded = λ heavy. refl;
    apart = tt;
    wired = λ i h. absurd (omega arith);
    within = λ i h. absurd (omega arith);
    light = λ h. omega arith;
  }

  -- what holds of each row holds with one row more
  rows_push : (P : List ℕ → Type 0) (flows : List Flow) (id : ℕ) (slots : List ℕ) → P slots
      → ((i : ℕ) → i < length flows → P (get_or (map row_of flows) i []))
      → (i : ℕ) → i < length (flows ++ new_flow id slots ∷ []) → P (get_or (map row_of (flows ++ new_flow id slots ∷ [])) i [])
  rows_push P flows id slots new old i h =
      let rs = map row_of flows in
      let many = length-map flows row_of in
      let last = map_push row_of flows (new_flow id slots) in
      elim (cases_lt i (length flows)) [
        | inl before ↦ subst P (sym (at last ∙ get_or_append_left rs (slots ∷ []) [] i (omega arith))) (old i before)
        | inr here ↦
            let is : length rs ≡ i = omega (arith, length_push flows (new_flow id slots)) in
            subst P (sym (at last ∙ get_or_push rs slots [] i is)) new
      ]
    where
      at : {l k : List (List ℕ)} → l ≡ k → get_or l i [] ≡ get_or k i []
      at e = ap (λ (l : List (List ℕ)). get_or l i []) e

  kept_push : (B : Book) (id : ℕ) (slots : List ℕ) → Kept N W B → Enrols B id slots
      → Kept N W (with_flows B (B.flows ++ new_flow id slots ∷ []))
  kept_push B id slots k e = record {
    beneath = k.beneath;
    burden = k.burden;
    few = omega (arith, length_push B.flows (new_flow id slots), e.few);
    unloaded = λ heavy. absurd (omega (arith, e.empty, k.burden));
    apart = subst Distinct (sym (map_push identifier_of B.flows (new_flow id slots)))
        (distinct_push (identifiers B) id k.apart (sym (known_has id B.flows) ∙ e.new));
    wired = rows_push (λ row. is_row row ≡ true) B.flows id slots e.row k.wired;
    within = rows_push (λ row. Within N row) B.flows id slots
        (subst (λ n. Within n slots) k.beneath (fits_within B.beneath slots e.there)) k.within;
    light = λ h. omega (arith, push_weight B.flows id slots, k.light h);
  }

  pub kept_enrol : (B : Book) (id : ℕ) (slots : List ℕ) → Kept N W B → Kept N W (after_enrol B id slots)
  kept_enrol B id slots k = enrol_either B id slots
      (λ said. Kept N W (cond (accepted said) (with_flows B (B.flows ++ new_flow id slots ∷ [])) B))
      (kept_push B id slots k) (λ why. k)

  kept_grown : (B : Book) (id n i : ℕ) → Kept N W B → Records B id n i → Kept N W (with_flows B (grown B.flows i n))
  kept_grown B id n i k r =
      let at = place_some id B.flows i r.at in
      let long = grown_length B.flows i n in
      let same = grown_rows B.flows i n in
      record {
        beneath = k.beneath;
        burden = k.burden;
        few = omega (arith, long, k.few);
        unloaded = λ heavy. ap (λ flows. grown flows i n) (k.unloaded heavy);
        apart = subst Distinct (sym (grown_identifiers B.flows i n)) k.apart;
        wired = λ j h. subst (λ rs. is_row (get_or rs j []) ≡ true) (sym same) (k.wired j (omega arith));
        within = λ j h. subst (λ rs. Within N (get_or rs j [])) (sym same) (k.within j (omega arith));
        light = λ h. omega (arith, grown_weight B.flows i n at.0, r.light, k.burden);
      }

  pub kept_record : (B : Book) (id n : ℕ) → Kept N W B → Kept N W (after_record B id n)
  kept_record B id n k = record_either B id n
      (λ said. Kept N W (cond (accepted said) (with_flows B (grown_there B.flows (place id B.flows) n)) B))
      (λ i r. subst (λ p. Kept N W (with_flows B (grown_there B.flows p n))) (sym r.at) (kept_grown B id n i k r))
      (λ why. k)

  pub kept_entry : (B : Book) (e : Entry) → Kept N W B → Kept N W (after_entry B e)
  kept_entry B (enrol id slots) k = kept_enrol B (big id) (words slots) k
  kept_entry B (amount id n) k = kept_record B (big id) (big n) k
  kept_entry B (remark text) k = k

  kept_entries : (B : Book) (es : List Entry) → Kept N W B → Kept N W (after_entries B es)
  kept_entries B [] k = k
  kept_entries B (e ∷ es) k =
      cond_both (takes B e) _ _ (Kept N W) (λ _. kept_entries (after_entry B e) es (kept_entry B e k)) (λ _. k)

  pub kept_call : (B : Book) (a : Asked) → Kept N W B → Kept N W (after B a)
  kept_call B (to_enrol id slots) k = kept_enrol B id slots k
  kept_call B (to_record id n) k = kept_record B id n k
  kept_call B (to_replay bytes) k = kept_entries B (reading bytes).entries k

  pub kept_closing : (B : Book) (calls : List Asked) → Kept N W B → Kept N W (closing B calls)
  kept_closing B [] k = k
  kept_closing B (a ∷ calls) k = kept_closing (after B a) calls (kept_call B a k)
