-- A list of calls, one call more at a time.
use Rattle.std.proofs.Common.{◌≡◌, ℕ, ◌+◌, ◌<◌, ◌≤◌, List, [], ◌∷◌, ◌++◌, map, length, get_or, take, set, Result, sym, refl, ap, ◌∙◌, subst, arith}
use Rattle.std.proofs.lemmas.List.{get_or-take, nil_from_length, take_more, take_more_set, map_push}
use Rattle.store.specs.Meaning.{Meaning, Fresh}
use Rattle.braid.specs.declared.braid.Braid.{Braid}
use Rattle.braid.specs.declared.layer.Layer.{Layer}
use Rattle.braid.specs.BraidMeaning as counters
use Rattle.braid.specs.Layers.{blank}
use Rattle.ledger.specs.declared.calls.Call.{Call}
use Rattle.ledger.specs.declared.calls.Done.{Done}
use Rattle.ledger.specs.declared.calls.Denial.{Denial}
use Rattle.ledger.specs.Calls.{asked, told}
use Rattle.ledger.specs.Ledger.{Asked, Ledger, opened, answer, after, answers, closing}
use Rattle.ledger.specs.Promise.{Stands, Worked, Serves}
use Rattle.ledger.proofs.Working.{worked_more}

pub answers_push : (L : Ledger) (calls : List Asked) (a : Asked) → answers L (calls ++ a ∷ []) ≡ answers L calls ++ answer (closing L calls) a ∷ []
answers_push L [] a = refl
answers_push L (c ∷ calls) a = ap (λ l. answer L c ∷ l) (answers_push (after L c) calls a)

pub closing_push : (L : Ledger) (calls : List Asked) (a : Asked) → closing L (calls ++ a ∷ []) ≡ after (closing L calls) a
closing_push L [] a = refl
closing_push L (c ∷ calls) a = closing_push (after L c) calls a

-- a braid as it is made over a fresh store stands for the ledger before any call
pub stands_first : {S : Type 0} (m : Meaning S) (depth : ℕ) (below : S) (s : Braid S) → s.below ≡ below → s.layer ≡ blank depth
    → Fresh (counters.braid_meaning m) s → Stands m depth (opened (m.slots below)) s
stands_first m depth below s is layer fresh = record {
  sound = fresh.live.sound;
  admits = subst (counters.BraidAdmits m s) (nil_from_length fresh.live.totals (fresh.live.admitted.long ∙ ap (λ (l : Layer). counters.count l) layer)) fresh.live.admitted;
  rows = ap (λ (l : Layer). counters.rows l) layer;
  depth_is = ap (λ (l : Layer). l.depth) layer;
  beneath = ap m.slots is;
  rounds = ap (λ (l : Layer). l.rounds) layer;
}

-- so far: i calls were answered as the ledger answers them, and the braid stands for the ledger after them
pub record SoFar {S : Type 0} (m : Meaning S) (depth : ℕ) (L : Ledger) (area : ℕ) (calls : List Call) (said : List (Result Done Denial)) (i : ℕ) (s : Braid S) (work mid : List ℕ) : Type 0 where
  pub answers : map told (take i said) ≡ answers L (map (asked area) (take i calls))
  pub stands : Stands m depth (closing L (map (asked area) (take i calls))) s
  pub worked : Worked (map told (take i said)) work mid

-- the call at i, of the first n
pub one_more : {S : Type 0} (m : Meaning S) (depth : ℕ) (L : Ledger) (area : ℕ) (calls : List Call) (said : List (Result Done Denial)) (n i : ℕ) (d : Call) (r : Result Done Denial)
    (s t : Braid S) (work mid left : List ℕ) → i < n → n ≤ length calls → n ≤ length said → length mid ≡ area
    → SoFar m depth L area calls said i s work mid
    → Serves m s (asked (length mid) (get_or (take n calls) i d)) (told r) t mid left
    → SoFar m depth L area calls (set said i r) (i + 1) t work left
one_more m depth L area calls said n i d r s t work mid left in_n in_calls in_said same so step =
    let call = asked area (get_or calls i d) in
    let before = map (asked area) (take i calls) in
    let here : asked (length mid) (get_or (take n calls) i d) ≡ call = λ k. asked (same k) (get_or-take n calls i d in_n k) in
    let served = subst (λ a. Serves m s a (told r) t mid left) here step depth (closing L before) so.stands in
    let next : map (asked area) (take (i + 1) calls) ≡ before ++ call ∷ [] =
    ap (map (asked area)) (take_more calls i d (omega arith)) ∙ map_push (asked area) (take i calls) (get_or calls i d) in
    let told_next : map told (take (i + 1) (set said i r)) ≡ map told (take i said) ++ told r ∷ [] =
    ap (map told) (take_more_set said i r (omega arith)) ∙ map_push told (take i said) r in
    record {
      answers = told_next ∙ (λ j. so.answers j ++ served.answers j ∷ []) ∙ sym (answers_push L before call) ∙ ap (answers L) (sym next);
      stands = subst (λ K. Stands m depth K t) (sym (ap (closing L) next ∙ closing_push L before call)) served.stands;
      worked = subst (λ l. Worked l work left) (sym told_next) (worked_more (map told (take i said)) (told r) work mid left so.worked served.worked);
    }
