-- One more claimant has sent its messages, and has its bound in a table.
use Rattle.std.proofs.Common.{◌≡◌, ℕ, ◌+◌, ◌<◌, ◌≤◌, Bool, true, false, ◌≢◌, List, [], ◌∷◌, map, length, get_or, set, sym, refl, ap, ◌∙◌, subst, arith, get_or-set_other, get_or-set_same, below_more}
use Rattle.std.proofs.lemmas.Bool.{both_ways}
use Rattle.rounds.specs.Rounds.{Claimant, row_of, floor_of, besides, filled, Uses, TakesPart, tightest}
use Rattle.rounds.proofs.Rows.{has_filled, filled_has, uses_inside}
use Rattle.rounds.specs.Laws.{Distinct}
use Rattle.decoder.specs.Decoding.{Absent, Tabled}
use Rattle.decoder.specs.Area.{to, but}
use Rattle.decoder.proofs.Gathering.{place, place_inside, to_place, three_at, but_none, but_besides}

long_filled : (row : List ℕ) → 0 < length row → filled row ≡ true
long_filled [] h = absurd (omega arith)
long_filled (a ∷ row) h = refl

short_filled : (row : List ℕ) → length row ≤ 0 → filled row ≡ false
short_filled [] h = refl
short_filled (a ∷ row) h = absurd (omega arith)

-- The first n claimants have sent their messages and have their bounds in a table, which is as before where nobody takes part.
pub record Said (cs : List Claimant) (message : ℕ → ℕ → ℕ) (bound : ℕ → ℕ) (msgs : List (List ℕ)) (before table : List ℕ) (n : ℕ) : Type 0 where
  pub mails : (j : ℕ) → j < n → (s : ℕ) → Uses cs j s → to s (row_of cs j) (get_or msgs j []) ≡ message j s
  pub told : (j : ℕ) → j < n → TakesPart cs j → get_or table j 0 ≡ bound j
  pub kept : (j : ℕ) → Absent cs j → get_or table j 0 ≡ get_or before j 0

module _ {cs : List Claimant} {message : ℕ → ℕ → ℕ} {bound : ℕ → ℕ} {msgs : List (List ℕ)} {before table : List ℕ} {n : ℕ}
    (done : Said cs message bound msgs before table n) where
  pub said_skip : Absent cs n → Said cs message bound msgs before table (n + 1)
  said_skip off = record {
    mails = below_more _ n done.mails (λ a on. absurd (both_ways _ off (has_filled a _ on)));
    told = below_more _ n done.told (λ on. absurd (both_ways _ off on));
    kept = done.kept;
  }

  pub said_more : (sent : List ℕ) (x : ℕ) → n < length msgs → n < length table → TakesPart cs n →
      ((s : ℕ) → Uses cs n s → to s (row_of cs n) sent ≡ message n s) → x ≡ bound n →
      Said cs message bound (set msgs n sent) before (set table n x) (n + 1)
  said_more sent x room room' part m e = record {
    mails = below_more _ n
        (λ j lt s on. ap (to s (row_of cs j)) (get_or-set_other msgs n j sent [] (omega arith)) ∙ done.mails j lt s on)
        (λ s on. ap (to s (row_of cs n)) (get_or-set_same msgs n sent [] room) ∙ m s on);
    told = below_more _ n
        (λ j lt on. get_or-set_other table n j x 0 (omega arith) ∙ done.told j lt on)
        (λ on. get_or-set_same table n x 0 room' ∙ e);
    kept = λ j off.
        let apart : j ≢ n = λ q. both_ways _ off (subst (λ k. TakesPart cs k) (sym q) part) in
        get_or-set_other table n j x 0 apart ∙ done.kept j off;
  }

  -- All have.
  module _ (all : length cs ≡ n) where
    pub said_mails : (j s : ℕ) → Uses cs j s → to s (row_of cs j) (get_or msgs j []) ≡ message j s
    said_mails j s on = done.mails j (omega (arith, uses_inside cs j s on)) s on

    pub said_bounds : Tabled cs bound before table
    said_bounds = record {
      told = λ j on.
          let r = filled_has (row_of cs j) on in
          done.told j (omega (arith, uses_inside cs j r.0 r.1)) on;
      kept = done.kept;
    }

-- A claimant with slots takes part, and one without does not.
module _ (cs : List Claimant) (i : ℕ) (row : List ℕ) (is : row ≡ row_of cs i) where
  pub part_of : 0 < length row → TakesPart cs i
  part_of some = subst (λ l. filled l ≡ true) is (long_filled row some)

  pub absent_of : length row ≤ 0 → Absent cs i
  absent_of none = subst (λ l. filled l ≡ false) is (short_filled row none)

  module _ (short : length row ≤ 3) where
    inside : (s : ℕ) → Uses cs i s → place s (row_of cs i) < 3
    inside s on = omega (arith, place_inside s (row_of cs i) on, ap length is)

    -- What it says in round 0.
    pub says_floor : (x : ℕ) → floor_of cs i ≡ x → (s : ℕ) → Uses cs i s → to s (row_of cs i) (x ∷ (x ∷ (x ∷ []))) ≡ floor_of cs i
    says_floor x e s on = to_place s (row_of cs i) _ on ∙ three_at (λ p. x) _ (inside s on) ∙ sym e

    -- What it says after the replies f to its slots, and its bound then.
    module _ (up : Bool) (f : ℕ → ℕ) (replies : List ℕ) (e : replies ≡ map f row) where
      all : replies ≡ map f (row_of cs i)
      all = e ∙ ap (map f) is

      pub says_others : Distinct row → (s : ℕ) → Uses cs i s →
          to s (row_of cs i) (tightest up (but 0 replies) ∷ (tightest up (but 1 replies) ∷ (tightest up (but 2 replies) ∷ [])))
          ≡ tightest up (map f (besides s (row_of cs i)))
      says_others apart s on =
          to_place s (row_of cs i) _ on ∙ three_at (λ p. tightest up (but p replies)) _ (inside s on)
          ∙ ap (λ l. tightest up (but (place s (row_of cs i)) l)) all
          ∙ ap (tightest up) (but_besides f s (row_of cs i) (subst Distinct is apart) on)

      pub bound_of : (n : ℕ) → length replies ≤ n → tightest up (but n replies) ≡ tightest up (map f (row_of cs i))
      bound_of n le = ap (tightest up) (but_none n replies le ∙ all)
