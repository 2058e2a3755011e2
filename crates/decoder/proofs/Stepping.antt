-- From one round to the next: the messages and bounds in memory are those of the definitions.
use Rattle.std.proofs.Common.{◌≡◌, ℕ, zero, suc, ◌%◌, ◌≤◌, Bool, true, false, cond, not, eqb, ◌≢◌, List, get_or, sym, refl, ap, ◌∙◌, subst, inl, inr, arith}
use Rattle.std.proofs.lemmas.Bool.{both_ways, cases_lt, not-true, not-false, eq-eqb, ne_eqb}
use Rattle.rounds.specs.declared.span.Span.{Span}
use Rattle.rounds.specs.Rounds.{Claimant, odd, estimate, Low, High}
use Rattle.rounds.proofs.Parity.{last_even_here, last_odd_here, last_even_stays, last_odd_stays}
use Rattle.decoder.specs.Decoding.{Absent, Tabled}
use Rattle.decoder.specs.Area.{Held}

-- After t rounds: the last messages stand in `odds` where t is odd and in `evens` where it is even, and the tables
-- have the bounds. lows₀ and highs₀ are the tables as they were at first.
pub record Standing (cs : List Claimant) (spans : ℕ → Span) (t : ℕ) (evens odds : List (List ℕ)) (lows₀ lows highs₀ highs : List ℕ) : Type 0 where
  pub held : Held cs spans t (cond (odd t) odds evens)
  pub low : Tabled cs (Low cs spans t) lows₀ lows
  pub high : 1 ≤ t → Tabled cs (High cs spans t) highs₀ highs
  pub high_untouched : t ≡ 0 → highs ≡ highs₀

not_not : (b : Bool) → not (not b) ≡ b
not_not true = refl
not_not false = refl

-- Code tells odd numbers by their remainder.
pub odd_rem : (t : ℕ) → eqb (t % 2) 0 ≡ not (odd t)
odd_rem zero = refl
odd_rem (suc zero) = refl
odd_rem (suc (suc t)) =
    let same : suc (suc t) % 2 ≡ t % 2 = omega arith in
    ap (λ r. eqb r 0) same ∙ odd_rem t ∙ ap not (sym (not_not (odd t)))

pub even_of : (t : ℕ) → t % 2 ≡ 0 → odd t ≡ false
even_of t e = not-true (odd t) (sym (odd_rem t) ∙ eq-eqb (t % 2) 0 e)

pub odd_of : (t : ℕ) → t % 2 ≢ 0 → odd t ≡ true
odd_of t d = not-false (odd t) (sym (odd_rem t) ∙ ne_eqb (t % 2) 0 d)

module _ {cs : List Claimant} {spans : ℕ → Span} {t : ℕ} {evens odds : List (List ℕ)} {lows₀ lows highs₀ highs : List ℕ}
    (st : Standing cs spans t evens odds lows₀ lows highs₀ highs) where
  highs_kept : (j : ℕ) → Absent cs j → get_or highs j 0 ≡ get_or highs₀ j 0
  highs_kept j off = elim (cases_lt 0 t) [
    | inl h ↦ (st.high h).kept j off
    | inr h ↦ ap (λ l. get_or l j 0) (st.high_untouched (omega arith))
  ]

  -- What an odd round reads, and what stands after it.
  module _ (even : odd t ≡ false) where
    pub evens_held : Held cs spans t evens
    evens_held = subst (λ b. Held cs spans t (cond b odds evens)) even st.held

    pub stepped_odd : (odds' : List (List ℕ)) (highs' : List ℕ) → Held cs spans (suc t) odds' → Tabled cs (estimate cs spans (suc t)) highs highs' →
        Standing cs spans (suc t) evens odds' lows₀ lows highs₀ highs'
    stepped_odd odds' highs' held bounds = record {
      held = subst (λ b. Held cs spans (suc t) (cond (not b) odds' evens)) (sym even) held;
      low = record {
        told = λ j on. st.low.told j on ∙ ap (λ n. estimate cs spans n j) (sym (last_even_stays t even));
        kept = st.low.kept;
      };
      high = λ _. record {
        told = λ j on. bounds.told j on ∙ ap (λ n. estimate cs spans n j) (sym (last_odd_here (suc t) (ap not even)));
        kept = λ j off. bounds.kept j off ∙ highs_kept j off;
      };
      high_untouched = λ h. absurd (omega arith);
    }

  -- The same of an even round.
  module _ (is_odd : odd t ≡ true) where
    pub odds_held : Held cs spans t odds
    odds_held = subst (λ b. Held cs spans t (cond b odds evens)) is_odd st.held

    some : 1 ≤ t
    some = elim (cases_lt 0 t) [
      | inl h ↦ h
      | inr h ↦ let none : t ≡ 0 = omega arith in absurd (both_ways _ (ap odd none) is_odd)
    ]

    pub stepped_even : (evens' : List (List ℕ)) (lows' : List ℕ) → Held cs spans (suc t) evens' → Tabled cs (estimate cs spans (suc t)) lows lows' →
        Standing cs spans (suc t) evens' odds lows₀ lows' highs₀ highs
    stepped_even evens' lows' held bounds = record {
      held = subst (λ b. Held cs spans (suc t) (cond (not b) odds evens')) (sym is_odd) held;
      low = record {
        told = λ j on. bounds.told j on ∙ ap (λ n. estimate cs spans n j) (sym (last_even_here (suc t) (ap not is_odd)));
        kept = λ j off. bounds.kept j off ∙ st.low.kept j off;
      };
      high = λ _. record {
        told = λ j on. (st.high some).told j on ∙ ap (λ n. estimate cs spans n j) (sym (last_odd_stays t is_odd));
        kept = (st.high some).kept;
      };
      high_untouched = λ h. absurd (omega arith);
    }
