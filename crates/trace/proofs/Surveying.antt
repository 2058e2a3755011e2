-- A survey goes on while the reader gives records, and is done at its first other answer.
use Rattle.std.proofs.Common.{◌≡◌, ℕ, zero, suc, ◌+◌, ◌<◌, ◌≤◌, List, [], ◌∷◌, ◌++◌, length, take, Some, None, Option, Ok, Err, Result, unwrap_or, sym, refl, ap, ◌∙◌, subst, inl, inr, arith, length-append}
use Rattle.std.specs.List.{slice_get, flat_map}
use Rattle.std.specs.Option.{option_map}
use Rattle.std.proofs.lemmas.Grind.{flat_map-append}
use Rattle.std.proofs.lemmas.List.{take_all, take_more}
use Rattle.std.proofs.lemmas.Option.{slice_get_cases}
use Rattle.trace.specs.declared.fault.Fault.{Fault}
use Rattle.trace.specs.declared.record.Record.{Record}
use Rattle.trace.specs.declared.record.Record.TheVariants.{Enrol, Amount, Remark, End}
use Rattle.trace.specs.declared.survey.Counts.{Counts}
use Rattle.trace.specs.Layout.{Entry, enrol, amount, remark, Ending, end, unknown, short, trailing, nothing, Reading, lay_entry, ProperEntry, ProperEntries}
use Rattle.trace.specs.Answers.{Answer, entry, ended, fault, told_record, outcome, place, answer}
use Rattle.trace.specs.Survey.{Counted, told_outcome, Surveyed}
use Rattle.trace.proofs.Ways.{entry_some}

-- what is no record
abbrev pub Over : Answer → Type 0
Over (entry p e) = ⊥
Over (ended p) = Unit {0}
Over (fault n p) = Unit {0}

outcome_over : (o : Ending) (p : ℕ) → Over (outcome o p)
outcome_over end p = tt
outcome_over (unknown kind rest) p = tt
outcome_over (short kind rest) p = tt
outcome_over (trailing byte rest) p = tt
outcome_over nothing p = tt

told_over : (told : Result ℕ Fault) → Over (told_outcome told)
told_over (Ok at) = tt
told_over (Err why) = tt

proper_at : (es : List Entry) (k : ℕ) (e : Entry) → slice_get es k ≡ Some e → ProperEntries es → ProperEntry e
proper_at [] k e is proper = let z : ◌≡◌ {A = ℕ} 0 1 = cc in absurd (omega arith)
proper_at (d ∷ es) zero e is proper = let same : d ≡ e = cc in subst ProperEntry same proper.0
proper_at (d ∷ es) (suc k) e is proper = proper_at es k e is proper.1

module _ (R : Reading) (k : ℕ) where
  given : (x : Option Entry) → slice_get R.entries k ≡ x → answer R k ≡ unwrap_or (option_map (entry (place R k)) x) (outcome R.ending (place R k))
  given x is = ap (λ x. unwrap_or (option_map (entry (place R k)) x) (outcome R.ending (place R k))) is

  -- a record was given
  pub goes_on : (p : ℕ) (e : Entry) → ProperEntries R.entries → entry p e ≡ answer R k
      → (k < length R.entries) × ProperEntry e × (take (k + 1) R.entries ≡ take k R.entries ++ e ∷ []) × (place R k < place R (k + 1))
  goes_on p e proper is = elim (slice_get_cases R.entries k).1 [
    | inl (d, less, some, at) ↦
        let same : d ≡ e = cc (given (Some d) some) in
        let more : take (k + 1) R.entries ≡ take k R.entries ++ e ∷ [] = take_more R.entries k d less ∙ ap (λ x. take k R.entries ++ x ∷ []) (at ∙ same) in (
          less,
          proper_at R.entries k e (some ∙ ap Some same) proper,
          more,
          omega (arith, entry_some e, ap (λ es. length (flat_map lay_entry es)) more, ap length (flat_map-append lay_entry (take k R.entries) (e ∷ [])), length-append (flat_map lay_entry (take k R.entries)) (flat_map lay_entry (e ∷ [])), length-append (lay_entry e) []),
        )
    | inr (past, none) ↦ absurd (subst Over (sym (given None none) ∙ sym is) (outcome_over R.ending (place R k)))
  ]

  -- the records are over: there are no more than k, and the answer is the outcome
  pub past : (a : Answer) → Over a → a ≡ answer R k → (length R.entries ≤ k) × (a ≡ outcome R.ending (place R k))
  past a over is = elim (slice_get_cases R.entries k).1 [
    | inl (d, less, some, at) ↦ absurd (subst Over (is ∙ given (Some d) some) over)
    | inr (beyond, none) ↦ (beyond, is ∙ given None none)
  ]

  -- and all are counted
  pub is_over : (counts : Counts) (told : Result ℕ Fault) → told_outcome told ≡ answer R k → Counted (take k R.entries) counts
      → Surveyed R (record { counts = counts; outcome = told })
  is_over counts told is so =
      let done = past (told_outcome told) (told_over told) is in
      let all : take k R.entries ≡ R.entries = take_all k R.entries done.0 in
      let whole : take (length R.entries) R.entries ≡ R.entries = take_all (length R.entries) R.entries (omega arith) in
      record {
        counts = subst (λ es. Counted es counts) all so;
        ends = done.1 ∙ ap (λ es. outcome R.ending (length (flat_map lay_entry es))) (all ∙ sym whole);
      }

-- every record but the end is one of the trace
pub told_entry : (r : Record) → ((p : ℕ) → r ≡ End p → ⊥) → (p : ℕ) × ((e : Entry) × (told_record r ≡ entry p e))
told_entry (Enrol p id slots) ne = (p, (enrol id.now slots.now, refl))
told_entry (Amount p id units) ne = (p, (amount id.now units.now, refl))
told_entry (Remark p text) ne = (p, (remark text.now, refl))
told_entry (End p) ne = absurd (ne p refl)
