-- What the claimants have sent to a slot, added up claimant by claimant.
use Rattle.std.proofs.Common.{◌≡◌, ℕ, ◌+◌, ◌^◌, ◌<◌, ◌≤◌, cond, eqb, ◌≢◌, List, [], length, get_or, sym, arith}
use Rattle.std.proofs.lemmas.Bool.{cond_both, cond-true, cond-false, eq-eqb, ne_eqb}
use Rattle.rounds.specs.Rounds.{row_of, has, share, sum, message}
use Rattle.rounds.proofs.Sums.{sum_more}
use Rattle.decoder.specs.declared.claims.Claim.{Claim}
use Rattle.decoder.specs.declared.claims.Claims.{Claims}
use Rattle.decoder.specs.declared.spans.Spans.{Spans}
use Rattle.decoder.specs.Limits.{slots_in}
use Rattle.decoder.specs.Inputs.{claimants, span_at}
use Rattle.decoder.specs.Area.{to, Held}
use Rattle.decoder.proofs.Messages.{to_absent}
use Rattle.decoder.proofs.Wired.{message_small, row_is}

-- The messages of round t to slot s.
module _ (claims : Claims) (spans : Spans) (t s : ℕ) where
  abbrev pub shared : ℕ → ℕ
  shared j = share (claimants claims) (λ k. message (claimants claims) (span_at spans) t k s) s j

  -- those of the first n claimants other than i
  abbrev pub sum_to : ℕ → ℕ → ℕ
  sum_to i n = sum n (λ j. cond (eqb j i) 0 (shared j))

  pub shared_small : (j : ℕ) → shared j ≤ 2 ^ 40
  shared_small j = cond_both (has s (row_of (claimants claims) j)) _ 0 (λ v. v ≤ 2 ^ 40)
      (λ _. message_small claims spans t j s) (λ _. omega arith)

  -- What the entry x at j has sent is read in an area that holds the messages.
  pub sent_shared : (msgs : List (List ℕ)) → Held (claimants claims) (span_at spans) t msgs →
      (xs : List Claim) (j : ℕ) (x : Claim) → xs ≡ claims.entries.items → j < length xs → x ≡ get_or xs j x →
      to s (slots_in x.row) (get_or msgs j []) ≡ shared j
  sent_shared msgs held xs j x same lt is =
      let row = row_of (claimants claims) j in
      rw (← row_is claims xs j x same lt is)
      (sym (cond_both (has s row) _ 0 (λ v. v ≡ to s row (get_or msgs j []))
      (λ on. sym (held j s on)) (λ off. sym (to_absent s row (get_or msgs j []) off))))

  -- One more turn of the loop that adds them up.
  pub sum_skip : (i j : ℕ) → j ≡ i → sum_to i (j + 1) ≡ sum_to i j
  sum_skip i j e = omega (arith, sum_more j (λ k. cond (eqb k i) 0 (shared k)), cond-true (eqb j i) 0 (shared j) (eq-eqb j i e))

  pub sum_take : (i j : ℕ) → j ≢ i → sum_to i (j + 1) ≡ sum_to i j + shared j
  sum_take i j d = omega (arith, sum_more j (λ k. cond (eqb k i) 0 (shared k)), cond-false (eqb j i) 0 (shared j) (ne_eqb j i d))
