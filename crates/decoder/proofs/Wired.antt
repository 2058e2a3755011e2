-- What the rounds take from the types of their inputs: rows of three slots that rise, and small floors and spans.
use Rattle.std.proofs.Common.{◌≡◌, ℕ, zero, suc, ◌^◌, ◌<◌, ◌≤◌, Bool, true, false, eqb, ltb, List, [], ◌∷◌, map, length, get_or, is_some, Some, None, Option, sym, refl, ap, ◌∙◌, arith}
use Rattle.std.proofs.lemmas.Bool.{and_parts, both_ways, eqb-true, ltb-true, ne_eqb, or_from}
use Rattle.std.proofs.lemmas.List.{get_or-map, length-map}
use Rattle.wiring.specs.Rising.{rising}
use Rattle.rounds.specs.Rounds.{Claimant, nobody, row_of, floor_of, has, besides, edge, odd, message}
use Rattle.rounds.specs.Laws.{Distinct}
use Rattle.rounds.proofs.Tightest.{tightest_most}
use Rattle.decoder.specs.declared.claims.Claim.{Claim}
use Rattle.decoder.specs.declared.claims.Claims.{Claims}
use Rattle.decoder.specs.declared.spans.Ends.{Ends}
use Rattle.decoder.specs.declared.spans.Spans.{Spans}
use Rattle.decoder.specs.Limits.{slots_in, rises}
use Rattle.decoder.specs.Inputs.{claimant_of, claimants, span_of, spans_in, span_at}

-- What holds of every entry holds of every claimant, and of nobody.

at_floor : (xs : List Claim) (i : ℕ) → floor_of (map claimant_of xs) i ≤ 2 ^ 40
at_floor [] i = omega arith
at_floor (x ∷ xs) zero = x.small
at_floor (x ∷ xs) (suc i) = at_floor xs i

at_low : (xs : List Ends) (s : ℕ) → (get_or (map span_of xs) s (record { low = 0; high = 0 })).low ≤ 2 ^ 40
at_low [] s = omega arith
at_low (x ∷ xs) zero = x.low_small
at_low (x ∷ xs) (suc s) = at_low xs s

at_high : (xs : List Ends) (s : ℕ) → (get_or (map span_of xs) s (record { low = 0; high = 0 })).high ≤ 2 ^ 40
at_high [] s = omega arith
at_high (x ∷ xs) zero = x.high_small
at_high (x ∷ xs) (suc s) = at_high xs s

module _ (claims : Claims) where
  floors_small : (i : ℕ) → floor_of (claimants claims) i ≤ 2 ^ 40
  unfolding claimants
  floors_small = at_floor claims.entries.items

  pub claims_many : (xs : List Claim) (n : ℕ) → xs ≡ claims.entries.items → length xs ≤ n → n ≤ length xs → length (claimants claims) ≡ n
  unfolding claimants
  claims_many xs n same le ge = omega (arith, ap length same, length-map claims.entries.items claimant_of)

  -- The entry x that is read at i is claimant i.
  module _ (xs : List Claim) (i : ℕ) (x : Claim) (same : xs ≡ claims.entries.items) (lt : i < length xs) (is : x ≡ get_or xs i x) where
    claim_is : get_or (claimants claims) i nobody ≡ claimant_of x
    unfolding claimants
    claim_is = rw (← same) (get_or-map claimant_of xs i x nobody lt ∙ ap claimant_of (sym is))

    pub row_is : row_of (claimants claims) i ≡ slots_in x.row
    row_is = ap (λ (c : Claimant). c.row) claim_is

    pub floor_is : floor_of (claimants claims) i ≡ x.floor
    floor_is = ap (λ (c : Claimant). c.floor) claim_is

edges_small : (spans : Spans) (up : Bool) (s : ℕ) → edge up (span_at spans s) ≤ 2 ^ 40
unfolding spans_in
edges_small spans true s = at_high spans.entries.items s
edges_small spans false s = at_low spans.entries.items s

-- So no message is so large that a sum of them could wrap.
pub message_small : (claims : Claims) (spans : Spans) (t i s : ℕ) → message (claimants claims) (span_at spans) t i s ≤ 2 ^ 40
message_small claims spans zero i s = floors_small claims i
message_small claims spans (suc t) i s = tightest_most (odd (suc t)) _ (2 ^ 40) (besides s (row_of (claimants claims) i))
    (λ a _. omega (arith, floors_small claims i, edges_small spans (odd (suc t)) a))

-- Slots that rise are apart, and a row has three at most: the one place that knows how rows are made.

above : (a b : ℕ) (row : List ℕ) → a < b → rising (b ∷ row) ≡ true → has a (b ∷ row) ≡ false
above a b [] lt r = or_from (eqb a b) false (ne_eqb a b (omega arith)) refl
above a b (c ∷ row) lt r =
    let p = and_parts (ltb b c) (rising (c ∷ row)) r in
    or_from (eqb a b) (has a (c ∷ row)) (ne_eqb a b (omega arith)) (above a c row (omega (arith, ltb-true b c p.0)) p.1)

rising_distinct : (row : List ℕ) → rising row ≡ true → Distinct row
rising_distinct [] r = tt
rising_distinct (a ∷ []) r = (refl, tt)
rising_distinct (a ∷ (b ∷ row)) r =
    let p = and_parts (ltb a b) (rising (b ∷ row)) r in
    (above a b row (ltb-true a b p.0) p.1, rising_distinct (b ∷ row) p.1)

pub row_distinct : (row : Option (List ℕ)) → rises row ≡ true → Distinct (slots_in row)
row_distinct None r = tt
row_distinct (Some row) r = rising_distinct row (and_parts (eqb (length row) 3) (rising row) r).1

-- A claimant has slots just if it has a row.
pub row_some : (row : Option (List ℕ)) → rises row ≡ true → is_some row ≡ true → 0 < length (slots_in row)
row_some None r s = absurd (both_ways false refl s)
row_some (Some row) r s = omega (arith, eqb-true (length row) 3 (and_parts (eqb (length row) 3) (rising row) r).0)

pub row_none : (row : Option (List ℕ)) → is_some row ≡ false → length (slots_in row) ≤ 0
row_none None n = omega arith
row_none (Some row) n = absurd (both_ways true n refl)
