-- Additions to the slots of a row, one after another.
use Rattle.std.proofs.Common.{◌≡◌, ℕ, zero, suc, ◌+◌, ◌*◌, ◌^◌, ◌<◌, ◌≤◌, Bool, true, false, MatchBool, List, [], ◌∷◌, ◌++◌, length, get_or, take, Ok, Err, Result, sym, refl, ap, ◌∙◌, subst, mul-le-mul_right, add-mul, one-mul, arith, length-take}
use Rattle.std.specs.List.{AllWithin, HoldsAt}
use Rattle.std.proofs.lemmas.List.{length_push}
use Rattle.store.specs.Totals.{more, spread}
use Rattle.store.specs.Meaning.{Meaning, Live, Within, Adds, Added, Spread}

pub within_at : (N : ℕ) (row : List ℕ) → Within N row → (k : ℕ) → k < length row → get_or row k 0 < N
within_at N [] w k h = absurd (omega arith)
within_at N (slot ∷ row) w zero h = w.0
within_at N (slot ∷ row) w (suc k) h = within_at N row w.1 k (omega arith)

pub within_all : (N : ℕ) (row : List ℕ) → ((k : ℕ) → k < length row → get_or row k 0 < N) → Within N row
within_all N [] h = tt
within_all N (slot ∷ row) h = (h 0 (omega arith), within_all N row (λ k l. h (suc k) (omega arith)))

-- a test of each slot tells whether all of them are there
pub within_tested : (r : Bool) (N : ℕ) (row : List ℕ) → MatchBool r (AllWithin (λ x. x < N) row 0 (length row)) ((k : ℕ) × (k < length row) × HoldsAt (λ x. N ≤ x) row k)
    → MatchBool r (Within N row) (Within N row → ⊥)
within_tested true N row all = within_all N row (λ k h. all k 0 (omega arith) h)
within_tested false N row some = λ w. absurd (omega (arith, within_at N row w some.0 some.1, some.2 0))

spread_push : (T row : List ℕ) (slot n : ℕ) → spread T (row ++ slot ∷ []) n ≡ more (spread T row n) slot n
spread_push T [] slot n = refl
spread_push T (s ∷ row) slot n = spread_push (more T s n) row slot n

-- one more slot's share
pub times_more : (i n : ℕ) → (i + 1) * n ≡ i * n + n
times_more i n = add-mul i 1 n ∙ ap (λ k. i * n + k) (one-mul n)

module _ {S : Type 0} (m : Meaning S) where
  pub none_yet : (s : S) (n w : ℕ) → m.sound s → w ≡ m.weight s → Spread m s s [] n (Ok w)
  none_yet s n w sound is = record {
    answers = ap Ok (is ∙ none);
    slots = refl;
    weight = none;
    rounds = λ h. absurd (omega arith);
    sound = sound;
    admits = λ T a. a;
  }
    where
      none : m.weight s ≡ m.weight s + 0 * n
      none = omega arith

  pub one_more : (before mid after : S) (row : List ℕ) (slot n : ℕ) (answer : Result ℕ ℕ)
      → Spread m before mid row n (Ok (m.weight mid)) → Added m mid after slot n answer
      → Spread m before after (row ++ slot ∷ []) n (Ok (m.weight after))
  one_more before mid after row slot n answer so more-so =
      let weight : m.weight after ≡ m.weight before + length (row ++ slot ∷ []) * n =
      omega (arith, more-so.weight, so.weight, times_more (length row) n, ap (λ k. k * n) (length_push row slot)) in
      record {
        answers = ap Ok weight;
        slots = more-so.slots ∙ so.slots;
        weight = weight;
        rounds = λ h. more-so.rounds;
        sound = more-so.sound;
        admits = λ T a. subst (m.admits after) (sym (spread_push T row slot n)) (more-so.admits (spread T row n) (so.admits T a));
      }

  -- the next addition has room
  pub room : (before mid : S) (row : List ℕ) (i n : ℕ) (said : Result ℕ ℕ) → i < length row
      → Spread m before mid (take i row) n said → m.weight before + length row * n ≤ 2 ^ 40 → m.weight mid + n ≤ 2 ^ 40
  room before mid row i n said h so fits =
      let front : length (take i row) ≡ i = omega (arith, length-take i row) in
      omega (arith, so.weight, ap (λ k. k * n) front, times_more i n, mul-le-mul_right {m = i + 1} {n = length row} n (omega arith))

  pub still_live : (before mid : S) (row : List ℕ) (n : ℕ) (said : Result ℕ ℕ) → Live m before → Spread m before mid row n said → Live m mid
  still_live before mid row n said live so =
      record { sound = so.sound; totals = spread live.totals row n; admitted = so.admits live.totals live.admitted }

  -- the next addition has a slot and room, so it is accepted
  pub next_added : (before mid after : S) (row : List ℕ) (i n : ℕ) (answer : Result ℕ ℕ)
      → Live m before → Within (m.slots before) row → m.weight before + length row * n ≤ 2 ^ 40 → i < length row
      → Spread m before mid (take i row) n (Ok (m.weight mid)) → (Live m mid → Adds m mid after (get_or row i 0) n answer)
      → Added m mid after (get_or row i 0) n answer
  next_added before mid after row i n answer live all fits h so adds =
      (adds (still_live before mid (take i row) n _ live so)).added
      (omega (arith, so.slots, within_at _ row all i h)) (room before mid row i n _ h so fits)

-- a call that is owed an answer was not refused
pub no_refusal : {X E : Type 0} (why : E) (x : X) → ◌≡◌ {A = Result X E} (Err why) (Ok x) → ⊥
no_refusal why x is = let z : ◌≡◌ {A = ℕ} 0 1 = cc in omega arith
