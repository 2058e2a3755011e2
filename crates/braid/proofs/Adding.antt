-- Units added to a slot of a braid: what is carried into the store below, and that every list that
-- was admitted is admitted afterwards with the units in it.
use Rattle.std.proofs.Common.{◌≡◌, ℕ, ◌+◌, ◌*◌, ◌/◌, ◌%◌, ◌^◌, ◌<◌, ◌≤◌, true, eqb, leb, List, [], ◌∷◌, length, get_or, set, Ok, Result, sym, refl, ap, ◌∙◌, subst, inl, inr, arith}
use native.Mathlib.Nat.{mod-le}
use Rattle.std.proofs.lemmas.List.{get_or-set_same, get_or-set_other, set-get_or}
use Rattle.std.proofs.lemmas.Bool.{cases_eq, cases_lt, cond-true, cond-false, le-leb, lt-leb}
use Rattle.store.specs.Meaning.{Meaning, Laws, Live, Within, Added, Spread, Spreads}
use Rattle.store.specs.Totals.{total, more, spread}
use Rattle.store.specs.Sums.{slot_sums}
use Rattle.store.proofs.Lists.{total_more, length_more}
use Rattle.store.proofs.Rows.{row_distinct}
use Rattle.store.proofs.Sums.{sums_more, length_sums, total_spread}
use Rattle.braid.specs.declared.braid.Braid.{Braid}
use Rattle.braid.specs.declared.layer.Layer.{Layer}
use Rattle.braid.specs.BraidMeaning.{count, rows, row, part, raised, modulus, carried, BraidAdmits, BraidSound, braid_meaning}
use Rattle.braid.specs.Layers.{Room, carry, added}
use Rattle.braid.proofs.Depths.{modulus_least, quotient_more, remainder_more, raised_by_carry, raised_as_before}
use Rattle.braid.proofs.Rows.{sums_light}

more_here : (T : List ℕ) (i n k : ℕ) → i < length T → k ≡ i → get_or (more T i n) k 0 ≡ get_or T k 0 + n
more_here T i n k h e =
    ap (λ j. get_or (more T i n) j 0) e ∙ get_or-set_same T i (get_or T i 0 + n) 0 h ∙ ap (λ j. get_or T j 0 + n) (sym e)

more_there : (T : List ℕ) (i n k : ℕ) → (k ≡ i → ⊥) → get_or (more T i n) k 0 ≡ get_or T k 0
more_there T i n k d = get_or-set_other T i k (get_or T i 0 + n) 0 d

spread_none : (T row : List ℕ) → spread T row 0 ≡ T
spread_none T [] = refl
spread_none T (slot ∷ row) =
    ap (λ U. spread U row 0) (ap (λ v. set T slot v) (omega arith) ∙ set-get_or T slot 0) ∙ spread_none T row

module _ {S : Type 0} (m : Meaning S) (laws : Laws m) (s : Braid S) (i n : ℕ) (sound : BraidSound m s) (within : i < count s.layer)
    (fits : s.layer.weight + n ≤ 2 ^ 40) where
  some : 0 < modulus s.layer
  some = omega (arith, modulus_least s.layer.depth sound.shallow)

  row_fits : Within (m.slots s.below) (row s.layer i)
  row_fits = (sound.wired i within).1

  -- one list's own facts: the carry is what its quotient at the slot grows by
  module _ (T : List ℕ) (admits : BraidAdmits m s T) where
    long : i < length T
    long = omega (arith, admits.long)

    grows : carried m s.layer (more T i n) i ≡ carried m s.layer T i + carry s.layer i n
    grows =
        ap (λ x. x / modulus s.layer) (more_here T i n i long refl) ∙ quotient_more (modulus s.layer) (get_or T i 0) n some
        ∙ ap (λ r. carried m s.layer T i + (r + n) / modulus s.layer) (sym (admits.parts i within))

    -- the store below gets the carry in each slot of the row
    sums_after : slot_sums (m.slots s.below) (rows s.layer) (carried m s.layer (more T i n))
        ≡ spread (slot_sums (m.slots s.below) (rows s.layer) (carried m s.layer T)) (row s.layer i) (carry s.layer i n)
    sums_after =
        sums_more (m.slots s.below) (rows s.layer) (carried m s.layer T) (carried m s.layer (more T i n)) i (carry s.layer i n)
        within
        (row_distinct (row s.layer i) (sound.wired i within).0)
        row_fits
        grows
        (λ k d. ap (λ x. x / modulus s.layer) (more_there T i n k d))

    -- the store below has room for it: what it holds is at most three quarters of what the braid holds
    room_below : m.weight s.below + length (row s.layer i) * carry s.layer i n ≤ 2 ^ 40
    room_below =
        let N = m.slots s.below in
        let U = slot_sums N (rows s.layer) (carried m s.layer T) in
        let light = sums_light N (rows s.layer) (more T i n) (modulus s.layer) (modulus_least s.layer.depth sound.shallow)
        (length_more T i n ∙ admits.long)
        (λ k h. (sound.wired k h).0)
        (λ k h. (sound.wired k h).1) in
        let sum = total_spread U (row s.layer i) (carry s.layer i n)
        (subst (λ k. Within k (row s.layer i)) (sym (length_sums N (rows s.layer) (carried m s.layer T))) row_fits) in
        omega (arith, light, sum, ap total sums_after, total_more T i n long, admits.adds, laws.adds s.below sound.below U admits.below)

  -- how the store below comes out
  pub record Carried (b : S) : Type 0 where
    pub slots : m.slots b ≡ m.slots s.below
    pub keeps : m.sound b
    pub admits : (U : List ℕ) → m.admits s.below U → m.admits b (spread U (row s.layer i) (carry s.layer i n))

  pub none_carried : carry s.layer i n < 1 → Carried s.below
  none_carried q = record {
    slots = refl;
    keeps = sound.below;
    admits = λ U a.
        let none : carry s.layer i n ≡ 0 = omega arith in
        subst (m.admits s.below) (sym (ap (spread U (row s.layer i)) none ∙ spread_none U (row s.layer i))) a;
  }

  module _ (b : S) (below : Carried b) (room : Room s.layer) where
    abbrev after : Braid S
    after = record { below = b; layer = added s.layer i n }

    part_here : (k : ℕ) → k ≡ i → part (added s.layer i n) k ≡ (part s.layer k + n) % modulus s.layer
    part_here k e =
        ap (λ j. part (added s.layer i n) j) e
        ∙ get_or-set_same s.layer.parts i _ 0 (omega (arith, room.parts, sound.few)) ∙ ap (λ j. (part s.layer j + n) % modulus s.layer) (sym e)

    part_there : (k : ℕ) → (k ≡ i → ⊥) → part (added s.layer i n) k ≡ part s.layer k
    part_there k d = get_or-set_other s.layer.parts i k _ 0 d

    raised_there : (k : ℕ) → (k ≡ i → ⊥) → raised (added s.layer i n) k ≡ raised s.layer k
    raised_there k d = elim (cases_lt (carry s.layer i n) 1) [
      | inl none ↦ ap (λ bs. eqb (get_or bs k 0) 1) (cond-false _ (set s.layer.bits i 1) s.layer.bits (lt-leb 1 (carry s.layer i n) none))
      | inr one ↦ ap (λ bs. eqb (get_or bs k 0) 1) (cond-true _ (set s.layer.bits i 1) s.layer.bits (le-leb 1 (carry s.layer i n) one))
          ∙ ap (λ v. eqb v 1) (get_or-set_other s.layer.bits i k 1 0 d)
    ]

    raised_none : (k : ℕ) → carry s.layer i n < 1 → raised (added s.layer i n) k ≡ raised s.layer k
    raised_none k none = ap (λ bs. eqb (get_or bs k 0) 1) (cond-false _ (set s.layer.bits i 1) s.layer.bits (lt-leb 1 (carry s.layer i n) none))

    raised_here : (k : ℕ) → k ≡ i → 1 ≤ carry s.layer i n → raised (added s.layer i n) k ≡ true
    raised_here k e one =
        ap (λ bs. eqb (get_or bs k 0) 1) (cond-true _ (set s.layer.bits i 1) s.layer.bits (le-leb 1 (carry s.layer i n) one))
        ∙ ap (λ j. eqb (get_or (set s.layer.bits i 1) j 0) 1) e
        ∙ ap (λ v. eqb v 1) (get_or-set_same s.layer.bits i 1 0 (omega (arith, room.bits, sound.few)))

    after_admits : (T : List ℕ) → BraidAdmits m s T → BraidAdmits m after (more T i n)
    after_admits T admits =
        let M = modulus s.layer in
        let is-part : part s.layer i ≡ get_or T i 0 % M = admits.parts i within in
        record {
          long = length_more T i n ∙ admits.long;
          adds = total_more T i n (long T admits) ∙ ap (λ w. w + n) admits.adds;
          parts = λ k h. elim (cases_eq k i) [
            | inl e ↦ part_here k e ∙ ap (λ r. (r + n) % M) (admits.parts k h) ∙ remainder_more M (get_or T k 0) n some
                ∙ ap (λ x. x % M) (sym (more_here T i n k (long T admits) e))
            | inr d ↦ part_there k d ∙ admits.parts k h ∙ ap (λ x. x % M) (sym (more_there T i n k d))
          ];
          bits = λ k h. elim (cases_eq k i) [
            | inl e ↦ elim (cases_lt (carry s.layer i n) 1) [
              | inl none ↦ raised_none k none ∙ admits.bits k h
                  ∙ sym (raised_as_before M (get_or T k 0) n some (subst (λ j. (get_or T j 0 % M + n) / M < 1) (sym e) (subst (λ r. (r + n) / M < 1) is-part none)))
                  ∙ ap (leb M) (sym (more_here T i n k (long T admits) e))
              | inr one ↦ raised_here k e one
                  ∙ sym (raised_by_carry M (get_or T k 0) n some (subst (λ j. 1 ≤ (get_or T j 0 % M + n) / M) (sym e) (subst (λ r. 1 ≤ (r + n) / M) is-part one)))
                  ∙ ap (leb M) (sym (more_here T i n k (long T admits) e))
            ]
            | inr d ↦ raised_there k d ∙ admits.bits k h ∙ ap (leb M) (sym (more_there T i n k d))
          ];
          below = subst (λ N. m.admits b (slot_sums N (rows s.layer) (carried m s.layer (more T i n)))) (sym below.slots)
              (subst (m.admits b) (sym (sums_after T admits)) (below.admits _ admits.below));
        }

    after_sound : BraidSound m after
    after_sound = record {
      below = below.keeps;
      few = sound.few;
      shallow = sound.shallow;
      deep = sound.deep;
      light = fits;
      parts = λ k h. elim (cases_eq k i) [
        | inl e ↦ omega (arith, part_here k e, mod-le (part s.layer k + n) (modulus s.layer), sound.parts k h)
        | inr d ↦ omega (arith, part_there k d, sound.parts k h)
      ];
      wired = λ k h. ((sound.wired k h).0, subst (λ N. Within N (row s.layer k)) (sym below.slots) (sound.wired k h).1);
      lows = λ T a h. absurd (omega arith);
      highs = λ T a h. absurd (omega arith);
    }

  -- what adding the carry to the row answered and left, said of the carry and the row themselves
  pub handed : (live : Live (braid_meaning m) s) (b : S) (r : List ℕ) (q : ℕ) (answer : Result ℕ ℕ) → r ≡ row s.layer i → q ≡ carry s.layer i n
      → (Live m s.below → Spreads m s.below b r q answer) → Spread m s.below b (row s.layer i) (carry s.layer i n) answer
  handed live b r q answer r-is q-is spreads =
      let below : Live m s.below = record { sound = sound.below; totals = _; admitted = live.admitted.below } in
      let said : Spreads m s.below b (row s.layer i) (carry s.layer i n) answer =
      subst (λ x. Spreads m s.below b (row s.layer i) x answer) q-is (subst (λ x. Spreads m s.below b x q answer) r-is (spreads below)) in
      said.added row_fits (room_below live.totals live.admitted)

  pub some_carried : (b : S) (answer : Result ℕ ℕ) → Spread m s.below b (row s.layer i) (carry s.layer i n) answer → Carried b
  some_carried b answer said = record { slots = said.slots; keeps = said.sound; admits = said.admits }

  pub added_whole : (b : S) (l : Layer) → Carried b → Room s.layer → l ≡ added s.layer i n
      → Added (braid_meaning m) s (record { below = b; layer = l }) i n (Ok l.weight)
  added_whole b l below room is =
      subst (λ (x : Layer). Added (braid_meaning m) s (record { below = b; layer = x }) i n (Ok x.weight)) (sym is) (record {
        answers = refl;
        slots = refl;
        weight = refl;
        rounds = refl;
        sound = after_sound b below room;
        admits = after_admits b below room;
      })
