-- Settling a braid: the store below is settled, the decoder has run, and what it left in the tables is
-- what the rounds give over the spans below.
use Rattle.std.proofs.Common.{◌≡◌, ℕ, ◌<◌, ◌≤◌, true, List, length, get_or, Ok, Result, sym, refl, ap, ◌∙◌, subst, inl, inr, arith}
use Rattle.std.proofs.lemmas.Bool.{le-ltb, cases_lt}
use Rattle.decoder.specs.Decoding.{Decoded, answer}
use Rattle.rounds.specs.declared.span.Span.{Span}
use Rattle.rounds.specs.Rounds.{Claimant, Uses, TakesPart, Low, High}
use Rattle.rounds.proofs.Same.{low_same, high_same}
use Rattle.store.specs.Meaning.{Meaning, Laws, Live, Within, Settled, Settles}
use Rattle.store.specs.Sums.{listed, slot_sums}
use Rattle.store.proofs.Spreading.{within_at, within_all, no_refusal}
use Rattle.store.proofs.Sums.{get_or_listed}
use Rattle.braid.specs.declared.braid.Braid.{Braid}
use Rattle.braid.specs.declared.layer.Layer.{Layer}
use Rattle.braid.specs.BraidMeaning.{count, rows, row, raised, carried, claimants, slot_span, BraidSound, braid_meaning}
use Rattle.braid.specs.BraidLaws.{raised_takes, uses_within}
use Rattle.braid.specs.Layers.{Claimable}

-- an accepted settling below means that rounds and work area were as they must be
pub not_many : {S : Type 0} (m : Meaning S) (s b : S) (R k : ℕ) (work left : List ℕ) → Settles m s b R work left (Ok k) → 2048 < R → ⊥
not_many m s b R k work left said h = no_refusal 3 k (sym (said.many h).0)

pub not_short : {S : Type 0} (m : Meaning S) (s b : S) (R k : ℕ) (work left : List ℕ) → Settles m s b R work left (Ok k) → R ≤ 2048 → length work < 7168 → ⊥
not_short m s b R k work left said h l = no_refusal 4 k (sym (said.short h l).0)

pub settled_since : {S : Type 0} (m : Meaning S) (s b : S) (R k : ℕ) (work left : List ℕ) → Settles m s b R work left (Ok k) → Settled m s b R work left (Ok k)
settled_since m s b R k work left said = elim (cases_lt 2048 R) [
  | inl many ↦ absurd (not_many m s b R k work left said many)
  | inr few ↦ elim (cases_lt (length work) 7168) [
    | inl short ↦ absurd (not_short m s b R k work left said few short)
    | inr long ↦ said.settled few long
  ]
]

module _ {S : Type 0} (m : Meaning S) (laws : Laws m) (s : Braid S) (live : Live (braid_meaning m) s) where
  pub live_below : Live m s.below
  live_below = record { sound = live.sound.below; totals = _; admitted = live.admitted.below }

  pub claimable : Claimable s.layer
  claimable i h = within_all 1024 (row s.layer i)
      (λ k l. omega (arith, within_at _ (row s.layer i) (live.sound.wired i h).1 k l, laws.few s.below live.sound.below))

  module _ (b : S) (R : ℕ) (work left : List ℕ) (said : Result ℕ ℕ) (done : Settled m s.below b R work left said) where
    pub live_after : Live m b
    live_after = record { sound = done.sound; totals = live_below.totals; admitted = done.admits _ live_below.admitted }

    module _ (given : List Claimant) (known : List Span) (lows highs end : List ℕ) (claims : given ≡ claimants s.layer)
        (spans : known ≡ listed (m.slots b) (m.spans b (m.rounds b)))
        (decoded : Decoded given (λ k. get_or known k (record { low = 0; high = 0 })) R left end s.layer.lows lows s.layer.highs highs) where
      abbrev settled_layer : Layer
      settled_layer = record {
        parts = s.layer.parts;
        bits = s.layer.bits;
        lows = lows;
        highs = highs;
        rows = s.layer.rows;
        weight = s.layer.weight;
        rounds = R;
        depth = s.layer.depth;
      }

      abbrev after : Braid S
      after = record { below = b; layer = settled_layer }

      -- the decoder saw the spans below at the same rounds, at every slot that a claimant uses
      seen : (i k : ℕ) → Uses (claimants s.layer) i k → get_or known k (record { low = 0; high = 0 }) ≡ m.spans b R k
      seen i k uses =
          let inside : k < m.slots b = omega (arith, uses_within s.layer (m.slots s.below) live.sound.wired i k uses, done.slots) in
          ap (λ l. get_or l k (record { low = 0; high = 0 })) spans ∙ get_or_listed (m.slots b) (m.spans b (m.rounds b)) k _ inside
          ∙ ap (λ Q. m.spans b Q k) done.rounds

      took : (i : ℕ) → i < count s.layer → raised s.layer i ≡ true → TakesPart given i
      took i h up = subst (λ cs. TakesPart cs i) (sym claims) (raised_takes s.layer (m.slots s.below) live.sound.wired i h up)

      after_sound : BraidSound m after
      after_sound = record {
        below = done.sound;
        few = live.sound.few;
        shallow = live.sound.shallow;
        deep = live.sound.deep;
        light = live.sound.light;
        parts = live.sound.parts;
        wired = λ i h. ((live.sound.wired i h).0, subst (λ N. Within N (row s.layer i)) (sym done.slots) (live.sound.wired i h).1);
        lows = λ T a some i h up.
            decoded.low.told i (took i h up) ∙ ap (λ cs. Low cs (λ k. get_or known k (record { low = 0; high = 0 })) R i) claims
            ∙ low_same (claimants s.layer) _ (m.spans b R) seen R i;
        highs = λ T a some i h up.
            (decoded.high some).told i (took i h up) ∙ ap (λ cs. High cs (λ k. get_or known k (record { low = 0; high = 0 })) R i) claims
            ∙ high_same (claimants s.layer) _ (m.spans b R) seen R i;
      }

      over : (ℕ → ℕ → Span) → ℕ → ℕ → Span
      over below Q i = slot_span s.layer (below Q) Q i

      pub settled_whole : Settled (braid_meaning m) s after R work end (Ok R)
      unfolding over
      settled_whole = record {
        answers = refl;
        slots = refl;
        weight = refl;
        rounds = refl;
        sound = after_sound;
        admits = λ T a. record {
          long = a.long;
          adds = a.adds;
          parts = a.parts;
          bits = a.bits;
          below = subst (λ N. m.admits b (slot_sums N (rows s.layer) (carried m s.layer T))) (sym done.slots) (done.admits _ a.below);
        };
        no_more = λ T a. record {
          long = a.long;
          adds = a.adds;
          parts = a.parts;
          bits = a.bits;
          below = done.no_more _ (subst (λ N. m.admits b (slot_sums N (rows s.layer) (carried m s.layer T))) done.slots a.below);
        };
        spans = ap over done.spans;
        cleared = decoded.area_clear;
        kept = decoded.area_kept ∙ done.kept;
      }

-- rounds and a work area as they must be are not refused by the decoder
pub accepted : (R room : ℕ) → R ≤ 2048 → 7168 ≤ room → answer R room ≡ Ok R
accepted R room h k = rw (le-ltb 2048 R h, le-ltb room 7168 k)
