-- A braid that stands for a ledger answers each call as the ledger does, and stands for the ledger after it.
use Rattle.std.proofs.Common.{◌≡◌, ℕ, ◌+◌, ◌/◌, ◌≤◌, true, List, [], ◌∷◌, ◌++◌, length, take, drop, Ok, Err, Result, sym, refl, ap, ◌∙◌, subst, inl, arith, length-take}
use native.Mathlib.Nat.{zero-div}
use Rattle.std.proofs.lemmas.List.{length-map, map_push, get_or_append_left, drop-append-le, take-append-drop}
use Rattle.std.proofs.lemmas.Bool.{both_ways}
use Rattle.store.specs.Meaning.{Meaning, Laws, Live, Within, Adds, Settles}
use Rattle.store.proofs.Listing.{made_row}
use Rattle.store.proofs.Sums.{total_sums_none}
use Rattle.wiring.specs.Rising.{is_row}
use Rattle.wiring.specs.Wiring.{row_from}
use Rattle.braid.specs.declared.braid.Braid.{Braid}
use Rattle.braid.specs.BraidMeaning as counters
use Rattle.braid.specs.Layers.{SameWiring}
use Rattle.braid.specs.Wires.{Wires}
use Rattle.braid.proofs.Making.{entry_none}
use Rattle.ledger.specs.Ledger.{Asked, wire, add, settle, Said, wired, added, settled, denied, Line, row_of, total_of, Ledger, rows, totals, weight, answer, entered}
use Rattle.ledger.specs.Promise.{Stands, Worked, Served, Serves}
use Rattle.ledger.proofs.Answering.{wire_answers, add_answers, settle_answers}
use Rattle.ledger.proofs.Lines.{grown_totals, grown_rows, fits_within, fits_not}

-- what a result of a call says
abbrev pub said_by : (ℕ → Said) → Result ℕ ℕ → Said
said_by done (Ok n) = done n
said_by done (Err why) = denied why

module _ {S : Type 0} (m : Meaning S) (laws : Laws m) (s t : Braid S) (depth : ℕ) (L : Ledger) (stands : Stands m depth L s) where
  count : counters.count s.layer ≡ length L.lines
  count = sym stands.admits.long ∙ length-map L.lines total_of

  heavy : s.layer.weight ≡ weight L
  heavy = sym stands.admits.adds

  live : Live (counters.braid_meaning m) s
  live = record { sound = stands.sound; totals = totals L; admitted = stands.admits }

  -- a braid without weight has carried nothing
  light_below : weight L ≡ 0 → m.weight s.below ≡ 0
  light_below empty =
      sym (laws.adds s.below stands.sound.below _ stands.admits.below)
      ∙ total_sums_none (m.slots s.below) (counters.rows s.layer) (counters.carried m s.layer (totals L))
      (λ i h. ap (λ x. x / counters.modulus s.layer) (entry_none (totals L) i empty) ∙ zero-div (counters.modulus s.layer))

  -- the rows after a call that keeps the wiring
  same_rows : SameWiring s.layer t.layer → counters.rows t.layer ≡ rows L
  same_rows wiring = wiring.0 ∙ stands.rows

  -- x was said, and the braid stands for the ledger that it was entered in
  abbrev Enters : Asked → Said → List ℕ → List ℕ → Said → Type 0
  Enters call said work left x = (said ≡ x) × Stands m depth (entered L call x) t × Worked (x ∷ []) work left

  served : (call : Asked) (said : Said) (work left : List ℕ) → Enters call said work left (answer L call)
      → Served m depth L call said t work left
  served call said work left (same, stood, worked) = record {
    answers = same;
    stands = stood;
    worked = subst (λ x. Worked (x ∷ []) work left) (sym same) worked;
  }

  -- a denied call leaves the braid as it was
  unmoved : t ≡ s → Stands m depth L t
  unmoved same = subst (Stands m depth L) (sym same) stands

  pub wire_served : (slots : List ℕ) (said : Result ℕ ℕ) (work : List ℕ) → is_row slots ≡ true → Wires m s t slots said
      → Served m depth L (wire slots) (said_by wired said) t work work
  wire_served slots said work one wires =
      let line : Line = record { row = slots; total = 0 } in
      served (wire slots) (said_by wired said) work work
      (wire_answers L (Enters (wire slots) (said_by wired said) work work) slots
      (λ none. absurd (both_ways (is_row slots) none one))
      (λ _ some. let r = wires.weighted (inl (omega (arith, heavy))) in (ap (said_by wired) r.0, unmoved r.1, refl))
      (λ _ empty many.
      let r = wires.full (heavy ∙ empty) (light_below empty) (omega (arith, count)) in
      (ap (said_by wired) r.0, unmoved r.1, refl))
      (λ _ empty room out.
      let r = wires.no_slot (heavy ∙ empty) (light_below empty) (omega (arith, count))
      (λ w. fits_not L.beneath slots out (subst (λ N. Within N slots) stands.beneath w)) in
      (ap (said_by wired) r.0, unmoved r.1, refl))
      (λ _ empty room ok.
      let r = wires.wired (heavy ∙ empty) (light_below empty) (omega (arith, count))
      (subst (λ N. Within N slots) (sym stands.beneath) (fits_within L.beneath slots ok)) in (
        ap (said_by wired) r.answers ∙ ap wired count,
        record {
          sound = r.sound stands.sound;
          admits = subst (counters.BraidAdmits m t) (sym (map_push total_of L.lines line)) (r.admits (totals L) stands.sound stands.admits);
          rows = r.wiring ∙ ap (λ l. l ++ slots ∷ []) stands.rows ∙ sym (map_push row_of L.lines line);
          depth_is = r.depth ∙ stands.depth_is;
          beneath = ap m.slots r.below ∙ stands.beneath;
          rounds = r.rounds ∙ stands.rounds;
        },
        refl,
      )))

  pub add_served : (slot n : ℕ) (said : Result ℕ ℕ) (work : List ℕ)
      → (Live (counters.braid_meaning m) s → Adds (counters.braid_meaning m) s t slot n said) → SameWiring s.layer t.layer
      → (Live (counters.braid_meaning m) s → m.slots t.below ≡ m.slots s.below)
      → Served m depth L (add slot n) (said_by added said) t work work
  add_served slot n said work owed wiring beneath =
      let adds = owed live in
      served (add slot n) (said_by added said) work work
      (add_answers L (Enters (add slot n) (said_by added said) work work) slot n
      (λ out. let r = adds.no_slot (omega (arith, count)) in (ap (said_by added) r.0, unmoved r.1, refl))
      (λ there over. let r = adds.ceiling (omega (arith, count)) (omega (arith, heavy)) in (ap (said_by added) r.0, unmoved r.1, refl))
      (λ there light. let r = adds.added (omega (arith, count)) (omega (arith, heavy)) in (
        ap (said_by added) r.answers ∙ ap (λ w. added (w + n)) heavy,
        record {
          sound = r.sound;
          admits = subst (counters.BraidAdmits m t) (sym (grown_totals L.lines slot n)) (r.admits (totals L) stands.admits);
          rows = same_rows wiring ∙ sym (grown_rows L.lines slot n);
          depth_is = wiring.1 ∙ stands.depth_is;
          beneath = beneath live ∙ stands.beneath;
          rounds = r.rounds;
        },
        refl,
      )))

  -- settling in the first n numbers of the work area
  pub settle_served : (R n : ℕ) (said : Result ℕ ℕ) (work left : List ℕ) → n ≤ length work → length left ≡ n
      → (Live (counters.braid_meaning m) s → Settles (counters.braid_meaning m) s t R (take n work) left said)
      → SameWiring s.layer t.layer → (Live (counters.braid_meaning m) s → m.slots t.below ≡ m.slots s.below)
      → Served m depth L (settle R n) (said_by settled said) t work (left ++ drop n work)
  settle_served R n said work left inside long owed wiring beneath =
      let settles = owed live in
      let front : length (take n work) ≡ n = omega (arith, length-take n work) in
      let whole : left ≡ take n work → left ++ drop n work ≡ work =
      λ same. ap (λ l. l ++ drop n work) same ∙ take-append-drop n work in
      served (settle R n) (said_by settled said) work (left ++ drop n work)
      (settle_answers L (Enters (settle R n) (said_by settled said) work (left ++ drop n work)) R n
      (λ many. let r = settles.many many in (ap (said_by settled) r.0, unmoved r.1, whole r.2))
      (λ few short. let r = settles.short few (omega (arith, front)) in (ap (said_by settled) r.0, unmoved r.1, whole r.2))
      (λ few room. let r = settles.settled few (omega (arith, front)) in (
        ap (said_by settled) r.answers,
        record {
          sound = r.sound;
          admits = r.admits (totals L) stands.admits;
          rows = same_rows wiring;
          depth_is = wiring.1 ∙ stands.depth_is;
          beneath = beneath live ∙ stands.beneath;
          rounds = r.rounds;
        },
        (
          λ k h. get_or_append_left left (drop n work) 0 k (omega arith) ∙ r.cleared k h,
          drop-append-le 7168 left (drop n work) (omega arith) ∙ ap (λ l. l ++ drop n work) r.kept
              ∙ sym (drop-append-le 7168 (take n work) (drop n work) (omega (arith, front)))
              ∙ ap (drop 7168) (take-append-drop n work),
        ),
      )))

-- the row that was made of the slots is these slots
pub wire_serves : {S : Type 0} (m : Meaning S) → Laws m → (s t : Braid S) (slots row : List ℕ) (said : Result ℕ ℕ) (work : List ℕ)
    → ◌≡◌ {A = Result (List ℕ) ℕ} (Ok row) (row_from slots) → Wires m s t row said
    → Serves m s (wire slots) (said_by wired said) t work work
wire_serves m laws s t slots row said work is wires depth L stands =
    let made = made_row slots row is in
    wire_served m laws s t depth L stands slots said work made.0 (subst (λ r. Wires m s t r said) made.1 wires)
