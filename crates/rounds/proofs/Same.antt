-- The bounds depend on the spans of the slots in use alone.
use Rattle.std.proofs.Common.{◌≡◌, ℕ, zero, suc, ◌-◌, max, Bool, true, List, [], ◌∷◌, map, refl, ap, ◌∙◌}
use Rattle.rounds.specs.declared.span.Span.{Span}
use Rattle.rounds.specs.Rounds.{Claimant, row_of, floor_of, has, Uses, besides, rest, edge, tightest}
use Rattle.rounds.specs.Rounds.{gathered, message, estimate, odd, last_odd, last_even, High, Low}
use Rattle.rounds.proofs.Rows.{has_here, has_there, has_besides}
use Rattle.rounds.proofs.Replies.{rest_same}

map_same : (f g : ℕ → ℕ) (row : List ℕ) → ((s : ℕ) → has s row ≡ true → f s ≡ g s) → map f row ≡ map g row
map_same f g [] h = refl
map_same f g (a ∷ row) h =
    let e = h a (has_here a row) in
    let es = map_same f g row (λ s k. h s (has_there s a row k)) in
    λ k. e k ∷ es k

module _ (cs : List Claimant) (spans fresh : ℕ → Span) (same : (i s : ℕ) → Uses cs i s → spans s ≡ fresh s) where
  gather_same : (up : Bool) (m m' : ℕ → ℕ → ℕ) → ((j s : ℕ) → Uses cs j s → m j s ≡ m' j s) →
      (i : ℕ) (row : List ℕ) → ((s : ℕ) → has s row ≡ true → Uses cs i s) →
      gathered cs spans up m i row ≡ gathered cs fresh up m' i row
  gather_same up m m' h i row sub = ap (tightest up) (map_same _ _ row (λ s k.
      let r = rest_same cs (λ j. m j s) (λ j. m' j s) s i (λ j _ u. h j s u) in
      ap (λ x. max (floor_of cs i) (edge up x - rest cs (λ j. m j s) s i)) (same i s (sub s k))
      ∙ ap (λ n. max (floor_of cs i) (edge up (fresh s) - n)) r))

  message_same : (t i s : ℕ) → Uses cs i s → message cs spans t i s ≡ message cs fresh t i s
  message_same zero i s u = refl
  message_same (suc t) i s u = gather_same (odd (suc t)) (message cs spans t) (message cs fresh t) (message_same t) i (besides s (row_of cs i))
      (λ a k. (has_besides s a (row_of cs i) k).0)

  estimate_same : (t i : ℕ) → estimate cs spans t i ≡ estimate cs fresh t i
  estimate_same zero i = refl
  estimate_same (suc t) i = gather_same (odd (suc t)) (message cs spans t) (message cs fresh t) (message_same t) i (row_of cs i) (λ a k. k)

  pub low_same : (R i : ℕ) → Low cs spans R i ≡ Low cs fresh R i
  low_same R i = estimate_same (last_even R) i

  pub high_same : (R i : ℕ) → High cs spans R i ≡ High cs fresh R i
  high_same R i = estimate_same (last_odd R) i
