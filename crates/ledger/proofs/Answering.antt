-- What the ledger can answer to a call: what holds of the answer in each of its cases holds of the answer.
use Rattle.std.proofs.Common.{◌≡◌, ℕ, ◌+◌, ◌^◌, ◌<◌, ◌≤◌, true, false, eqb, ltb, leb, List, length}
use Rattle.std.proofs.lemmas.Bool.{cond_both, eqb-true, eqb-false, ltb-true, ltb-false, leb-true, leb-false}
use Rattle.wiring.specs.Rising.{is_row}
use Rattle.ledger.specs.Ledger.{wire, add, settle, Said, wired, added, settled, denied, Ledger, weight, fits, answer}

module _ (L : Ledger) (P : Said → Type 0) where
  pub wire_answers : (slots : List ℕ)
      → (is_row slots ≡ false → P (denied 5))
      → (is_row slots ≡ true → (weight L ≡ 0 → ⊥) → P (denied 6))
      → (is_row slots ≡ true → weight L ≡ 0 → 1024 ≤ length L.lines → P (denied 7))
      → (is_row slots ≡ true → weight L ≡ 0 → length L.lines < 1024 → fits L.beneath slots ≡ false → P (denied 1))
      → (is_row slots ≡ true → weight L ≡ 0 → length L.lines < 1024 → fits L.beneath slots ≡ true → P (wired (length L.lines)))
      → P (answer L (wire slots))
  wire_answers slots no_row weighted full outside took = cond_both (is_row slots) _ _ P
      (λ row. cond_both (eqb (weight L) 0) _ _ P
      (λ none. let empty = eqb-true (weight L) 0 none in
      cond_both (ltb (length L.lines) 1024) _ _ P
      (λ few. let room = ltb-true (length L.lines) 1024 few in
      cond_both (fits L.beneath slots) _ _ P (took row empty room) (outside row empty room))
      (λ many. full row empty (ltb-false (length L.lines) 1024 many)))
      (λ some. weighted row (eqb-false (weight L) 0 some)))
      no_row

  pub add_answers : (slot n : ℕ)
      → (length L.lines ≤ slot → P (denied 1))
      → (slot < length L.lines → 2 ^ 40 < weight L + n → P (denied 2))
      → (slot < length L.lines → weight L + n ≤ 2 ^ 40 → P (added (weight L + n)))
      → P (answer L (add slot n))
  add_answers slot n no_slot ceiling took = cond_both (ltb slot (length L.lines)) _ _ P
      (λ in_lines. let there = ltb-true slot (length L.lines) in_lines in
      cond_both (leb (weight L + n) (2 ^ 40)) _ _ P
      (λ light. took there (leb-true (weight L + n) (2 ^ 40) light))
      (λ heavy. ceiling there (leb-false (weight L + n) (2 ^ 40) heavy)))
      (λ out. no_slot (ltb-false slot (length L.lines) out))

  pub settle_answers : (R room : ℕ)
      → (2048 < R → P (denied 3))
      → (R ≤ 2048 → room < 7168 → P (denied 4))
      → (R ≤ 2048 → 7168 ≤ room → P (settled R))
      → P (answer L (settle R room))
  settle_answers R room many short took = cond_both (leb R 2048) _ _ P
      (λ at_most. let few = leb-true R 2048 at_most in
      cond_both (leb 7168 room) _ _ P
      (λ long. took few (leb-true 7168 room long))
      (λ no_room. short few (leb-false 7168 room no_room)))
      (λ more. many (leb-false R 2048 more))
