-- Totals of lists, and what one entry more does to them.
use Rattle.std.proofs.Common.{◌≡◌, ℕ, suc, ◌+◌, ◌^◌, ◌<◌, ◌≤◌, min, List, [], ◌∷◌, ◌++◌, length, get_or, replicate, take, drop, sym, refl, ap, ◌∙◌, inl, inr, arith, length-append, length-drop, length-set, length-take, set}
use lib.Seq.{take-set-lt}
use Rattle.std.proofs.lemmas.List.{get_or-take, drop-set-lt, append-nil, take_all, take_at, drop_at, drop_all}
use Rattle.std.proofs.lemmas.Grind.{common_steps}
use Rattle.std.proofs.lemmas.List.Recursion.{is_sum_by}
use Rattle.std.proofs.lemmas.Bool.{cases_lt}
use Rattle.store.specs.Totals.{total, more}
use Rattle.store.specs.FlatView.{FlatView, FlatSound}

pub total_more : (T : List ℕ) (slot n : ℕ) → slot < length T → total (more T slot n) ≡ total T + n
total_more T slot n h = grind (arith, common_steps, is_sum_by total (λ x. x) refl (λ _ _. refl))

pub length_more : (T : List ℕ) (slot n : ℕ) → length (more T slot n) ≡ length T
length_more T slot n = length-set T slot (get_or T slot 0 + n)

-- a list of zeros adds up to 0
pub total_none : (T : List ℕ) → ((k : ℕ) → k < length T → get_or T k 0 ≡ 0) → total T ≡ 0
total_none [] h = refl
total_none (x ∷ T) h = omega (arith, h 0 (omega arith), total_none T (λ k l. h (suc k) (omega arith)))

pub total_replicate : (n : ℕ) → total (replicate n 0) ≡ 0
total_replicate n = grind (arith, common_steps, is_sum_by total (λ x. x) refl (λ _ _. refl))

-- a table whose first n numbers were replaced, where n is 1,024 or the length of the table
module _ (xs ys : List ℕ) (n : ℕ) (n-is : n ≡ min (length xs) 1024) (long : length ys ≡ n) where
  abbrev pub replaced : List ℕ
  replaced = ys ++ drop n xs

  pub replaced_length : length replaced ≡ length xs
  replaced_length = omega (arith, length-append ys (drop n xs), length-drop n xs)

  pub replaced_front : take 1024 replaced ≡ ys
  replaced_front = elim (cases_lt (length xs) 1024) [
    | inl short ↦
        let none : drop n xs ≡ [] = drop_all n xs (omega arith) in
        ap (λ l. take 1024 (ys ++ l)) none ∙ ap (take 1024) (append-nil ys) ∙ take_all 1024 ys (omega arith)
    | inr far ↦ take_at ys (drop n xs) 1024 (omega arith)
  ]

  pub replaced_behind : drop 1024 replaced ≡ drop 1024 xs
  replaced_behind = elim (cases_lt (length xs) 1024) [
    | inl short ↦ drop_all 1024 replaced (omega (arith, replaced_length)) ∙ sym (drop_all 1024 xs (omega arith))
    | inr far ↦
        let all : n ≡ 1024 = omega arith in
        drop_at ys (drop n xs) 1024 (omega arith) ∙ ap (λ k. drop k xs) all
  ]

-- what the place of a slot tells, of the table that the view shows
pub placed : {f g : FlatView} {place slot : ℕ} {P : Type 0} → f ≡ g → (place ≡ slot) × (slot < length (take 1024 g.table)) × P → place < length (take 1024 f.table)
placed is (same, there, _) = omega (arith, same, there, ap (λ f. length (take 1024 f.table)) is)

-- a table of which one slot has n more
module _ (xs : List ℕ) (slot n : ℕ) (there : slot < length (take 1024 xs)) where
  in_front : slot < 1024
  in_front = omega (arith, there, length-take 1024 xs)

  pub held : get_or (take 1024 xs) slot 0 ≡ get_or xs slot 0
  held = get_or-take 1024 xs slot 0 in_front

  pub front_more : take 1024 (more xs slot n) ≡ more (take 1024 xs) slot n
  front_more = take-set-lt 1024 xs slot _ in_front ∙ ap (λ h. set (take 1024 xs) slot (h + n)) (sym held)

  pub behind_more : drop 1024 (more xs slot n) ≡ drop 1024 xs
  behind_more = drop-set-lt 1024 xs slot _ in_front

  pub sound_more : (w : ℕ) → FlatSound xs w → w + n ≤ 2 ^ 40 → FlatSound (more xs slot n) (w + n)
  sound_more w sound light = record {
    adds = ap total front_more ∙ total_more (take 1024 xs) slot n there ∙ ap (λ t. t + n) sound.adds;
    light = light;
  }
