-- What reaches the slots of a store from above: how the sums follow the amounts and the rows, and what they come to.
-- Rows may have any length, as long as none has a slot twice.
use Rattle.std.proofs.Common.{◌≡◌, ℕ, zero, suc, ◌+◌, ◌*◌, ◌<◌, Bool, true, false, cond, eqb, List, [], ◌∷◌, ◌++◌, length, get_or, replicate, sym, refl, ap, ◌∙◌, subst, inl, inr, suc-mul, arith}
use Rattle.std.proofs.lemmas.List.{ext_get_or, get_or-replicate, get_or-set_same, get_or-set_other, get_or_past, get_or_append_left, length_push, length-replicate}
use Rattle.std.proofs.lemmas.Bool.{cases_eq, cases_lt, cond-true, cond-false, eq-eqb, ne_eqb}
use Rattle.rounds.specs.Rounds.{has, sum}
use Rattle.rounds.specs.Laws.{Distinct}
use Rattle.rounds.proofs.Sums.{sum_more, sum_split, without}
use Rattle.store.specs.Totals.{total, more, spread}
use Rattle.store.specs.Sums.{listed, reaching, slot_sums}
use Rattle.store.specs.Meaning.{Within}
use Rattle.store.proofs.Lists.{total_more, length_more}

pub length_listed : {X : Type 0} (n : ℕ) (f : ℕ → X) → length (listed n f) ≡ n
length_listed zero f = refl
length_listed (suc n) f = ap suc (length_listed n (λ k. f (suc k)))

pub get_or_listed : {X : Type 0} (n : ℕ) (f : ℕ → X) (k : ℕ) (d : X) → k < n → get_or (listed n f) k d ≡ f k
get_or_listed zero f k d h = absurd (omega arith)
get_or_listed (suc n) f zero d h = refl
get_or_listed (suc n) f (suc k) d h = get_or_listed n (λ j. f (suc j)) k d (omega arith)

pub listed_ext : {X : Type 0} (n : ℕ) (f g : ℕ → X) → ((k : ℕ) → k < n → f k ≡ g k) → listed n f ≡ listed n g
listed_ext zero f g e = refl
listed_ext (suc n) f g e =
    ap (λ x. x ∷ listed n (λ k. f (suc k))) (e 0 (omega arith))
    ∙ ap (λ xs. g 0 ∷ xs) (listed_ext n (λ k. f (suc k)) (λ k. g (suc k)) (λ k h. e (suc k) (omega arith)))

-- a list is listed by its entries
pub listed_get_or : {X : Type 0} (n : ℕ) (f : ℕ → X) (xs : List X) (d : X) → length xs ≡ n
    → ((k : ℕ) → k < n → f k ≡ get_or xs k d) → listed n f ≡ xs
listed_get_or n f xs d long e = ext_get_or d (listed n f) xs (length_listed n f ∙ sym long)
    (λ k h. let in-n : k < n = omega (arith, length_listed n f) in get_or_listed n f k d in-n ∙ e k in-n)

pub sum_ext : (n : ℕ) (f g : ℕ → ℕ) → ((k : ℕ) → k < n → f k ≡ g k) → sum n f ≡ sum n g
sum_ext zero f g e = refl
sum_ext (suc n) f g e = omega (arith, sum_ext n f g (λ k h. e k (omega arith)), e n (omega arith))

pub sum_none : (n : ℕ) (f : ℕ → ℕ) → ((k : ℕ) → k < n → f k ≡ 0) → sum n f ≡ 0
sum_none zero f e = refl
sum_none (suc n) f e = omega (arith, sum_none n f (λ k h. e k (omega arith)), e n (omega arith))

sum_first : (n : ℕ) (f : ℕ → ℕ) → sum (suc n) f ≡ f 0 + sum n (λ k. f (suc k))
sum_first zero f = omega arith
sum_first (suc n) f = omega (arith, sum_first n f)

-- a total is the sum of the entries
pub total_sum : (T : List ℕ) → total T ≡ sum (length T) (λ k. get_or T k 0)
total_sum [] = refl
total_sum (x ∷ T) = omega (arith, total_sum T, sum_first (length T) (λ k. get_or (x ∷ T) k 0))

pub get_or_more : (T : List ℕ) (slot n j : ℕ) → j < length T → get_or (more T slot n) j 0 ≡ get_or T j 0 + cond (eqb j slot) n 0
get_or_more T slot n j h = elim (cases_eq j slot) [
  | inl same ↦
      let here = get_or-set_same T slot (get_or T slot 0 + n) 0 (omega arith) in
      let hit = cond-true (eqb j slot) n 0 (eq-eqb j slot same) in
      omega (arith, here, hit, ap (λ k. get_or (more T slot n) k 0) same, ap (λ k. get_or T k 0) same)
  | inr apart ↦
      omega (arith, get_or-set_other T slot j (get_or T slot 0 + n) 0 apart, cond-false (eqb j slot) n 0 (ne_eqb j slot apart))
]

pub length_spread : (T row : List ℕ) (n : ℕ) → length (spread T row n) ≡ length T
length_spread T [] n = refl
length_spread T (slot ∷ row) n = length_spread (more T slot n) row n ∙ length_more T slot n

-- a row that has a slot brings it n once, as it has no slot twice
has_once : (j slot : ℕ) (row : List ℕ) (n : ℕ) → has slot row ≡ false →
    cond (eqb j slot) n 0 + cond (has j row) n 0 ≡ cond (has j (slot ∷ row)) n 0
has_once j slot row n d = elim (cases_eq j slot) [
  | inl same ↦
      let on : eqb j slot ≡ true = eq-eqb j slot same in
      let off : has j row ≡ false = subst (λ k. has k row ≡ false) (sym same) d in
      simp (on, off) (omega arith)
  | inr apart ↦ let off : eqb j slot ≡ false = ne_eqb j slot apart in simp off (omega arith)
]

pub get_or_spread : (T row : List ℕ) (n j : ℕ) → Distinct row → j < length T
    → get_or (spread T row n) j 0 ≡ get_or T j 0 + cond (has j row) n 0
get_or_spread T [] n j d h = omega arith
get_or_spread T (slot ∷ row) n j d h =
    let rest = get_or_spread (more T slot n) row n j d.1 (omega (arith, length_more T slot n)) in
    omega (arith, rest, get_or_more T slot n j h, has_once j slot row n d.0)

within_same : (M N : ℕ) (row : List ℕ) → M ≡ N → Within M row → Within N row
within_same M N row e w = subst (λ n. Within n row) e w

pub total_spread : (T row : List ℕ) (n : ℕ) → Within (length T) row → total (spread T row n) ≡ total T + length row * n
total_spread T [] n w = omega arith
total_spread T (slot ∷ row) n w =
    let rest = total_spread (more T slot n) row n (within_same (length T) _ row (sym (length_more T slot n)) w.1) in
    omega (arith, rest, total_more T slot n w.0, suc-mul (length row) n)

pub length_sums : (N : ℕ) (rows : List (List ℕ)) (a : ℕ → ℕ) → length (slot_sums N rows a) ≡ N
length_sums N rows a = length_listed N (reaching rows a)

pub get_or_sums : (N : ℕ) (rows : List (List ℕ)) (a : ℕ → ℕ) (j : ℕ) → j < N → get_or (slot_sums N rows a) j 0 ≡ reaching rows a j
get_or_sums N rows a j h = get_or_listed N (reaching rows a) j 0 h

pub reaching_ext : (rows : List (List ℕ)) (a b : ℕ → ℕ) → ((i : ℕ) → i < length rows → a i ≡ b i)
    → (j : ℕ) → reaching rows a j ≡ reaching rows b j
reaching_ext rows a b e j = sum_ext (length rows) _ _ (λ i h. ap (λ n. cond (has j (get_or rows i [])) n 0) (e i h))

pub sums_ext : (N : ℕ) (rows : List (List ℕ)) (a b : ℕ → ℕ) → ((i : ℕ) → i < length rows → a i ≡ b i)
    → slot_sums N rows a ≡ slot_sums N rows b
sums_ext N rows a b e = listed_ext N _ _ (λ j h. reaching_ext rows a b e j)

cond_more : (t : Bool) (x y n : ℕ) → y ≡ x + n → cond t y 0 ≡ cond t x 0 + cond t n 0
cond_more true x y n e = e
cond_more false x y n e = refl

cond_zero : (t : Bool) (n : ℕ) → n ≡ 0 → cond t n 0 ≡ 0
cond_zero true n e = e
cond_zero false n e = refl

-- where one row brings q more, each of its slots is reached by q more
pub reaching_more : (rows : List (List ℕ)) (a b : ℕ → ℕ) (i q : ℕ) → i < length rows
    → b i ≡ a i + q → ((j : ℕ) → (j ≡ i → ⊥) → b j ≡ a j)
    → (j : ℕ) → reaching rows b j ≡ reaching rows a j + cond (has j (get_or rows i [])) q 0
reaching_more rows a b i q h here there j =
    let brings : (ℕ → ℕ) → ℕ → ℕ = λ x k. cond (has j (get_or rows k [])) (x k) 0 in
    let other : (k : ℕ) → without i (brings b) k ≡ without i (brings a) k = λ k. elim (cases_eq k i) [
      | inl same ↦
          let it = eq-eqb k i same in
          cond-true (eqb k i) 0 (brings b k) it ∙ sym (cond-true (eqb k i) 0 (brings a k) it)
      | inr apart ↦ ap (λ n. cond (eqb k i) 0 (cond (has j (get_or rows k [])) n 0)) (there k apart)
    ] in
    let others = sum_ext (length rows) (without i (brings b)) (without i (brings a)) (λ k l. other k) in
    omega (
      arith,
      sum_split (length rows) (brings b) i h,
      sum_split (length rows) (brings a) i h,
      others,
      cond_more (has j (get_or rows i [])) (a i) (b i) q here,
    )

pub sums_more : (N : ℕ) (rows : List (List ℕ)) (a b : ℕ → ℕ) (i q : ℕ) → i < length rows
    → Distinct (get_or rows i []) → Within N (get_or rows i []) → b i ≡ a i + q → ((j : ℕ) → (j ≡ i → ⊥) → b j ≡ a j)
    → slot_sums N rows b ≡ spread (slot_sums N rows a) (get_or rows i []) q
sums_more N rows a b i q h distinct within here there =
    let row = get_or rows i [] in
    let long = length_sums N rows a in
    listed_get_or N (reaching rows b) (spread (slot_sums N rows a) row q) 0 (length_spread (slot_sums N rows a) row q ∙ long)
    (λ j l.
    let at = get_or_spread (slot_sums N rows a) row q j distinct (omega arith) in
    omega (arith, at, get_or_sums N rows a j l, reaching_more rows a b i q h here there j))

pub reaching_none : (rows : List (List ℕ)) (a : ℕ → ℕ) → ((i : ℕ) → i < length rows → a i ≡ 0) → (j : ℕ) → reaching rows a j ≡ 0
reaching_none rows a e j = sum_none (length rows) _ (λ i h. cond_zero (has j (get_or rows i [])) (a i) (e i h))

-- where nothing is brought, nothing reaches a slot
module _ (N : ℕ) (rows : List (List ℕ)) (a : ℕ → ℕ) (none : (i : ℕ) → i < length rows → a i ≡ 0) where
  pub sums_none : slot_sums N rows a ≡ replicate N 0
  sums_none = listed_get_or N (reaching rows a) (replicate N 0) 0 (length-replicate N 0)
      (λ j h. reaching_none rows a none j ∙ sym (get_or-replicate N j 0 0 h))

  pub get_or_sums_none : (j : ℕ) → get_or (slot_sums N rows a) j 0 ≡ 0
  get_or_sums_none j = elim (cases_lt j N) [
    | inl h ↦ get_or_sums N rows a j h ∙ reaching_none rows a none j
    | inr h ↦ get_or_past (slot_sums N rows a) j 0 (omega (arith, length_sums N rows a))
  ]

  pub total_sums_none : total (slot_sums N rows a) ≡ 0
  total_sums_none = total_sum (slot_sums N rows a) ∙ sum_none (length (slot_sums N rows a)) _ (λ j h. get_or_sums_none j)

-- one more row, that brings nothing yet
pub sums_push : (N : ℕ) (rows : List (List ℕ)) (row : List ℕ) (a b : ℕ → ℕ)
    → ((i : ℕ) → i < length rows → b i ≡ a i) → b (length rows) ≡ 0 → slot_sums N (rows ++ row ∷ []) b ≡ slot_sums N rows a
sums_push N rows row a b same last = listed_ext N _ _ (λ j h.
    let brings : ℕ → ℕ = λ i. cond (has j (get_or (rows ++ row ∷ []) i [])) (b i) 0 in
    ap (λ n. sum n brings) (length_push rows row) ∙ sum_more (length rows) brings
    ∙ omega (
      arith,
      cond_zero (has j (get_or (rows ++ row ∷ []) (length rows) [])) (b (length rows)) last,
      sum_ext (length rows) brings (λ i. cond (has j (get_or rows i [])) (a i) 0) (λ i l.
          ap (λ (r : List ℕ). cond (has j r) (b i) 0) (get_or_append_left rows (row ∷ []) [] i l)
          ∙ ap (λ n. cond (has j (get_or rows i [])) n 0) (same i l)),
    ))

total_plus : (N : ℕ) (f g : ℕ → ℕ) → total (listed N (λ j. f j + g j)) ≡ total (listed N f) + total (listed N g)
total_plus zero f g = refl
total_plus (suc N) f g = omega (arith, total_plus N (λ j. f (suc j)) (λ j. g (suc j)))

total_zeros : (N : ℕ) → total (listed N (λ j. 0)) ≡ 0
total_zeros zero = refl
total_zeros (suc N) = omega (arith, total_zeros N)

-- by slots or by rows, the total is the same
total_swap : (N n : ℕ) (f : ℕ → ℕ → ℕ) → total (listed N (λ j. sum n (λ i. f i j))) ≡ sum n (λ i. total (listed N (f i)))
total_swap N zero f = total_zeros N
total_swap N (suc n) f = omega (arith, total_plus N (λ j. sum n (λ i. f i j)) (f n), total_swap N n f)

-- what one row brings
total_row : (N : ℕ) (row : List ℕ) (n : ℕ) → Distinct row → Within N row
    → total (listed N (λ j. cond (has j row) n 0)) ≡ length row * n
total_row N row n distinct within =
    let none = listed N (λ j. 0) in
    let long : length none ≡ N = length_listed N (λ j. 0) in
    let same : listed N (λ j. cond (has j row) n 0) ≡ spread none row n =
    listed_get_or N (λ j. cond (has j row) n 0) (spread none row n) 0 (length_spread none row n ∙ long)
    (λ j h. omega (arith, get_or_spread none row n j distinct (omega arith), get_or_listed {X = ℕ} N (λ j. 0) j 0 h)) in
    omega (arith, ap total same, total_spread none row n (within_same N (length none) row (sym long) within), total_zeros N)

pub total_sums : (N : ℕ) (rows : List (List ℕ)) (a : ℕ → ℕ)
    → ((i : ℕ) → i < length rows → Distinct (get_or rows i [])) → ((i : ℕ) → i < length rows → Within N (get_or rows i []))
    → total (slot_sums N rows a) ≡ sum (length rows) (λ i. length (get_or rows i []) * a i)
total_sums N rows a distinct within =
    total_swap N (length rows) (λ i j. cond (has j (get_or rows i [])) (a i) 0)
    ∙ sum_ext (length rows) _ _ (λ i h. total_row N (get_or rows i []) (a i) (distinct i h) (within i h))
