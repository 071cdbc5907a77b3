-- Laws of lists, sums and largest values below a number, and of counts of pairs. Relies on nothing.
use Prim.Native.Nat.{ℕ, zero, suc, ◌+◌, ◌-◌, ◌*◌, ◌/◌, ◌%◌, ◌≤◌, ◌<◌, max}
use mathlib.Core.Path.{◌≡◌, refl, sym, ap, ap₂, ◌∙◌, subst}
use mathlib.Core.Bool.{Bool, true, false, not, ◌&&◌}
use mathlib.Core.List.Memᴰ
use mathlib.Core.List.{List, [], ◌∷◌, ◌++◌, map, append-nil, append_assoc, Memᴰ}
use mathlib.Core.Logic.{◌⊎◌, inl, inr}
use native.Mathlib.Omega.{arith}
use native.Mathlib.Nat.{mul-one, mul-le-mul_right}
use lib.Dec.{T, not_T, leb, leb→le, nleb→lt, ltb, ltb→lt, nltb→le}
use lib.ListN.{length, get_or, length-append, get_or-append}
use lib.Seq.{get_or-append-add, ext_get_or}
use lib.Arith.{digits_lt, digits_div, digits_mod}
use Rattle.rules.specs.Lists.{Pairwise}
use Rattle.rules.specs.Below.{list_below, lists_below, sum_below, max_below, one}
use Rattle.rules.specs.Machines.{Machine}
use Rattle.rules.specs.Rounds.{count_pairs, pair_number}
use Rattle.rules.proofs.Booleans.{T-or, T_true, T_false}
use Rattle.rules.proofs.ListLaws.{map-append, pairwise_append}

-- two tables have few pairs of states
pub few_pairs : (a b : ℕ) → a ≤ 64 → b ≤ 64 → a * b ≤ 4096
few_pairs a b k l = omega (arith, mul-le-mul_right b k)

-- two pairs with the same number are the same pair
pub same_pair : (n a b u v : ℕ) → b < n → v < n → pair_number n a b ≡ pair_number n u v → (a ≡ u) × (b ≡ v)
same_pair n a b u v k l e =
    (sym (digits_div a k) ∙ ap (λ (x : ℕ). x / n) e ∙ digits_div u l, sym (digits_mod a k) ∙ ap (λ (x : ℕ). x % n) e ∙ digits_mod u l)

-- a number below n + 1 is below n or is n
pub lt_cases : (j n : ℕ) → j < suc n → (j < n) ⊎ (j ≡ n)
lt_cases j n h = go (T-or (ltb j n))
  where
    go : T (ltb j n) ⊎ (T (ltb j n) → ⊥) → (j < n) ⊎ (j ≡ n)
    go (inl t) = inl (ltb→lt j n t)
    go (inr f) = inr (omega (arith, nltb→le j n (not_T (ltb j n) f)))

-- ---- lists

at_seam : {A : Type 0} (l r : List A) (d : A) (i k : ℕ) → i ≡ length l + k → get_or (l ++ r) i d ≡ get_or r k d
at_seam l r d i k e = ap (λ (x : ℕ). get_or (l ++ r) x d) e ∙ get_or-append-add l r k d

module _ {A : Type 0} (f : ℕ → A) where
  pub length-list_below : (n : ℕ) → length (list_below n f) ≡ n
  length-list_below zero = refl
  length-list_below (suc n) = length-append (list_below n f) (f n ∷ []) ∙ omega (arith, length-list_below n)

  pub get_or-list_below : (d : A) (n i : ℕ) → i < n → get_or (list_below n f) i d ≡ f i
  get_or-list_below d zero i l = absurd (omega arith)
  get_or-list_below d (suc n) i l = go (lt_cases i n l) (λ k. get_or-list_below d n i k)
    where
      go : (i < n) ⊎ (i ≡ n) → (i < n → get_or (list_below n f) i d ≡ f i) → get_or (list_below n f ++ (f n ∷ [])) i d ≡ f i
      go (inl k) more = get_or-append (list_below n f) (f n ∷ []) d i (omega (arith, length-list_below n)) ∙ more k
      go (inr e) more = at_seam (list_below n f) (f n ∷ []) d i 0 (omega (arith, length-list_below n)) ∙ ap f (sym e)

  pub list_below-mem : (n i : ℕ) → i < n → Memᴰ (f i) (list_below n f)
  list_below-mem zero i l = absurd (omega arith)
  list_below-mem (suc n) i l = go (lt_cases i n l) (λ k. list_below-mem n i k)
    where
      go : (i < n) ⊎ (i ≡ n) → (i < n → Memᴰ (f i) (list_below n f)) → Memᴰ (f i) (list_below n f ++ (f n ∷ []))
      go (inl k) more = Memᴰ.append_left (f n ∷ []) (more k)
      go (inr e) more = Memᴰ.append_right (list_below n f) (Memᴰ.head (ap f e))

  pub mem_list_below : (n : ℕ) {y : A} → Memᴰ y (list_below n f) → (i : ℕ) × (i < n) × (y ≡ f i)
  mem_list_below zero m = absurd (Memᴰ.not-nil m)
  mem_list_below (suc n) {y} m = go (Memᴰ.append_cases (list_below n f) m) (λ k. mem_list_below n k)
    where
      go : Memᴰ y (list_below n f) ⊎ Memᴰ y (f n ∷ []) → (Memᴰ y (list_below n f) → (i : ℕ) × (i < n) × (y ≡ f i)) → (i : ℕ) × (i < suc n) × (y ≡ f i)
      go (inl k) more = let (i, h, e) = more k in (i, omega arith, e)
      go (inr (Memᴰ.head e)) more = (n, omega arith, e)
      go (inr (Memᴰ.tail k)) more = absurd (Memᴰ.not-nil k)

  pub pairwise-list_below : (R : A → A → Type 0) → ((i j : ℕ) → i < j → R (f i) (f j)) → (n : ℕ) → Pairwise R (list_below n f)
  pairwise-list_below R h zero = tt
  pairwise-list_below R h (suc n) =
      pairwise_append R (list_below n f) (f n ∷ []) (pairwise-list_below R h n) (λ y k. absurd (Memᴰ.not-nil k), tt) (λ x y k m. last x y k m)
    where
      last : (x y : A) → Memᴰ x (list_below n f) → Memᴰ y (f n ∷ []) → R x y
      last x y k (Memᴰ.head e) = let (i, l, d) = mem_list_below n k in subst (λ (z : A). R z y) (sym d) (subst (λ (z : A). R (f i) z) (sym e) (h i n l))
      last x y k (Memᴰ.tail m) = absurd (Memᴰ.not-nil m)

  -- a list is made of two
  pub list_below-append : (m k : ℕ) → list_below (m + k) f ≡ list_below m f ++ list_below k (λ i. f (m + i))
  list_below-append m zero = let e : m + 0 ≡ m = omega arith in rw e (sym (append-nil (list_below m f)))
  list_below-append m (suc k) =
      let e : m + suc k ≡ suc (m + k) = omega arith in
      rw e
      (ap (λ (z : List A). z ++ (f (m + k) ∷ [])) (list_below-append m k)
      ∙ append_assoc (list_below m f) (list_below k (λ i. f (m + i))) (f (m + k) ∷ []))

  -- a longer list starts with a shorter one
  pub list_below-split : (i n : ℕ) → i ≤ n → (rest : List A) × (list_below n f ≡ list_below i f ++ rest)
  list_below-split i n l =
      let e : n ≡ i + (n - i) = omega arith in
      (list_below (n - i) (λ j. f (i + j)), ap (λ (k : ℕ). list_below k f) e ∙ list_below-append i (n - i))

pub list_below-cong : {A : Type 0} (f g : ℕ → A) (n : ℕ) → ((i : ℕ) → i < n → f i ≡ g i) → list_below n f ≡ list_below n g
list_below-cong f g zero h = refl
list_below-cong {A} f g (suc n) h = ap₂ (λ (l : List A) (x : A). l ++ (x ∷ [])) (list_below-cong f g n (λ i l. h i (omega arith))) (h n (omega arith))

pub map-list_below : {A B : Type 0} (g : A → B) (f : ℕ → A) (n : ℕ) → map g (list_below n f) ≡ list_below n (λ i. g (f i))
map-list_below g f zero = refl
map-list_below {A} {B} g f (suc n) = map-append g (list_below n f) (f n ∷ []) ∙ ap (λ (l : List B). l ++ (g (f n) ∷ [])) (map-list_below g f n)

-- lists end to end hold what each of them holds
module _ {A : Type 0} (f : ℕ → List A) where
  pub mem_lists : (n : ℕ) {y : A} → Memᴰ y (lists_below n f) → (i : ℕ) × (i < n) × Memᴰ y (f i)
  mem_lists zero m = absurd (Memᴰ.not-nil m)
  mem_lists (suc n) {y} m = go (Memᴰ.append_cases (lists_below n f) m) (λ k. mem_lists n k)
    where
      go : Memᴰ y (lists_below n f) ⊎ Memᴰ y (f n) → (Memᴰ y (lists_below n f) → (i : ℕ) × (i < n) × Memᴰ y (f i))
          → (i : ℕ) × (i < suc n) × Memᴰ y (f i)
      go (inl k) more = let (i, h, j) = more k in (i, omega arith, j)
      go (inr k) more = (n, omega arith, k)

  pub lists_mem : (n i : ℕ) {y : A} → i < n → Memᴰ y (f i) → Memᴰ y (lists_below n f)
  lists_mem zero i h m = absurd (omega arith)
  lists_mem (suc n) i {y} h m = go (lt_cases i n h) (λ k. lists_mem n i k m)
    where
      go : (i < n) ⊎ (i ≡ n) → (i < n → Memᴰ y (lists_below n f)) → Memᴰ y (lists_below n f ++ f n)
      go (inl k) more = Memᴰ.append_left (f n) (more k)
      go (inr e) more = Memᴰ.append_right (lists_below n f) (subst (λ (k : ℕ). Memᴰ y (f k)) e m)

  pub pairwise-lists : (R : A → A → Type 0) → ((i : ℕ) → Pairwise R (f i)) → ((i j : ℕ) → i < j → (x y : A) → Memᴰ x (f i) → Memᴰ y (f j) → R x y)
      → (n : ℕ) → Pairwise R (lists_below n f)
  pairwise-lists R within across zero = tt
  pairwise-lists R within across (suc n) =
      pairwise_append R (lists_below n f) (f n) (pairwise-lists R within across n) (within n)
      (λ x y k m. let (i, h, j) = mem_lists n k in across i n h x y j m)

-- lists of m, end to end: entry s of list t
module _ (m : ℕ) (f : ℕ → ℕ → ℕ) where
  pub length-lists : (n : ℕ) → length (lists_below n (λ t. list_below m (f t))) ≡ n * m
  length-lists zero = omega arith
  length-lists (suc n) = length-append (lists_below n (λ t. list_below m (f t))) (list_below m (f n)) ∙ omega (arith, length-lists n, length-list_below (f n) m)

  pub get_or-lists : (n t s : ℕ) → t < n → s < m → get_or (lists_below n (λ t. list_below m (f t))) (t * m + s) 0 ≡ f t s
  get_or-lists zero t s l k = absurd (omega arith)
  get_or-lists (suc n) t s l k = go (lt_cases t n l) (λ h. get_or-lists n t s h k)
    where
      go : (t < n) ⊎ (t ≡ n) → (t < n → get_or (lists_below n (λ t. list_below m (f t))) (t * m + s) 0 ≡ f t s)
          → get_or (lists_below n (λ t. list_below m (f t)) ++ list_below m (f n)) (t * m + s) 0 ≡ f t s
      go (inl h) more =
          get_or-append (lists_below n (λ t. list_below m (f t))) (list_below m (f n)) 0 (t * m + s) (omega (arith, length-lists n, digits_lt h k)) ∙ more h
      go (inr e) more =
          at_seam (lists_below n (λ t. list_below m (f t))) (list_below m (f n)) 0 (t * m + s) s (ap (λ (x : ℕ). x * m + s) e ∙ omega (arith, length-lists n))
          ∙ get_or-list_below (f n) 0 m s k ∙ ap (λ (x : ℕ). f x s) (sym e)

-- each entry of n lists of m, end to end, is an entry s of a list t
pub entry_pair : (m n i : ℕ) → i < n * m → (t : ℕ) × (s : ℕ) × (t < n) × (s < m) × (i ≡ t * m + s)
entry_pair m zero i l = absurd (omega arith)
entry_pair m (suc n) i l = go (T-or (ltb i (n * m))) (entry_pair m n i)
  where
    go : T (ltb i (n * m)) ⊎ (T (ltb i (n * m)) → ⊥) → (i < n * m → (t : ℕ) × (s : ℕ) × (t < n) × (s < m) × (i ≡ t * m + s))
        → (t : ℕ) × (s : ℕ) × (t < suc n) × (s < m) × (i ≡ t * m + s)
    go (inl h) more = let (t, s, p, q, e) = more (ltb→lt i (n * m) h) in (t, s, omega arith, q, e)
    go (inr h) more = let k = nltb→le i (n * m) (not_T (ltb i (n * m)) h) in (n, i - n * m, omega arith, omega arith, omega arith)

-- a list with the right entries is those lists end to end
pub lists_ext : (m n : ℕ) (f : ℕ → ℕ → ℕ) (l : List ℕ) → length l ≡ n * m → ((t s : ℕ) → t < n → s < m → get_or l (t * m + s) 0 ≡ f t s)
    → l ≡ lists_below n (λ t. list_below m (f t))
lists_ext m n f l e h = ext_get_or 0 l (lists_below n (λ t. list_below m (f t))) (e ∙ sym (length-lists m f n)) each
  where
    each : (i : ℕ) → i < length l → get_or l i 0 ≡ get_or (lists_below n (λ t. list_below m (f t))) i 0
    each i k =
        let (t, s, p, q, j) = entry_pair m n i (omega arith) in
        ap (λ (x : ℕ). get_or l x 0) j ∙ h t s p q ∙ sym (get_or-lists m f n t s p q) ∙ ap (λ (x : ℕ). get_or (lists_below n (λ t. list_below m (f t))) x 0) (sym j)

-- ---- sums and largest values

pub sum_mono : (n : ℕ) (f g : ℕ → ℕ) → ((i : ℕ) → i < n → f i ≤ g i) → sum_below n f ≤ sum_below n g
sum_mono zero f g h = omega arith
sum_mono (suc n) f g h = omega (arith, sum_mono n f g (λ i l. h i (omega arith)), h n (omega arith))

-- two sums, one below the other at each place, agree only where all places do
pub sum_same : (n : ℕ) (f g : ℕ → ℕ) → ((i : ℕ) → i < n → f i ≤ g i) → sum_below n g ≤ sum_below n f → (i : ℕ) → i < n → g i ≤ f i
sum_same zero f g h e i l = absurd (omega arith)
sum_same (suc n) f g h e i l = go (lt_cases i n l) (λ k. sum_same n f g (λ i l. h i (omega arith)) (omega (arith, h n (omega arith))) i k)
  where
    go : (i < n) ⊎ (i ≡ n) → (i < n → g i ≤ f i) → g i ≤ f i
    go (inl k) more = more k
    go (inr k) more = subst (λ (x : ℕ). g x ≤ f x) (sym k) (omega (arith, sum_mono n f g (λ i l. h i (omega arith))))

pub sum-add : (n : ℕ) (f g : ℕ → ℕ) → sum_below n (λ i. f i + g i) ≡ sum_below n f + sum_below n g
sum-add zero f g = refl
sum-add (suc n) f g = omega (arith, sum-add n f g)

pub sum-cong : (n : ℕ) (f g : ℕ → ℕ) → ((i : ℕ) → i < n → f i ≡ g i) → sum_below n f ≡ sum_below n g
sum-cong zero f g h = refl
sum-cong (suc n) f g h = ap₂ (λ (a b : ℕ). a + b) (sum-cong n f g (λ i l. h i (omega arith))) (h n (omega arith))

-- a sum over n lists of m, end to end, list by list
sum-append : (a b : ℕ) (f : ℕ → ℕ) → sum_below (a + b) f ≡ sum_below a f + sum_below b (λ i. f (a + i))
sum-append a zero f = let e : a + 0 ≡ a = omega arith in rw e (omega arith)
sum-append a (suc b) f = let e : a + suc b ≡ suc (a + b) = omega arith in rw e (omega (arith, sum-append a b f))

pub sum-lists : (m n : ℕ) (f : ℕ → ℕ) → sum_below (n * m) f ≡ sum_below n (λ t. sum_below m (λ s. f (t * m + s)))
sum-lists m zero f = let e : 0 * m ≡ 0 = omega arith in rw e refl
sum-lists m (suc n) f =
    let e : suc n * m ≡ n * m + m = omega arith in
    ap (λ (x : ℕ). sum_below x f) e ∙ sum-append (n * m) m f ∙ ap (λ (x : ℕ). x + sum_below m (λ s. f (n * m + s))) (sum-lists m n f)

pub sum-const : (n c : ℕ) → sum_below n (λ i. c) ≡ n * c
sum-const zero c = omega arith
sum-const (suc n) c = omega (arith, sum-const n c)

-- all but one are 0
pub sum-single : (n : ℕ) (f : ℕ → ℕ) (u : ℕ) → u < n → ((i : ℕ) → i < n → (i ≡ u → ⊥) → f i ≡ 0) → sum_below n f ≡ f u
sum-single zero f u l h = absurd (omega arith)
sum-single (suc n) f u l h = go (lt_cases u n l) (λ k. sum-single n f u k (λ i m. h i (omega arith)))
  where
    go : (u < n) ⊎ (u ≡ n) → (u < n → sum_below n f ≡ f u) → sum_below n f + f n ≡ f u
    go (inl k) more = omega (arith, more k, h n (omega arith) (λ e. omega arith))
    go (inr e) more =
        let before : sum_below n f ≡ n * 0 = sum-cong n f (λ i. 0) (λ i m. h i (omega arith) (λ d. omega arith)) ∙ sum-const n 0 in
        omega (arith, before, ap f e)

pub max_above : (n : ℕ) (f : ℕ → ℕ) (i : ℕ) → i < n → f i ≤ max_below n f
max_above zero f i l = absurd (omega arith)
max_above (suc n) f i l = go (lt_cases i n l) (λ k. max_above n f i k)
  where
    go : (i < n) ⊎ (i ≡ n) → (i < n → f i ≤ max_below n f) → f i ≤ max (max_below n f) (f n)
    go (inl k) more = omega (arith, more k)
    go (inr k) more = subst (λ (x : ℕ). f x ≤ max (max_below n f) (f n)) (sym k) (omega arith)

-- the largest value is 0 or is taken
pub max_taken : (n : ℕ) (f : ℕ → ℕ) → (max_below n f ≡ 0) ⊎ ((i : ℕ) × (i < n) × (f i ≡ max_below n f))
max_taken zero f = inl refl
max_taken (suc n) f = go (T-or (leb (max_below n f) (f n))) (max_taken n f)
  where
    Taken : ℕ → Type 0
    Taken n = (max_below n f ≡ 0) ⊎ ((i : ℕ) × (i < n) × (f i ≡ max_below n f))

    earlier : f n < max_below n f → Taken n → Taken (suc n)
    earlier l (inl e) = absurd (omega arith)
    earlier l (inr (i, k, e)) = inr (i, omega arith, omega arith)

    go : T (leb (max_below n f) (f n)) ⊎ (T (leb (max_below n f) (f n)) → ⊥) → Taken n → Taken (suc n)
    go (inl t) more = inr (n, omega arith, omega (arith, leb→le (max_below n f) (f n) t))
    go (inr t) more = earlier (nleb→lt (max_below n f) (f n) (not_T (leb (max_below n f) (f n)) t)) more

pub max_cong : (n : ℕ) (f g : ℕ → ℕ) → ((i : ℕ) → i < n → f i ≡ g i) → max_below n f ≡ max_below n g
max_cong zero f g h = refl
max_cong (suc n) f g h = ap₂ max (max_cong n f g (λ i l. h i (omega arith))) (h n (omega arith))

pub one_same : (a b : Bool) → one a ≡ one b → a ≡ b
one_same true true e = refl
one_same true false e = absurd (omega arith)
one_same false true e = absurd (omega arith)
one_same false false e = refl

pub one_mono : (a b : Bool) → (T a → T b) → one a ≤ one b
one_mono true true f = omega arith
one_mono true false f = absurd (f tt)
one_mono false true f = omega arith
one_mono false false f = omega arith

pub one_back : (a b : Bool) → one b ≤ one a → T b → T a
one_back true b h t = tt
one_back false true h t = absurd (omega arith)
one_back false false h t = t

pub one_not : (b : Bool) → one b + one (not b) ≡ 1
one_not true = refl
one_not false = refl

-- a test narrower than another, and what it leaves of that, count as that one does
pub one_narrowed : (a b : Bool) → (T b → T a) → one b + one (a && not b) ≡ one a
one_narrowed true b f = one_not b
one_narrowed false true f = absurd (f tt)
one_narrowed false false f = refl

-- ---- counts of pairs of states

module _ (D S : Machine) (p q : ℕ → ℕ → Bool) where
  pub count_mono : ((t s : ℕ) → t < D.n → s < S.n → T (p t s) → T (q t s)) → count_pairs D S p ≤ count_pairs D S q
  unfolding count_pairs
  count_mono h =
      sum_mono D.n (λ t. sum_below S.n (λ s. one (p t s))) (λ t. sum_below S.n (λ s. one (q t s)))
      (λ t l. sum_mono S.n (λ s. one (p t s)) (λ s. one (q t s)) (λ s k. one_mono (p t s) (q t s) (h t s l k)))

  -- a set inside another and no smaller is the other
  pub count_same : ((t s : ℕ) → t < D.n → s < S.n → T (p t s) → T (q t s)) → count_pairs D S q ≤ count_pairs D S p
      → (t s : ℕ) → t < D.n → s < S.n → T (q t s) → T (p t s)
  unfolding count_pairs
  count_same h e t s l k =
      one_back (p t s) (q t s)
      (sum_same S.n (λ s. one (p t s)) (λ s. one (q t s)) (λ s k. one_mono (p t s) (q t s) (h t s l k))
      (sum_same D.n (λ t. sum_below S.n (λ s. one (p t s))) (λ t. sum_below S.n (λ s. one (q t s)))
      (λ t l. sum_mono S.n (λ s. one (p t s)) (λ s. one (q t s)) (λ s k. one_mono (p t s) (q t s) (h t s l k))) e t l)
      s k)

  pub count_cong : ((t s : ℕ) → t < D.n → s < S.n → p t s ≡ q t s) → count_pairs D S p ≡ count_pairs D S q
  unfolding count_pairs
  count_cong h =
      sum-cong D.n (λ t. sum_below S.n (λ s. one (p t s))) (λ t. sum_below S.n (λ s. one (q t s)))
      (λ t l. sum-cong S.n (λ s. one (p t s)) (λ s. one (q t s)) (λ s k. ap one (h t s l k)))

-- one pair passes
pub count_one : (D S : Machine) (p : ℕ → ℕ → Bool) (u v : ℕ) → u < D.n → v < S.n → T (p u v) → ((t s : ℕ) → T (p t s) → (t ≡ u) × (s ≡ v))
    → count_pairs D S p ≡ 1
unfolding count_pairs
count_one D S p u v l k h alone =
    sum-single D.n (λ t. sum_below S.n (λ s. one (p t s))) u l
    (λ t m d. sum-cong S.n (λ s. one (p t s)) (λ s. 0) (λ s i. none t s (λ x. d (alone t s x).0)) ∙ sum-const S.n 0 ∙ omega arith)
    ∙ sum-single S.n (λ s. one (p u s)) v k (λ s i d. none u s (λ x. d (alone u s x).1))
    ∙ ap one (T_true (p u v) h)
  where
    none : (t s : ℕ) → (T (p t s) → ⊥) → one (p t s) ≡ 0
    none t s n = ap one (T_false (p t s) n)

-- none passes
pub count_none : (D S : Machine) (p : ℕ → ℕ → Bool) → ((t s : ℕ) → t < D.n → s < S.n → T (p t s) → ⊥) → count_pairs D S p ≡ 0
unfolding count_pairs
count_none D S p f =
    sum-cong D.n (λ t. sum_below S.n (λ s. one (p t s))) (λ t. 0)
    (λ t l. sum-cong S.n (λ s. one (p t s)) (λ s. 0) (λ s k. ap one (T_false (p t s) (f t s l k))) ∙ sum-const S.n 0 ∙ omega arith)
    ∙ sum-const D.n 0 ∙ omega arith

-- some pair passes
pub count_some : (D S : Machine) (p : ℕ → ℕ → Bool) (u v : ℕ) → u < D.n → v < S.n → T (p u v) → 1 ≤ count_pairs D S p
count_some D S p u v l k h = go (count_pairs D S p) refl
  where
    go : (m : ℕ) → count_pairs D S p ≡ m → 1 ≤ m
    go zero e = absurd (count_same D S (λ t s. false) p (λ t s i j x. absurd x) (omega arith) u v l k h)
    go (suc m) e = omega arith

-- where each pair counts for a third test what it counts for two together, so do all pairs
pub count_add : (D S : Machine) (p q r : ℕ → ℕ → Bool) → ((t s : ℕ) → t < D.n → s < S.n → one (p t s) + one (q t s) ≡ one (r t s))
    → count_pairs D S p + count_pairs D S q ≡ count_pairs D S r
unfolding count_pairs
count_add D S p q r h =
    sym (sum-add D.n (λ t. sum_below S.n (λ s. one (p t s))) (λ t. sum_below S.n (λ s. one (q t s))))
    ∙ sum-cong D.n (λ t. sum_below S.n (λ s. one (p t s)) + sum_below S.n (λ s. one (q t s))) (λ t. sum_below S.n (λ s. one (r t s)))
    (λ t l. sym (sum-add S.n (λ s. one (p t s)) (λ s. one (q t s))) ∙ sum-cong S.n (λ s. one (p t s) + one (q t s)) (λ s. one (r t s)) (λ s k. h t s l k))

pub count_all : (D S : Machine) → count_pairs D S (λ t s. true) ≡ D.n * S.n
unfolding count_pairs
count_all D S = sum-cong D.n (λ t. sum_below S.n (λ s. 1)) (λ t. S.n) (λ t l. sum-const S.n 1 ∙ mul-one S.n) ∙ sum-const D.n S.n

-- those that pass and those that fail are all
pub count_not : (D S : Machine) (p : ℕ → ℕ → Bool) → count_pairs D S p + count_pairs D S (λ t s. not (p t s)) ≡ D.n * S.n
count_not D S p = count_add D S p (λ t s. not (p t s)) (λ t s. true) (λ t s l k. one_not (p t s)) ∙ count_all D S
