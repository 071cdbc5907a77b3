-- Laws of lists: what `any`, `all`, `first` and `keep_if` mean, and how they and `flat_map` go over elements and over lists end to end. Relies on nothing.
use Prim.Native.Nat.{ℕ, zero, suc, ◌+◌, ◌*◌, ◌<◌, ◌≤◌}
use mathlib.Core.Path.{◌≡◌, refl, sym, ap, ap₂, ◌∙◌, subst}
use mathlib.Core.Bool.{Bool, true, false, not, cond, ◌&&◌, ◌||◌}
use mathlib.Core.List.Memᴰ
use mathlib.Core.List.{List, [], ◌∷◌, ◌++◌, map, flat_map, append_assoc, Memᴰ}
use mathlib.Core.Logic.{◌⊎◌, inl, inr}
use native.Mathlib.Omega.{arith}
use native.Mathlib.Nat.{mul-zero, mul-suc}
use lib.Dec.{T}
use lib.ListN.{length, get_or, take, drop, length-append}
use lib.Seq.{take_at, drop-append-add}
use Rattle.rules.specs.Lists.{any, all, first, is_empty, cons_if, keep_if, Pairwise}
use Rattle.rules.proofs.Booleans.{T-or, T_true, T_false, or_false_l, or_false_r, and_i, and_l, and_r, or_l, or_r, or_cases, or_assoc, and_assoc}

-- ---- tests

module _ {A : Type 0} (p : A → Bool) where
  pub any_some : (l : List A) → T (any p l) → (x : A) × Memᴰ x l × T (p x)
  any_some [] t = absurd t
  any_some (x ∷ xs) t = go (or_cases (p x) (any p xs) t) (any_some xs)
    where
      go : T (p x) ⊎ T (any p xs) → (T (any p xs) → (y : A) × Memᴰ y xs × T (p y)) → (y : A) × Memᴰ y (x ∷ xs) × T (p y)
      go (inl h) more = (x, Memᴰ.head refl, h)
      go (inr h) more = ((more h).0, Memᴰ.tail (more h).1, (more h).2)

  pub some_any : {x : A} {l : List A} → Memᴰ x l → T (p x) → T (any p l)
  some_any (Memᴰ.head {x = x} {xs = xs} e) t = or_l (p x) (any p xs) (subst (λ (z : A). T (p z)) e t)
  some_any (Memᴰ.tail {x = x} {xs = xs} m) t = or_r (p x) (any p xs) (some_any m t)

  pub all-each : {x : A} {l : List A} → T (all p l) → Memᴰ x l → T (p x)
  all-each t (Memᴰ.head {x = x} {xs = xs} e) = subst (λ (z : A). T (p z)) (sym e) (and_l (p x) (all p xs) t)
  all-each t (Memᴰ.tail {x = x} {xs = xs} m) = all-each (and_r (p x) (all p xs) t) m

  pub each_all : (l : List A) → ((x : A) → Memᴰ x l → T (p x)) → T (all p l)
  each_all [] f = tt
  each_all (x ∷ xs) f = and_i (p x) (all p xs) (f x (Memᴰ.head refl)) (each_all xs (λ y m. f y (Memᴰ.tail m)))

  pub any_append : (l r : List A) → any p (l ++ r) ≡ (any p l || any p r)
  any_append [] r = refl
  any_append (x ∷ xs) r = ap (λ (b : Bool). p x || b) (any_append xs r) ∙ sym (or_assoc (p x) (any p xs) (any p r))

  pub all_append : (l r : List A) → all p (l ++ r) ≡ (all p l && all p r)
  all_append [] r = refl
  all_append (x ∷ xs) r = ap (λ (b : Bool). p x && b) (all_append xs r) ∙ sym (and_assoc (p x) (all p xs) (all p r))

  -- where all do not pass, some one does not
  pub all-fails : (l : List A) → (T (all p l) → ⊥) → (x : A) × Memᴰ x l × (T (p x) → ⊥)
  all-fails [] f = absurd (f tt)
  all-fails (x ∷ xs) f = go (T-or (p x)) (all-fails xs)
    where
      go : T (p x) ⊎ (T (p x) → ⊥) → ((T (all p xs) → ⊥) → (y : A) × Memᴰ y xs × (T (p y) → ⊥)) → (y : A) × Memᴰ y (x ∷ xs) × (T (p y) → ⊥)
      go (inl h) more = let (y, m, n) = more (λ k. f (and_i (p x) (all p xs) h k)) in (y, Memᴰ.tail m, n)
      go (inr n) more = (x, Memᴰ.head refl, n)

module _ {A : Type 0} where
  pub some_element : (l : List A) → T (not (is_empty l)) → (x : A) × Memᴰ x l
  some_element [] t = absurd t
  some_element (x ∷ xs) t = (x, Memᴰ.head refl)

  pub element_some : {l : List A} {x : A} → Memᴰ x l → T (not (is_empty l))
  element_some (Memᴰ.head e) = tt
  element_some (Memᴰ.tail m) = tt

-- ---- the first element that passes

module _ {A : Type 0} (p : A → Bool) (other : A) where
  first_hit : (x : A) (xs : List A) → T (p x) → first p other (x ∷ xs) ≡ x
  first_hit x xs h = rw (T_true (p x) h) refl

  first_miss : (x : A) (xs : List A) → (T (p x) → ⊥) → first p other (x ∷ xs) ≡ first p other xs
  first_miss x xs n = rw (T_false (p x) n) refl

  -- where some element passes, the first is one of them
  pub first_passes : (l : List A) → T (any p l) → Memᴰ (first p other l) l × T (p (first p other l))
  first_passes [] t = absurd t
  first_passes (x ∷ xs) t = go (T-or (p x)) (or_cases (p x) (any p xs) t) (first_passes xs)
    where
      go : T (p x) ⊎ (T (p x) → ⊥) → T (p x) ⊎ T (any p xs) → (T (any p xs) → Memᴰ (first p other xs) xs × T (p (first p other xs)))
          → Memᴰ (first p other (x ∷ xs)) (x ∷ xs) × T (p (first p other (x ∷ xs)))
      go (inl h) d more = (Memᴰ.head (first_hit x xs h), subst (λ (z : A). T (p z)) (sym (first_hit x xs h)) h)
      go (inr n) (inl h) more = absurd (n h)
      go (inr n) (inr h) more = (
        Memᴰ.tail (subst (λ (z : A). Memᴰ z xs) (sym (first_miss x xs n)) (more h).0),
        subst (λ (z : A). T (p z)) (sym (first_miss x xs n)) (more h).1,
      )

  -- and in a list in order no element that passes comes before it
  pub first_least : (R : A → A → Type 0) → ((x y : A) → R x y → R y x → ⊥) → (l : List A) → Pairwise R l → (x : A) → Memᴰ x l → T (p x) → R x (first p other l) → ⊥
  first_least R asym [] o x m h r = absurd (Memᴰ.not-nil m)
  first_least R asym (y ∷ ys) o x m h r = go (T-or (p y)) (Memᴰ.cases_cons m) (first_least R asym ys o.1 x)
    where
      go : T (p y) ⊎ (T (p y) → ⊥) → (x ≡ y) ⊎ Memᴰ x ys → (Memᴰ x ys → T (p x) → R x (first p other ys) → ⊥) → ⊥
      go (inl k) (inl e) more = let z : R x x = subst (R x) (first_hit y ys k ∙ sym e) r in asym x x z z
      go (inl k) (inr n) more = asym x y (subst (R x) (first_hit y ys k) r) (o.0 x n)
      go (inr n) (inl e) more = n (subst (λ (z : A). T (p z)) e h)
      go (inr n) (inr k) more = more k h (subst (R x) (first_miss y ys n) r)

-- ---- the elements that pass

module _ {A : Type 0} where
  pub cons_if-tail : (b : Bool) (x : A) {xs : List A} {y : A} → Memᴰ y xs → Memᴰ y (cons_if b x xs)
  cons_if-tail true x m = Memᴰ.tail m
  cons_if-tail false x m = m

  pub cons_if-head : (b : Bool) (x : A) (xs : List A) {y : A} → T b → y ≡ x → Memᴰ y (cons_if b x xs)
  cons_if-head true x xs t e = Memᴰ.head e
  cons_if-head false x xs t e = absurd t

  pub cons_if-cases : (b : Bool) (x : A) {xs : List A} {y : A} → Memᴰ y (cons_if b x xs) → (T b × (y ≡ x)) ⊎ Memᴰ y xs
  cons_if-cases true x m = go (Memᴰ.cases_cons m)
    where
      go : {xs : List A} {y : A} → (y ≡ x) ⊎ Memᴰ y xs → (Unit {0} × (y ≡ x)) ⊎ Memᴰ y xs
      go (inl e) = inl (tt, e)
      go (inr n) = inr n
  cons_if-cases false x m = inr m

  pub cons_if-append : (b : Bool) (x : A) (l r : List A) → cons_if b x (l ++ r) ≡ cons_if b x l ++ r
  cons_if-append true x l r = refl
  cons_if-append false x l r = refl

module _ {A : Type 0} (p : A → Bool) where
  pub keep_if-mem : {x : A} {l : List A} → Memᴰ x l → T (p x) → Memᴰ x (keep_if p l)
  keep_if-mem (Memᴰ.head {x = x} {xs = xs} e) t = cons_if-head (p x) x (keep_if p xs) (subst (λ (z : A). T (p z)) e t) e
  keep_if-mem (Memᴰ.tail {x = x} m) t = cons_if-tail (p x) x (keep_if-mem m t)

  pub mem_keep_if : (l : List A) {x : A} → Memᴰ x (keep_if p l) → Memᴰ x l × T (p x)
  mem_keep_if [] m = absurd (Memᴰ.not-nil m)
  mem_keep_if (x ∷ xs) {x = y} m = go (cons_if-cases (p x) x m) (λ n. mem_keep_if xs n)
    where
      go : (T (p x) × (y ≡ x)) ⊎ Memᴰ y (keep_if p xs) → (Memᴰ y (keep_if p xs) → Memᴰ y xs × T (p y)) → Memᴰ y (x ∷ xs) × T (p y)
      go (inl h) more = (Memᴰ.head h.1, subst (λ (z : A). T (p z)) (sym h.1) h.0)
      go (inr n) more = (Memᴰ.tail (more n).0, (more n).1)

  pub keep_if-append : (l r : List A) → keep_if p (l ++ r) ≡ keep_if p l ++ keep_if p r
  keep_if-append [] r = refl
  keep_if-append (x ∷ xs) r = ap (cons_if (p x) x) (keep_if-append xs r) ∙ cons_if-append (p x) x (keep_if p xs) (keep_if p r)

  pub keep_if-few : (l : List A) → length (keep_if p l) ≤ length l
  keep_if-few [] = omega arith
  keep_if-few (x ∷ xs) = go (p x) (keep_if-few xs)
    where
      go : (b : Bool) → length (keep_if p xs) ≤ length xs → length (cons_if b x (keep_if p xs)) ≤ length (x ∷ xs)
      go true h = omega arith
      go false h = omega arith

  -- where none passes
  pub keep_if-none : (l : List A) → any p l ≡ false → keep_if p l ≡ []
  keep_if-none [] e = refl
  keep_if-none (x ∷ xs) e = ap (λ (b : Bool). cons_if b x (keep_if p xs)) (or_false_l (p x) (any p xs) e) ∙ keep_if-none xs (or_false_r (p x) (any p xs) e)

-- ---- only the values at the elements matter

module _ {A : Type 0} (p q : A → Bool) where
  pub all-cong : (l : List A) → ((x : A) → Memᴰ x l → p x ≡ q x) → all p l ≡ all q l
  all-cong [] f = refl
  all-cong (x ∷ xs) f = ap₂ (λ (a b : Bool). a && b) (f x (Memᴰ.head refl)) (all-cong xs (λ y m. f y (Memᴰ.tail m)))

  pub any-cong : (l : List A) → ((x : A) → Memᴰ x l → p x ≡ q x) → any p l ≡ any q l
  any-cong [] f = refl
  any-cong (x ∷ xs) f = ap₂ (λ (a b : Bool). a || b) (f x (Memᴰ.head refl)) (any-cong xs (λ y m. f y (Memᴰ.tail m)))

  pub first_cong : (other : A) (l : List A) → ((x : A) → Memᴰ x l → p x ≡ q x) → first p other l ≡ first q other l
  first_cong other [] f = refl
  first_cong other (x ∷ xs) f = ap₂ (λ (b : Bool) (z : A). cond b x z) (f x (Memᴰ.head refl)) (first_cong other xs (λ y m. f y (Memᴰ.tail m)))

  pub keep_if-cong : (l : List A) → ((x : A) → Memᴰ x l → p x ≡ q x) → keep_if p l ≡ keep_if q l
  keep_if-cong [] f = refl
  keep_if-cong (x ∷ xs) f = ap₂ (λ (b : Bool) (l : List A). cons_if b x l) (f x (Memᴰ.head refl)) (keep_if-cong xs (λ y m. f y (Memᴰ.tail m)))

-- ---- lists made of other lists' elements

module _ {A B : Type 0} (f : A → B) where
  pub map-mem : {x : A} {l : List A} → Memᴰ x l → Memᴰ (f x) (map f l)
  map-mem (Memᴰ.head e) = Memᴰ.head (ap f e)
  map-mem (Memᴰ.tail m) = Memᴰ.tail (map-mem m)

  pub mem_map : (l : List A) {y : B} → Memᴰ y (map f l) → (x : A) × Memᴰ x l × (y ≡ f x)
  mem_map [] m = absurd (Memᴰ.not-nil m)
  mem_map (x ∷ xs) {y} m = go (Memᴰ.cases_cons m) (λ n. mem_map xs n)
    where
      go : (y ≡ f x) ⊎ Memᴰ y (map f xs) → (Memᴰ y (map f xs) → (z : A) × Memᴰ z xs × (y ≡ f z)) → (z : A) × Memᴰ z (x ∷ xs) × (y ≡ f z)
      go (inl e) more = (x, Memᴰ.head refl, e)
      go (inr n) more = ((more n).0, Memᴰ.tail (more n).1, (more n).2)

  pub any-map : (p : B → Bool) (l : List A) → any p (map f l) ≡ any (λ x. p (f x)) l
  any-map p [] = refl
  any-map p (x ∷ xs) = ap (λ (b : Bool). p (f x) || b) (any-map p xs)

  pub map-append : (l r : List A) → map f (l ++ r) ≡ map f l ++ map f r
  map-append [] r = refl
  map-append (x ∷ xs) r = ap (λ (l : List B). f x ∷ l) (map-append xs r)

  pub keep_if-map : (p : B → Bool) (l : List A) → keep_if p (map f l) ≡ map f (keep_if (λ x. p (f x)) l)
  keep_if-map p [] = refl
  keep_if-map p (x ∷ xs) = go (p (f x)) (keep_if-map p xs)
    where
      go : (b : Bool) → keep_if p (map f xs) ≡ map f (keep_if (λ x. p (f x)) xs) → cons_if b (f x) (keep_if p (map f xs)) ≡ map f (cons_if b x (keep_if (λ x. p (f x)) xs))
      go true e = ap (λ (z : List B). f x ∷ z) e
      go false e = e

module _ {A B : Type 0} (f : A → List B) where
  pub mem_flat_map : (l : List A) {y : B} → Memᴰ y (flat_map f l) → (x : A) × Memᴰ x l × Memᴰ y (f x)
  unfolding flat_map
  mem_flat_map [] m = absurd (Memᴰ.not-nil m)
  mem_flat_map (x ∷ xs) {y} m = go (Memᴰ.append_cases (f x) m) (λ n. mem_flat_map xs n)
    where
      go : Memᴰ y (f x) ⊎ Memᴰ y (flat_map f xs) → (Memᴰ y (flat_map f xs) → (z : A) × Memᴰ z xs × Memᴰ y (f z))
          → (z : A) × Memᴰ z (x ∷ xs) × Memᴰ y (f z)
      go (inl h) more = (x, Memᴰ.head refl, h)
      go (inr n) more = ((more n).0, Memᴰ.tail (more n).1, (more n).2)

  pub flat_map-mem : {x : A} {l : List A} {y : B} → Memᴰ x l → Memᴰ y (f x) → Memᴰ y (flat_map f l)
  unfolding flat_map
  flat_map-mem {y = y} (Memᴰ.head {x = x} {xs = xs} e) n = Memᴰ.append_left (flat_map f xs) (subst (λ (z : A). Memᴰ y (f z)) e n)
  flat_map-mem (Memᴰ.tail {x = x} m) n = Memᴰ.append_right (f x) (flat_map-mem m n)

  pub flat_map-append : (l r : List A) → flat_map f (l ++ r) ≡ flat_map f l ++ flat_map f r
  unfolding flat_map
  flat_map-append [] r = refl
  flat_map-append (x ∷ xs) r = ap (λ (z : List B). f x ++ z) (flat_map-append xs r) ∙ sym (append_assoc (f x) (flat_map f xs) (flat_map f r))

  pub flat_map-cong : (g : A → List B) (l : List A) → ((x : A) → Memᴰ x l → f x ≡ g x) → flat_map f l ≡ flat_map g l
  unfolding flat_map
  flat_map-cong g [] h = refl
  flat_map-cong g (x ∷ xs) h = ap₂ (λ (a b : List B). a ++ b) (h x (Memᴰ.head refl)) (flat_map-cong g xs (λ y m. h y (Memᴰ.tail m)))

  pub keep_if-flat_map : (p : B → Bool) (l : List A) → keep_if p (flat_map f l) ≡ flat_map (λ x. keep_if p (f x)) l
  unfolding flat_map
  keep_if-flat_map p [] = refl
  keep_if-flat_map p (x ∷ xs) = keep_if-append p (f x) (flat_map f xs) ∙ ap (λ (z : List B). keep_if p (f x) ++ z) (keep_if-flat_map p xs)

-- ---- every two elements

module _ {A : Type 0} (R : A → A → Type 0) where
  pub pairwise_append : (l r : List A) → Pairwise R l → Pairwise R r → ((x y : A) → Memᴰ x l → Memᴰ y r → R x y) → Pairwise R (l ++ r)
  pairwise_append [] r p q f = q
  pairwise_append (x ∷ xs) r p q f =
      (λ y m. later y (Memᴰ.append_cases xs m), pairwise_append xs r p.1 q (λ u v m n. f u v (Memᴰ.tail m) n))
    where
      later : (y : A) → Memᴰ y xs ⊎ Memᴰ y r → R x y
      later y (inl m) = p.0 y m
      later y (inr n) = f x y (Memᴰ.head refl) n

  pub pairwise-cons_if : (b : Bool) (x : A) (l : List A) → ((y : A) → Memᴰ y l → R x y) → Pairwise R l → Pairwise R (cons_if b x l)
  pairwise-cons_if true x l f p = (f, p)
  pairwise-cons_if false x l f p = p

  pub pairwise-keep_if : (p : A → Bool) (l : List A) → Pairwise R l → Pairwise R (keep_if p l)
  pairwise-keep_if p [] h = h
  pairwise-keep_if p (x ∷ xs) h = pairwise-cons_if (p x) x (keep_if p xs) (λ y m. h.0 y (mem_keep_if p xs m).0) (pairwise-keep_if p xs h.1)

module _ {A : Type 0} (Q R : A → A → Type 0) (f : (x y : A) → Q x y → R x y) where
  pub pairwise-weaken : (l : List A) → Pairwise Q l → Pairwise R l
  pairwise-weaken [] p = tt
  pairwise-weaken (x ∷ xs) p = (λ y m. f x y (p.0 y m), pairwise-weaken xs p.1)

module _ {A B : Type 0} (Q : A → A → Type 0) (R : B → B → Type 0) where
  pub pairwise_map : (f : A → B) (l : List A) → ((x y : A) → Q x y → R (f x) (f y)) → Pairwise Q l → Pairwise R (map f l)
  pairwise_map f [] h p = tt
  pairwise_map f (x ∷ xs) h p = (λ y m. later y (mem_map f xs m), pairwise_map f xs h p.1)
    where
      later : (y : B) → (z : A) × Memᴰ z xs × (y ≡ f z) → R (f x) y
      later y (z, m, e) = subst (R (f x)) (sym e) (h x z (p.0 z m))

  -- R within each list f x, and from a list to every later one
  pub pairwise-flat_map : (f : A → List B) (l : List A) → ((x : A) → Pairwise R (f x))
      → ((x y : A) → Q x y → (u v : B) → Memᴰ u (f x) → Memᴰ v (f y) → R u v) → Pairwise Q l → Pairwise R (flat_map f l)
  unfolding flat_map
  pairwise-flat_map f [] within across p = tt
  pairwise-flat_map f (x ∷ xs) within across p =
      pairwise_append R (f x) (flat_map f xs) (within x) (pairwise-flat_map f xs within across p.1)
      (λ u v m n. later u v m (mem_flat_map f xs n))
    where
      later : (u v : B) → Memᴰ u (f x) → (z : A) × Memᴰ z xs × Memᴰ v (f z) → R u v
      later u v m (z, k, n) = across x z (p.0 z k) u v m n

-- two lists in one strict order with the same elements are the same
module _ {A : Type 0} (R : A → A → Type 0) (asym : (x y : A) → R x y → R y x → ⊥) where
  pub one_order : (l r : List A) → Pairwise R l → Pairwise R r → ((x : A) → Memᴰ x l → Memᴰ x r) → ((x : A) → Memᴰ x r → Memᴰ x l) → l ≡ r
  one_order [] [] p q f g = refl
  one_order [] (y ∷ ys) p q f g = absurd (Memᴰ.not-nil (g y (Memᴰ.head refl)))
  one_order (x ∷ xs) [] p q f g = absurd (Memᴰ.not-nil (f x (Memᴰ.head refl)))
  one_order (x ∷ xs) (y ∷ ys) p q f g = ap₂ (λ (z : A) (zs : List A). z ∷ zs) same (one_order xs ys p.1 q.1 there back)
    where
      heads : (x ≡ y) ⊎ Memᴰ x ys → (y ≡ x) ⊎ Memᴰ y xs → x ≡ y
      heads (inl e) k = e
      heads (inr m) (inl e) = sym e
      heads (inr m) (inr k) = absurd (asym x y (p.0 y k) (q.0 x m))

      same : x ≡ y
      same = heads (Memᴰ.cases_cons (f x (Memᴰ.head refl))) (Memᴰ.cases_cons (g y (Memᴰ.head refl)))

      there : (z : A) → Memᴰ z xs → Memᴰ z ys
      there z m = go (Memᴰ.cases_cons (f z (Memᴰ.tail m)))
        where
          go : (z ≡ y) ⊎ Memᴰ z ys → Memᴰ z ys
          go (inl e) = let h : R x x = subst (R x) (e ∙ sym same) (p.0 z m) in absurd (asym x x h h)
          go (inr k) = k

      back : (z : A) → Memᴰ z ys → Memᴰ z xs
      back z m = go (Memᴰ.cases_cons (g z (Memᴰ.tail m)))
        where
          go : (z ≡ x) ⊎ Memᴰ z xs → Memᴰ z xs
          go (inl e) = let h : R y y = subst (R y) (e ∙ same) (q.0 z m) in absurd (asym y y h h)
          go (inr k) = k

-- ---- elements by their place

module _ {A : Type 0} (d : A) where
  pub get_or-mem : (l : List A) (i : ℕ) → i < length l → Memᴰ (get_or l i d) l
  get_or-mem [] i h = absurd (omega arith)
  get_or-mem (x ∷ xs) zero h = Memᴰ.head refl
  get_or-mem (x ∷ xs) (suc i) h = Memᴰ.tail (get_or-mem xs i (omega arith))

  pub mem_get_or : {x : A} {l : List A} → Memᴰ x l → (i : ℕ) × (i < length l) × (get_or l i d ≡ x)
  mem_get_or (Memᴰ.head e) = (0, omega arith, sym e)
  mem_get_or (Memᴰ.tail m) = let (i, h, e) = mem_get_or m in (suc i, omega arith, e)

  pub pairwise-get_or : (R : A → A → Type 0) (l : List A) → Pairwise R l → (i j : ℕ) → i < j → j < length l → R (get_or l i d) (get_or l j d)
  pairwise-get_or R [] p i j k h = absurd (omega arith)
  pairwise-get_or R (x ∷ xs) p i zero k h = absurd (omega arith)
  pairwise-get_or R (x ∷ xs) p zero (suc j) k h = p.0 (get_or xs j d) (get_or-mem xs j (omega arith))
  pairwise-get_or R (x ∷ xs) p (suc i) (suc j) k h = pairwise-get_or R xs p.1 i j (omega arith) (omega arith)

-- lists of w elements each, one after the other: how many elements, and those from w × i on are the i-th list
module _ {A B : Type 0} (f : A → List B) (w : ℕ) (long : (x : A) → length (f x) ≡ w) where
  pub length-flat_map : (l : List A) → length (flat_map f l) ≡ w * length l
  unfolding flat_map
  length-flat_map [] = sym (mul-zero w)
  length-flat_map (x ∷ xs) = omega (arith, length-append (f x) (flat_map f xs), length-flat_map xs, long x, mul-suc w (length xs))

  pub flat_map-part : (d : A) (l : List A) (rest : List B) (i : ℕ) → i < length l → take w (drop (w * i) (flat_map f l ++ rest)) ≡ f (get_or l i d)
  unfolding flat_map
  flat_map-part d [] rest i h = absurd (omega arith)
  flat_map-part d (x ∷ xs) rest zero h =
      ap₂ (λ (k : ℕ) (l : List B). take w (drop k l)) (mul-zero w) (append_assoc (f x) (flat_map f xs) rest) ∙ take_at (f x) (flat_map f xs ++ rest) w (long x)
  flat_map-part d (x ∷ xs) rest (suc i) h =
      let next : w * suc i ≡ length (f x) + w * i = omega (arith, long x, mul-suc w i) in
      ap₂ (λ (k : ℕ) (l : List B). take w (drop k l)) next (append_assoc (f x) (flat_map f xs) rest)
      ∙ ap (take w) (drop-append-add (f x) (flat_map f xs ++ rest) (w * i)) ∙ flat_map-part d xs rest i (omega arith)

-- every element that passes p passes q exactly if none passes both p and the opposite of q
pub all_any : {A : Type 0} (p q r : A → Bool) → ((x : A) → r x ≡ not (q x)) → (l : List A) → all (λ x. not (p x) || q x) l ≡ not (any (λ x. p x && r x) l)
all_any p q r e [] = refl
all_any p q r e (x ∷ xs) = go (p x) (q x) (all (λ y. not (p y) || q y) xs) (any (λ y. p y && r y) xs) (e x) (all_any p q r e xs)
  where
    go : (a b c d : Bool) → r x ≡ not b → c ≡ not d → ((not a || b) && c) ≡ not ((a && r x) || d)
    go false b c d f h = h
    go true true c d f h = h ∙ ap (λ (y : Bool). not (y || d)) (sym f)
    go true false c d f h = ap (λ (y : Bool). not (y || d)) (sym f)
