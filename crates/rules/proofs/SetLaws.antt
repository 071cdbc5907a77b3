-- Laws of sets of any width: the operations and inclusion agree with the reading resource by resource, inclusion is an order, and what is
-- below 2 ^ w has the resources below w alone. Relies on nothing.
use Prim.Native.Nat.{ℕ, zero, suc, ◌-◌, ◌/◌, ◌%◌, ◌^◌, ◌≤◌, ◌<◌, min, max}
use mathlib.Core.Path.{◌≡◌, refl, sym, ap, ap₂, ◌∙◌, subst}
use mathlib.Core.Bool.{Bool, true, false, not, ◌&&◌, ◌||◌, true≢false}
use mathlib.Core.Logic.{◌⊎◌, inl, inr, ◌↔◌}
use native.Mathlib.Omega.{arith}
use Rattle.std.proofs.Math.Bool.{not-not}
use native.Mathlib.Nat.{div-one, div-div-eq-div-mul, pow-suc, mul_comm, div-eq_of_lt, lt_of_lt_of_le}
use lib.Dec.{T, T_not, not_T, eqb, eqb→eq, ltb, ltb→lt, nltb→le}
use lib.Arith.{bin_ind, lt_of_le-ne}
use lib.Bits.{bit_and, bit_or, and_step, or_step, and_comm, and_self, and_le_l, and_le_r, or_lt}
use lib.Pow.{pow_mono}
use Rattle.rules.specs.Sets.{has, intersection, union, difference, disjoint, shares_outside, inside, larger}
use Rattle.rules.proofs.Booleans.{T-same, T_true, T_false, T-or, eq-T, and_i, and_l, and_r, or_i, or_cases}

-- ---- one digit at a time

has_first : (a : ℕ) → has 0 a ≡ eqb (a % 2) 1
unfolding has
has_first a = ap (λ (x : ℕ). eqb (x % 2) 1) (div-one a)

has-next : (r a : ℕ) → has (suc r) a ≡ has r (a / 2)
unfolding has
has-next r a = ap (λ (x : ℕ). eqb (x % 2) 1) (sym (div-div-eq-div-mul a 2 (2 ^ r) ∙ ap (λ (x : ℕ). a / x) (mul_comm 2 (2 ^ r) ∙ sym (pow-suc 2 r))))

-- an operation f on sets that goes digit by digit, as g goes on tests
module _ (f : ℕ → ℕ → ℕ) (g : Bool → Bool → Bool)
    (half : (a b : ℕ) → f a b / 2 ≡ f (a / 2) (b / 2))
    (low : (a b : ℕ) → eqb (f a b % 2) 1 ≡ g (eqb (a % 2) 1) (eqb (b % 2) 1)) where
  by_digits : (r a b : ℕ) → has r (f a b) ≡ g (has r a) (has r b)
  by_digits zero a b = has_first (f a b) ∙ low a b ∙ ap₂ g (sym (has_first a)) (sym (has_first b))
  by_digits (suc r) a b =
      has-next r (f a b) ∙ ap (has r) (half a b) ∙ by_digits r (a / 2) (b / 2) ∙ ap₂ g (sym (has-next r a)) (sym (has-next r b))

-- a fact of two digits, by their four cases
digits : (P : ℕ → ℕ → Type 0) → P 0 0 → P 0 1 → P 1 0 → P 1 1 → (a b : ℕ) → P (a % 2) (b % 2)
digits P p00 p01 p10 p11 a b = go (a % 2) (b % 2) (omega arith) (omega arith)
  where
    go : (x y : ℕ) → x < 2 → y < 2 → P x y
    go zero zero h k = p00
    go zero (suc zero) h k = p01
    go zero (suc (suc y)) h k = absurd (omega arith)
    go (suc zero) zero h k = p10
    go (suc zero) (suc zero) h k = p11
    go (suc zero) (suc (suc y)) h k = absurd (omega arith)
    go (suc (suc x)) y h k = absurd (omega arith)

-- a digit that is not 1 is 0
even : (a : ℕ) → (T (eqb (a % 2) 1) → ⊥) → a % 2 ≡ 0
even a n = digits (λ x y. (T (eqb x 1) → ⊥) → x ≡ 0) (λ f. refl) (λ f. refl) (λ f. absurd (f tt)) (λ f. absurd (f tt)) a a n

-- ---- the operations, resource by resource

and_low : (a b : ℕ) → bit_and a b % 2 ≡ min (a % 2) (b % 2)
and_low a b = omega (arith, and_step a b)

and_half : (a b : ℕ) → bit_and a b / 2 ≡ bit_and (a / 2) (b / 2)
and_half a b = omega (arith, and_step a b)

pub has-intersection : (r a b : ℕ) → has r (intersection a b) ≡ (has r a && has r b)
unfolding intersection
has-intersection =
    by_digits bit_and ◌&&◌ and_half
    (λ a b. ap (λ (x : ℕ). eqb x 1) (and_low a b) ∙ digits (λ x y. eqb (min x y) 1 ≡ (eqb x 1 && eqb y 1)) refl refl refl refl a b)

pub has-union : (r a b : ℕ) → has r (union a b) ≡ (has r a || has r b)
unfolding union
has-union = by_digits bit_or ◌||◌ half low
  where
    half : (a b : ℕ) → bit_or a b / 2 ≡ bit_or (a / 2) (b / 2)
    half a b = omega (arith, or_step a b)

    low : (a b : ℕ) → eqb (bit_or a b % 2) 1 ≡ (eqb (a % 2) 1 || eqb (b % 2) 1)
    low a b =
        let e : bit_or a b % 2 ≡ max (a % 2) (b % 2) = omega (arith, or_step a b) in
        ap (λ (x : ℕ). eqb x 1) e ∙ digits (λ x y. eqb (max x y) 1 ≡ (eqb x 1 || eqb y 1)) refl refl refl refl a b

pub has-difference : (r a b : ℕ) → has r (difference a b) ≡ (has r a && not (has r b))
unfolding difference
has-difference = by_digits (λ a b. a - bit_and a b) (λ s t. s && not t) half low
  where
    half : (a b : ℕ) → (a - bit_and a b) / 2 ≡ a / 2 - bit_and (a / 2) (b / 2)
    half a b = omega (arith, and_step a b)

    low : (a b : ℕ) → eqb ((a - bit_and a b) % 2) 1 ≡ (eqb (a % 2) 1 && not (eqb (b % 2) 1))
    low a b =
        let e : (a - bit_and a b) % 2 ≡ a % 2 - min (a % 2) (b % 2) = omega (arith, and_step a b, and_le_l a b) in
        ap (λ (x : ℕ). eqb x 1) e ∙ digits (λ x y. eqb (x - min x y) 1 ≡ (eqb x 1 && not (eqb y 1))) refl refl refl refl a b

-- ---- inclusion is an order

pub inside-eq : (a b : ℕ) → T (inside a b) → bit_and a b ≡ a
unfolding inside
inside-eq a b t = eqb→eq (bit_and a b) a t

pub eq_inside : (a b : ℕ) → bit_and a b ≡ a → T (inside a b)
unfolding inside
eq_inside a b e = eq-T (bit_and a b) a e

pub inside-refl : (a : ℕ) → T (inside a a)
inside-refl a = eq_inside a a (and_self a)

pub inside-antisym : (a b : ℕ) → T (inside a b) → T (inside b a) → a ≡ b
inside-antisym a b p q = sym (inside-eq a b p) ∙ and_comm a b ∙ inside-eq b a q

pub inside-le : (a b : ℕ) → T (inside a b) → a ≤ b
inside-le a b p = omega (arith, and_le_r a b, inside-eq a b p)

-- ---- inclusion, resource by resource

pub inside-has : (a b : ℕ) → T (inside a b) → (r : ℕ) → T (has r a) → T (has r b)
unfolding intersection
inside-has a b p r t =
    and_r (has r a) (has r b) (subst T (ap (has r) (sym (inside-eq a b p)) ∙ has-intersection r a b) t)

included : (a b : ℕ) → ((r : ℕ) → T (has r a) → T (has r b)) → bit_and a b ≡ a
included =
    bin_ind (λ (a : ℕ). (b : ℕ) → ((r : ℕ) → T (has r a) → T (has r b)) → bit_and a b ≡ a) (λ b f. refl)
    (λ a more b f.
    let high = more (b / 2) (λ r t. subst T (has-next r b) (f (suc r) (subst T (sym (has-next r a)) t))) in
    let low = digits (λ x y. (T (eqb x 1) → T (eqb y 1)) → min x y ≡ x) (λ g. refl) (λ g. refl) (λ g. absurd (g tt)) (λ g. refl) a b
    (λ t. subst T (has_first b) (f 0 (subst T (sym (has_first a)) t))) in
    omega (arith, and_half a b, and_low a b))

pub has-inside : (a b : ℕ) → ((r : ℕ) → T (has r a) → T (has r b)) → T (inside a b)
has-inside a b f = eq_inside a b (included a b f)

pub inside-trans : (a b c : ℕ) → T (inside a b) → T (inside b c) → T (inside a c)
inside-trans a b c p q = has-inside a c (λ r t. inside-has b c q r (inside-has a b p r t))

-- sets with the same resources are equal
pub same_resources : (a b : ℕ) → ((r : ℕ) → has r a ≡ has r b) → a ≡ b
same_resources a b h = inside-antisym a b (has-inside a b (λ r t. subst T (h r) t)) (has-inside b a (λ r t. subst T (sym (h r)) t))

-- the empty set has no resource
pub has-none : (r : ℕ) → has r 0 ≡ false
unfolding difference
has-none r = has-difference r 0 0 ∙ go (has r 0)
  where
    go : (x : Bool) → (x && not x) ≡ false
    go true = refl
    go false = refl

-- a set is the union of two exactly if its resources are those that are in one or in both
pub union_exactly : (c a b : ℕ) → (c ≡ union a b) ↔ ((r : ℕ) → T (has r c) ↔ (T (has r a) ⊎ T (has r b)))
union_exactly c a b = (
  λ e r. (
    λ t. or_cases (has r a) (has r b) (subst T (has-union r a b) (subst (λ (x : ℕ). T (has r x)) e t)),
    λ s. subst (λ (x : ℕ). T (has r x)) (sym e) (subst T (sym (has-union r a b)) (or_i (has r a) (has r b) s)),
  ),
  λ h. same_resources c (union a b) (λ r.
      T-same (has r c) (has r a || has r b) (λ t. or_i (has r a) (has r b) ((h r).0 t)) (λ t. (h r).1 (or_cases (has r a) (has r b) t))
      ∙ sym (has-union r a b)),
)

-- sets without a common resource
pub apart_empty : (a b : ℕ) → ((r : ℕ) → (has r a && has r b) ≡ false) → intersection a b ≡ 0
apart_empty a b h = same_resources (intersection a b) 0 (λ r. has-intersection r a b ∙ h r ∙ sym (has-none r))

pub disjoint_apart : (a b : ℕ) → T (disjoint a b) → (r : ℕ) → T (has r a) → T (has r b) → ⊥
unfolding disjoint
disjoint_apart a b t r p q =
    let none : has r (intersection a b) ≡ false = ap (has r) (eqb→eq (intersection a b) 0 t) ∙ has-none r in
    true≢false (sym (T_true _ (and_i (has r a) (has r b) p q)) ∙ sym (has-intersection r a b) ∙ none)

pub apart_disjoint : (a b : ℕ) → ((r : ℕ) → T (has r a) → T (has r b) → ⊥) → T (disjoint a b)
unfolding disjoint
apart_disjoint a b h =
    eq-T (intersection a b) 0 (apart_empty a b (λ r. T_false _ (λ t. h r (and_l (has r a) (has r b) t) (and_r (has r a) (has r b) t))))

-- a set that is not empty has a resource
pub some_resource : (a : ℕ) → (a ≡ 0 → ⊥) → (r : ℕ) × T (has r a)
some_resource =
    bin_ind (λ (a : ℕ). (a ≡ 0 → ⊥) → (r : ℕ) × T (has r a)) (λ f. absurd (f refl))
    (λ a more f. go a more f (T-or (eqb (a % 2) 1)))
  where
    go : (a : ℕ) → ((a / 2 ≡ 0 → ⊥) → (r : ℕ) × T (has r (a / 2))) → (a ≡ 0 → ⊥) → T (eqb (a % 2) 1) ⊎ (T (eqb (a % 2) 1) → ⊥) → (r : ℕ) × T (has r a)
    go a more f (inl t) = (0, subst T (sym (has_first a)) t)
    go a more f (inr n) =
        let found = more (λ e. f (let low : a % 2 ≡ 0 = even a n in omega arith)) in
        (suc found.0, subst T (sym (has-next found.0 a)) found.1)

-- ---- strict inclusion

pub larger-differs : (a b : ℕ) → T (larger a b) → a ≡ b → ⊥
unfolding larger
larger-differs a b t e = T_not (eqb a b) (and_r (inside b a) (not (eqb a b)) t) (eq-T a b e)

pub larger-inside : (a b : ℕ) → T (larger a b) → T (inside b a)
unfolding larger
larger-inside a b t = and_l (inside b a) (not (eqb a b)) t

pub larger-i : (a b : ℕ) → T (inside b a) → (a ≡ b → ⊥) → T (larger a b)
unfolding larger
larger-i a b p n = and_i (inside b a) (not (eqb a b)) p (not_T (eqb a b) (λ t. n (eqb→eq a b t)))

pub larger-lt : (a b : ℕ) → T (larger a b) → b < a
larger-lt a b t = lt_of_le-ne (inside-le b a (larger-inside a b t)) (λ e. larger-differs a b t (sym e))

-- a strictly larger set has a resource more
pub larger-has : (a b : ℕ) → T (larger a b) → (r : ℕ) × T (has r a) × (T (has r b) → ⊥)
unfolding difference
larger-has a b t =
    let (r, h) = some_resource (a - bit_and a b) (λ e. larger-differs a b t (go e)) in
    let both : T (has r a && not (has r b)) = subst T (has-difference r a b) h in
    (r, and_l (has r a) (not (has r b)) both, T_not (has r b) (and_r (has r a) (not (has r b)) both))
  where
    go : a - bit_and a b ≡ 0 → a ≡ b
    go e = omega (arith, and_le_l a b, and_comm a b, inside-eq b a (larger-inside a b t))

pub has-larger : (a b r : ℕ) → T (inside b a) → T (has r a) → (T (has r b) → ⊥) → T (larger a b)
has-larger a b r p t n = larger-i a b p (λ e. n (subst (λ (x : ℕ). T (has r x)) e t))

-- the two answers of a comparison
pub same_larger : (a b : ℕ) → a ≡ b → false ≡ larger a b
same_larger a b e = sym (T_false (larger a b) (λ t. larger-differs a b t e))

pub other_larger : (a b : ℕ) (t : Bool) → (a ≡ b → ⊥) → t ≡ inside b a → t ≡ larger a b
other_larger a b t n e = e ∙ T-same (inside b a) (larger a b) (λ p. larger-i a b p n) (λ p. larger-inside a b p)

-- ---- the operations and inclusion

-- nothing of a is outside b exactly if a is inside b
pub empty_inside : (a b : ℕ) → difference a b ≡ 0 → T (inside a b)
unfolding difference
empty_inside a b e = eq_inside a b (omega (arith, and_le_l a b))

pub inside-empty : (a b : ℕ) → T (inside a b) → difference a b ≡ 0
unfolding difference
inside-empty a b p = omega (arith, inside-eq a b p)

pub inside-intersection : (a b : ℕ) → T (inside a b) → intersection a b ≡ a
unfolding intersection
inside-intersection a b p = inside-eq a b p

-- a set has all of a union exactly if it has all of both
pub union_inside : (a b c : ℕ) → T (inside (union a b) c) ↔ (T (inside a c) × T (inside b c))
union_inside a b c = (
  λ t. (
    has-inside a c (λ r p. inside-has (union a b) c t r (((union_exactly (union a b) a b).0 refl r).1 (inl p))),
    has-inside b c (λ r p. inside-has (union a b) c t r (((union_exactly (union a b) a b).0 refl r).1 (inr p))),
  ),
  λ (s, t). has-inside (union a b) c (λ r p. go s t r (((union_exactly (union a b) a b).0 refl r).0 p)),
)
  where
    go : T (inside a c) → T (inside b c) → (r : ℕ) → T (has r a) ⊎ T (has r b) → T (has r c)
    go s t r (inl p) = inside-has a c s r p
    go s t r (inr p) = inside-has b c t r p

-- ---- resources that two sets share outside a common set

-- the test, resource by resource
pub shares_outside-has : (common a b : ℕ) → T (shares_outside common a b) ↔ ((r : ℕ) × T (has r a) × T (has r b) × (T (has r common) → ⊥))
unfolding shares_outside
shares_outside-has common a b = (
  λ t.
      let (r, h) = some_resource (difference both common) (λ e. T_not (inside both common) t (empty_inside both common e)) in
      let apart : T (has r both && not (has r common)) = subst T (has-difference r both common) h in
      let shared : T (has r a && has r b) = subst T (has-intersection r a b) (and_l (has r both) (not (has r common)) apart) in
      (r, and_l (has r a) (has r b) shared, and_r (has r a) (has r b) shared, T_not (has r common) (and_r (has r both) (not (has r common)) apart)),
  λ (r, p, q, n). not_T (inside both common) (λ t. n (inside-has both common t r (subst T (sym (has-intersection r a b)) (and_i (has r a) (has r b) p q)))),
)
  where
    both : ℕ
    both = intersection a b

-- outside the empty set: any resource
pub outside_none : (a b : ℕ) → shares_outside 0 a b ≡ not (disjoint a b)
unfolding shares_outside disjoint
outside_none a b =
    let both = intersection a b in
    ap not (T-same (inside both 0) (eqb both 0) (λ t. eq-T both 0 (let least = inside-le both 0 t in omega arith))
    (λ t. subst (λ (x : ℕ). T (inside x 0)) (sym (eqb→eq both 0 t)) (inside-refl 0)))

pub shares_none : (a b : ℕ) → not (shares_outside 0 a b) ≡ disjoint a b
shares_none a b = ap not (outside_none a b) ∙ not-not (disjoint a b)

-- ---- sets of w resources: the numbers below 2 ^ w

module _ (w : ℕ) where
  pub has-below : (a r : ℕ) → a < 2 ^ w → T (has r a) → r < w
  unfolding has
  has-below a r h t = go (T-or (ltb r w))
    where
      go : T (ltb r w) ⊎ (T (ltb r w) → ⊥) → r < w
      go (inl s) = ltb→lt r w s
      go (inr n) =
          let small : a < 2 ^ r = lt_of_lt_of_le h (pow_mono (nltb→le r w (not_T (ltb r w) n))) in
          absurd (subst (λ (x : ℕ). T (eqb (x % 2) 1)) (div-eq_of_lt small) t)

  pub union-below : (a b : ℕ) → a < 2 ^ w → b < 2 ^ w → union a b < 2 ^ w
  unfolding union
  union-below a b = or_lt w a b

  -- inclusion is settled by the w resources
  pub below_inside : (a b : ℕ) → a < 2 ^ w → ((r : ℕ) → r < w → T (has r a) → T (has r b)) → T (inside a b)
  below_inside a b h f = has-inside a b (λ r t. f r (has-below a r h t) t)

  -- a strictly larger set has one of the w resources more
  pub below_larger : (a b : ℕ) → a < 2 ^ w → T (larger a b) → (r : ℕ) × (r < w) × T (has r a) × (T (has r b) → ⊥)
  below_larger a b h t = let (r, p, n) = larger-has a b t in (r, has-below a r h p, p, n)

-- ---- the same for 16 bits

pub sixteen_has : (a r : ℕ) → a < 65536 → T (has r a) → r < 16
sixteen_has = has-below 16

pub sixteen_inside : (a b : ℕ) → a < 65536 → ((r : ℕ) → r < 16 → T (has r a) → T (has r b)) → T (inside a b)
sixteen_inside = below_inside 16

pub sixteen_larger : (a b : ℕ) → a < 65536 → T (larger a b) → (r : ℕ) × (r < 16) × T (has r a) × (T (has r b) → ⊥)
sixteen_larger = below_larger 16
