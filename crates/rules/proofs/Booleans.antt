-- Laws of tests: `T b` says that the test b passes. Relies on nothing.
use Prim.Native.Nat.{ℕ}
use mathlib.Core.Path.{◌≡◌, refl, sym, subst}
use mathlib.Core.Bool.{Bool, true, false, not, ◌&&◌, ◌||◌}
use mathlib.Core.Logic.{◌⊎◌, inl, inr}
use lib.Dec.{T, eqb, eqb_refl}

pub T_true : (b : Bool) → T b → b ≡ true
T_true true t = refl
T_true false t = absurd t

pub true-T : (b : Bool) → b ≡ true → T b
true-T b e = subst T (sym e) tt

pub T_false : (b : Bool) → (T b → ⊥) → b ≡ false
T_false true f = absurd (f tt)
T_false false f = refl

-- a test passes or fails
pub T-or : (b : Bool) → T b ⊎ (T b → ⊥)
T-or true = inl tt
T-or false = inr (λ t. t)

-- two tests that pass together are equal
pub T-same : (a b : Bool) → (T a → T b) → (T b → T a) → a ≡ b
T-same true true f g = refl
T-same true false f g = absurd (f tt)
T-same false true f g = absurd (g tt)
T-same false false f g = refl

pub eq-T : (a b : ℕ) → a ≡ b → T (eqb a b)
eq-T a b e = subst (λ (k : ℕ). T (eqb a k)) e (eqb_refl a)

-- ---- and, or

pub and_i : (a b : Bool) → T a → T b → T (a && b)
and_i true b s t = t
and_i false b s t = s

pub and_l : (a b : Bool) → T (a && b) → T a
and_l true b t = tt
and_l false b t = t

pub and_r : (a b : Bool) → T (a && b) → T b
and_r true b t = t
and_r false b t = absurd t

pub or_l : (a b : Bool) → T a → T (a || b)
or_l true b t = tt
or_l false b t = absurd t

pub or_r : (a b : Bool) → T b → T (a || b)
or_r true b t = tt
or_r false b t = t

pub or_i : (a b : Bool) → T a ⊎ T b → T (a || b)
or_i a b (inl t) = or_l a b t
or_i a b (inr t) = or_r a b t

pub or_cases : (a b : Bool) → T (a || b) → T a ⊎ T b
or_cases true b t = inl tt
or_cases false b t = inr t

pub or_map : (a p q : Bool) → (T p → T q) → T (a || p) → T (a || q)
or_map true p q f t = tt
or_map false p q f t = f t

-- not a, or b: a implies b
pub imp_i : (a b : Bool) → (T a → T b) → T (not a || b)
imp_i true b f = f tt
imp_i false b f = tt

pub imp_e : (a b : Bool) → T (not a || b) → T a → T b
imp_e true b t s = t
imp_e false b t s = absurd s

-- ---- the same as equations

pub and_none : (a : Bool) → (a && false) ≡ false
and_none true = refl
and_none false = refl

pub or_assoc : (a b c : Bool) → ((a || b) || c) ≡ (a || (b || c))
or_assoc true b c = refl
or_assoc false b c = refl

pub and_assoc : (a b c : Bool) → ((a && b) && c) ≡ (a && (b && c))
and_assoc true b c = refl
and_assoc false b c = refl

pub and_all : (a : Bool) → (a && true) ≡ a
and_all true = refl
and_all false = refl

pub or_none : (a : Bool) → (a || false) ≡ a
or_none true = refl
or_none false = refl

-- a test as what another leaves of itself
pub narrowed : (a b : Bool) → (T b → T a) → (a && not (a && not b)) ≡ b
narrowed true true f = refl
narrowed true false f = refl
narrowed false true f = absurd (f tt)
narrowed false false f = refl

pub or_false_l : (a b : Bool) → a || b ≡ false → a ≡ false
or_false_l true b e = e
or_false_l false b e = refl

pub or_false_r : (a b : Bool) → a || b ≡ false → b ≡ false
or_false_r true b e = cc
or_false_r false b e = e
