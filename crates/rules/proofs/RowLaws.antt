-- Laws of the order of rows: it is strict, transitive and total. Relies on nothing.
use Prim.Native.Nat.{ℕ, ◌≤◌, ◌<◌}
use mathlib.Core.Path.{◌≡◌, refl, sym, ◌∙◌}
use mathlib.Core.Bool.{Bool, true, false, ◌||◌, ◌&&◌}
use mathlib.Core.Logic.{◌⊎◌, inl, inr}
use lib.Dec.{T, ltb, ltb→lt, lt→ltb, eqb, eqb→eq}
use borrow.Author.Tests.{le-ltb, ltb-false, eq-eqb}
use native.Mathlib.Omega.{arith}
use Rattle.std.proofs.Common.{Some, cond, Less, Equal, Greater}
use Rattle.std.specs.Ordering.{is_lt, is_some_and, partial_ordering_then}
use Rattle.rules.specs.declared.Row.{Row}
use Rattle.rules.specs.Rows.{before, rises}
use Rattle.rules.proofs.Booleans.{T_true, true-T, eq-T, and_i, and_l, and_r, or_l, or_r, or_cases, or_false_l}

-- three comparisons one after the other, as a derived order makes them, and as `before` does
pub by_order : (l e m f n g : Bool)
    → is_some_and is_lt
    (partial_ordering_then (Some (cond l Less (cond e Equal Greater)))
    (partial_ordering_then (Some (cond m Less (cond f Equal Greater))) (Some (cond n Less (cond g Equal Greater)))))
    ≡ (l || (e && (m || (f && n))))
by_order true e m f n g = refl
by_order false false m f n g = refl
by_order false true true f n g = refl
by_order false true false false n g = refl
by_order false true false true true g = refl
by_order false true false true false true = refl
by_order false true false true false false = refl

-- equal numbers leave it to the rest
before_equal : (a b : ℕ) (rest : Bool) → a ≡ b → rest ≡ before a b rest
before_equal a b rest e = rw (eq-eqb a b e, le-ltb a b (omega arith))

-- the two ways to come before
before_cases : (a b : ℕ) (rest : Bool) → T (before a b rest) → (a < b) ⊎ ((a ≡ b) × T rest)
before_cases a b rest t = go (or_cases (ltb a b) (eqb a b && rest) t)
  where
    go : T (ltb a b) ⊎ T (eqb a b && rest) → (a < b) ⊎ ((a ≡ b) × T rest)
    go (inl l) = inl (ltb→lt a b l)
    go (inr r) = inr (eqb→eq a b (and_l (eqb a b) rest r), and_r (eqb a b) rest r)

lower_before : (a b : ℕ) (rest : Bool) → a < b → T (before a b rest)
lower_before a b rest l = or_l (ltb a b) (eqb a b && rest) (lt→ltb a b l)

equal_before : (a b : ℕ) (rest : Bool) → a ≡ b → T rest → T (before a b rest)
equal_before a b rest e t = or_r (ltb a b) (eqb a b && rest) (and_i (eqb a b) rest (eq-T a b e) t)

before_trans : (a b c : ℕ) (p q r : Bool) → (T p → T q → T r) → T (before a b p) → T (before b c q) → T (before a c r)
before_trans a b c p q r f s t = go (before_cases a b p s) (before_cases b c q t)
  where
    go : (a < b) ⊎ ((a ≡ b) × T p) → (b < c) ⊎ ((b ≡ c) × T q) → T (before a c r)
    go (inl l) (inl m) = lower_before a c r (omega arith)
    go (inl l) (inr m) = let e = m.0 in lower_before a c r (omega arith)
    go (inr l) (inl m) = let e = l.0 in lower_before a c r (omega arith)
    go (inr l) (inr m) = let d = l.0 in let e = m.0 in equal_before a c r (omega arith) (f l.1 m.1)

-- a row does not rise to itself
pub rises_irrefl : (a : Row) → rises a a ≡ false
unfolding rises
rises_irrefl a =
    rw (
      sym (before_equal a.from a.from (before a.set a.set (ltb a.target a.target)) refl),
      sym (before_equal a.set a.set (ltb a.target a.target) refl),
    ) (le-ltb a.target a.target (omega arith))

pub rises_trans : (a b c : Row) → rises a b ≡ true → rises b c ≡ true → rises a c ≡ true
unfolding rises
rises_trans a b c s t =
    T_true _
    (before_trans a.from b.from c.from _ _ _
    (before_trans a.set b.set c.set _ _ _
    (λ p q. let l = ltb→lt a.target b.target p in let m = ltb→lt b.target c.target q in lt→ltb a.target c.target (omega arith)))
    (true-T _ s) (true-T _ t))

-- a row that rises to another does not leave a higher state
pub rises_from : (a b : Row) → rises a b ≡ true → a.from ≤ b.from
unfolding rises
rises_from a b s = go (before_cases a.from b.from (before a.set b.set (ltb a.target b.target)) (true-T _ s))
  where
    go : (a.from < b.from) ⊎ ((a.from ≡ b.from) × T (before a.set b.set (ltb a.target b.target))) → a.from ≤ b.from
    go (inl l) = omega arith
    go (inr e) = let same = e.0 in omega arith

-- neither of two rows comes before the other only where they are equal
before_not : (a b : ℕ) (rest : Bool) → before a b rest ≡ false → (b ≤ a) × (a ≡ b → rest ≡ false)
before_not a b rest e =
    (ltb-false a b (or_false_l (ltb a b) (eqb a b && rest) e), λ same. before_equal a b rest same ∙ e)

pub rises_total : (a b : Row) → rises a b ≡ false → rises b a ≡ false → a ≡ b
unfolding rises
rises_total a b p q =
    let (fl, fr) = before_not a.from b.from _ p in
    let (gl, gr) = before_not b.from a.from _ q in
    let from : a.from ≡ b.from = omega arith in
    let (sl, sr) = before_not a.set b.set _ (fr from) in
    let (tl, tr) = before_not b.set a.set _ (gr (sym from)) in
    let set : a.set ≡ b.set = omega arith in
    let ul = ltb-false a.target b.target (sr set) in
    let vl = ltb-false b.target a.target (tr (sym set)) in
    let target : a.target ≡ b.target = omega arith in
    λ i. record { from = from i; target = target i; set = set i }

-- a row of a lower state comes before
pub rises_lower : (a b : Row) → a.from < b.from → rises a b ≡ true
unfolding rises
rises_lower a b l = T_true _ (lower_before a.from b.from _ l)
