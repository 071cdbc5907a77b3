-- Lists, sums and largest values over the numbers below n.
use Rattle.std.specs.Prelude.{ℕ, zero, suc, ◌+◌, max, Bool, true, false, List, [], ◌∷◌, ◌++◌}

module _ {A : Type 0} where
  -- f 0, f 1, .., f (n - 1)
  abbrev pub list_below : ℕ → (ℕ → A) → List A
  list_below zero f = []
  list_below (suc i) f = list_below i f ++ (f i ∷ [])

  -- the lists f 0, f 1, .., f (n - 1), end to end
  abbrev pub lists_below : ℕ → (ℕ → List A) → List A
  lists_below zero f = []
  lists_below (suc i) f = lists_below i f ++ f i

-- f 0 + f 1 + .. + f (n - 1)
abbrev pub sum_below : ℕ → (ℕ → ℕ) → ℕ
sum_below zero f = 0
sum_below (suc i) f = sum_below i f + f i

-- 0 where n is 0
abbrev pub max_below : ℕ → (ℕ → ℕ) → ℕ
max_below zero f = 0
max_below (suc i) f = max (max_below i f) (f i)

-- 1 for a test that passes
abbrev pub one : Bool → ℕ
one true = 1
one false = 0
