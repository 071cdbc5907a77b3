-- Merge. Document 02, L9.
use Rattle.std.specs.Prelude.{ℕ, ◌<◌, ◌≡◌, ◌↔◌, Bool, ◌||◌, T}
use mathlib.Core.List.{List, [], ◌∷◌}
use Rattle.rules.specs.Machines.{Table, Machine, Stuck, machine}
use Rattle.rules.specs.Actions.{Action, supplies, ◌∥◌}
use Rattle.rules.specs.Relations.{Passing}
use Rattle.rules.specs.Products.{join_state}
use Rattle.rules.specs.Merge.{merge, LiveSet, Merges, SolvesCross, beside_fin}
use Rattle.tables.specs.declared.kinds.Kind.TheVariants.{Supply}
use Rattle.tables.specs.Answers.{Answer, carried_out}
use Rattle.tables.specs.Tables.{machine_of}
use Rattle.checker.specs.Products.{product_answer, product_slice, written_table, IsProduct}

-- the merged table
abbrev pub merge_of : List ℕ → ℕ → ℕ → Table
merge_of s i j = merge (machine_of s i) (machine_of s j)

-- "n and m returned, as in Join"
unfoldable pub merge_answer : List ℕ → ℕ → ℕ → ℕ → Answer
merge_answer s i j room = product_answer Supply s i j (merge_of s i j).rows room

-- "States are paired and numbered, rows written"
unfoldable pub merge_slice : List ℕ → ℕ → ℕ → List ℕ → List ℕ
merge_slice s i j entry = product_slice Supply s i j (merge_of s i j).rows entry

-- What a call that returns n and m leaves in the lent bytes.
pub record IsMerge (A B : Machine) (n m : ℕ) (bytes : List ℕ) : Type 0 where
  -- there is a set of pairs "with these two properties". Sets are written down as tests; of any predicate see `largest_all`.
  pub live : ℕ → ℕ → Bool
  pub properties : LiveSet A B (Passing live)
  -- "it is the largest, over sets that anyone may propose"
  pub largest : (R : ℕ → ℕ → Bool) → LiveSet A B (Passing R) → (a b : ℕ) → T (R a b) → T (live a b)
  -- the rows are exactly those that this set gives
  pub table : IsProduct A B (Merges A B (Passing live)) n m bytes
  -- by which a pair is in it exactly if its state has a move
  pub stuck : (a b : ℕ) → a < A.n → b < B.n → T (live a b) ↔ (Stuck (machine (written_table n m bytes)) (join_state B.n a b) → ⊥)
  -- it is "the maximal solution" of 000's equations
  pub solves : SolvesCross A B (Passing live)
  pub maximal : (R : ℕ → ℕ → Bool) → SolvesCross A B (Passing R) → (a b : ℕ) → T (R a b) → T (live a b)
  -- 000: × "selects the part of the transition system" of the two supplies side by side, as rule (Par) has them, "that does not lead to deadlocked states": a
  -- step of the merged supply is one of theirs that is of a pair with FIN on a side or leads to a live pair
  pub steps : (a b u v : ℕ) (x : Action) → a < A.n → b < B.n → v < B.n
      → (supplies (machine (written_table n m bytes))).Step (join_state B.n a b) x (join_state B.n u v)
      ↔ ((supplies A ∥ supplies B).Step (a, b) x (u, v) × T (beside_fin a b || live u v))

-- what a call of Merge that is carried out promises, of its answer and of the lent bytes at exit
pub record MergeDemands (s : List ℕ) (i j : ℕ) (a : Answer) (bytes : List ℕ) : Type 0 where
  pub table : (n m : ℕ) → a ≡ carried_out (n ∷ m ∷ []) → IsMerge (machine_of s i) (machine_of s j) n m bytes
