-- Join. Document 01, 'Operations and what they turn back', and document 02, L4.
use Rattle.std.specs.Prelude.{ℕ, ◌<◌, ◌≡◌, ◌↔◌}
use mathlib.Core.List.{List, [], ◌∷◌}
use Rattle.rules.specs.Machines.{Table, Machine, machine}
use Rattle.rules.specs.Actions.{Action, tasks, ◌∥◌}
use Rattle.rules.specs.Products.{join_state}
use Rattle.rules.specs.Join.{join, Joins}
use Rattle.tables.specs.declared.kinds.Kind.TheVariants.{Demand}
use Rattle.tables.specs.Answers.{Answer, carried_out}
use Rattle.tables.specs.Tables.{machine_of}
use Rattle.checker.specs.Products.{product_answer, product_slice, written_table, IsProduct}

-- the joined table
abbrev pub join_of : List ℕ → ℕ → ℕ → ℕ → Table
join_of s i j common = join common (machine_of s i) (machine_of s j)

-- "n and m are returned"
unfoldable pub join_answer : List ℕ → ℕ → ℕ → ℕ → ℕ → Answer
join_answer s i j common room = product_answer Demand s i j (join_of s i j common).rows room

-- "Rows are written in body form, rising"; "later bytes unchanged"
unfoldable pub join_slice : List ℕ → ℕ → ℕ → ℕ → List ℕ → List ℕ
join_slice s i j common entry = product_slice Demand s i j (join_of s i j common).rows entry

-- What a call that returns n and m leaves in the lent bytes: the rows that two moves give which are not barred, resource by resource. Where no resource is
-- common, a task of the table is the two tasks side by side, as 000's rule (Par) has them; with v below the second n the state is that of (u, v) alone.
pub record IsJoin (common : ℕ) (D E : Machine) (n m : ℕ) (bytes : List ℕ) : Type 0 where
  pub table : IsProduct D E (Joins common D E) n m bytes
  pub parallel : common ≡ 0 → (a b u v : ℕ) (x : Action) → a < D.n → b < E.n → v < E.n
      → (tasks D ∥ tasks E).Step (a, b) x (u, v) ↔ (tasks (machine (written_table n m bytes))).Step (join_state E.n a b) x (join_state E.n u v)

-- what a call of Join that is carried out promises, of its answer and of the lent bytes at exit
pub record JoinDemands (s : List ℕ) (i j common : ℕ) (a : Answer) (bytes : List ℕ) : Type 0 where
  pub table : (n m : ℕ) → a ≡ carried_out (n ∷ m ∷ []) → IsJoin common (machine_of s i) (machine_of s j) n m bytes
