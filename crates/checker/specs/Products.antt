-- What a call that makes one table of two answers and writes: Join, of two demands, and Merge, of two supplies. Document 01, 'Operations and what they turn
-- back' (Join), and document 02, L9, by which Merge answers "as Join's, with both kinds 2".
use Rattle.std.specs.Prelude.{ℕ, ◌*◌, ◌<◌, ◌≡◌, ◌↔◌, length, take}
use mathlib.Core.List.{List, [], ◌∷◌, Memᴰ}
use Rattle.rules.specs.declared.Row.{Row}
use Rattle.rules.specs.Slices.{overwrite}
use Rattle.rules.specs.Machines.{Table, Machine, IsMove, machine}
use Rattle.rules.specs.Rows.{move}
use Rattle.rules.specs.Products.{join_state, IsPairRow}
use Rattle.tables.specs.declared.kinds.Kind.{Kind}
use Rattle.tables.specs.Checks.{Checked, ◌then◌}
use Rattle.tables.specs.Answers.{Answer, answer, slice_after}
use Rattle.tables.specs.File.{body_bytes}
use Rattle.tables.specs.Accepted.{TableBody}
use Rattle.tables.specs.Tables.{rows_of, table_of}
use Rattle.joins.specs.Joins.{rows_checks}
use Rattle.questions.specs.Sizes.{size_checks}

-- of two tables of a kind that give these rows: after 11, 12 and 16, "17 if above 512 rows result; 14 if the lent bytes are under 4 × those rows"; room
-- is how many are lent
unfoldable pub product_checks : Kind → List ℕ → ℕ → ℕ → List Row → ℕ → Checked
product_checks kind s i j rows room = size_checks kind s i j then rows_checks rows room

-- "n and m are returned"
unfoldable pub product_answer : Kind → List ℕ → ℕ → ℕ → List Row → ℕ → Answer
product_answer kind s i j rows room = answer (product_checks kind s i j rows room) ((table_of s i).n * (table_of s j).n ∷ length rows ∷ [])

-- "Rows are written in body form, rising"; "later bytes unchanged"
unfoldable pub product_slice : Kind → List ℕ → ℕ → ℕ → List Row → List ℕ → List ℕ
product_slice kind s i j rows entry = slice_after (product_checks kind s i j rows (length entry)) (overwrite (body_bytes rows) entry) entry

-- the table of n states whose m rows the bytes begin with
abbrev pub written_table : ℕ → ℕ → List ℕ → Table
written_table n m bytes = record { n = n; rows = rows_of (take (4 * m) bytes) m }

-- what a call that returns n and m leaves in the lent bytes. They begin with a `TableBody` of n and m, so Open's checks of its rows pass (`passed_rows`),
-- and the rows rise strictly, each standing once; they are the rows that a relation P gives to pairs of states, and no others. At (a, b) the moves of that
-- table are those that P gives to the pair, FIN's idle moves among them.
pub record IsProduct (D E : Machine) (P : ℕ → ℕ → ℕ → ℕ → Type 0) (n m : ℕ) (bytes : List ℕ) : Type 0 where
  pub states : n ≡ D.n * E.n
  pub body : TableBody n m (take (4 * m) bytes)
  pub rows : (r : Row) → Memᴰ r (written_table n m bytes).rows ↔ IsPairRow D E P r
  pub moves : (a b set target : ℕ) → a < D.n → b < E.n
      → ((i : ℕ) × IsMove (machine (written_table n m bytes)) (join_state E.n a b) (move i set target)) ↔ P a b set target
