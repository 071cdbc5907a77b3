-- The two kinds of table, and their bytes. Document 01, 'The file'.
use Rattle.std.specs.Prelude.{ℕ, cond, eqb, Result, Ok, Err}
use Rattle.tables.specs.declared.kinds.Kind.{Kind}
use Rattle.tables.specs.declared.kinds.Kind.TheVariants.{Demand, Supply}
use Rattle.tables.specs.declared.kinds.UnknownKind.{UnknownKind}

-- "kind (1 demand, 2 supply)"
abbrev pub code_of : Kind → ℕ
code_of Demand = 1
code_of Supply = 2

-- the kind of a byte
unfoldable pub kind_of : ℕ → Result Kind UnknownKind
kind_of code = cond (eqb code 1) (Ok Demand) (cond (eqb code 2) (Ok Supply) (Err (record {})))
