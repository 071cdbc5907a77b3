-- Tables that a call names, each by its number and the kind that it has to be. Document 01, 'Operations and what they turn back'.
use Rattle.std.specs.Prelude.{ℕ, not, List, eqb}
use Rattle.tables.specs.Checks.{Checked, fault, ◌then◌}
use Rattle.tables.specs.Kinds.{code_of}
use Rattle.tables.specs.declared.kinds.Kind.{Kind}
use Rattle.tables.specs.declared.kinds.Kind.TheVariants.{Demand, Supply}
use Rattle.tables.specs.File.{tables_of, entry_of}
use Rattle.tables.specs.Open.{file_fault}
use Rattle.tables.specs.Body.{number_fault}
use Rattle.tables.specs.declared.Reason.TheVariants.{WrongKind}
use Rattle.questions.specs.declared.named.Named.{Named}

-- a table by its number, as one of a kind
abbrev pub as_kind : Kind → ℕ → Named
as_kind kind i = record { table = i; kind = kind }

abbrev pub as_demand : ℕ → Named
as_demand = as_kind Demand

abbrev pub as_supply : ℕ → Named
as_supply = as_kind Supply

-- "12 wrong kind"
unfoldable pub kind_fault : List ℕ → Named → Checked
kind_fault s a = fault (not (eqb (entry_of s a.table).kind (code_of a.kind))) WrongKind 0

-- after Open's numbers: 11, then 12, of one table
unfoldable pub table_checks : List ℕ → Named → Checked
table_checks s a = file_fault s then number_fault (tables_of s) a.table then kind_fault s a

-- after Open's numbers: 11, then 12, each for the first, then for the second
unfoldable pub named_checks : List ℕ → Named → Named → Checked
named_checks s a b =
    file_fault s
    then number_fault (tables_of s) a.table
    then number_fault (tables_of s) b.table
    then kind_fault s a
    then kind_fault s b
