-- The tables of a file, and the machines that they define.
use Rattle.std.specs.Prelude.{ℕ, List}
use Rattle.rules.specs.declared.Row.{Row}
use Rattle.rules.specs.Below.{list_below}
use Rattle.rules.specs.Machines.{Table, Machine, machine}
use Rattle.tables.specs.File.{entry_of, body_of, row_of}

-- the first m rows of a body
abbrev pub rows_of : List ℕ → ℕ → List Row
rows_of body m = list_below m (row_of body)

-- table i of a file: "n states ... and m rows"
abbrev pub table_of : List ℕ → ℕ → Table
table_of s i = record { n = (entry_of s i).states; rows = rows_of (body_of s i) (entry_of s i).rows }

abbrev pub machine_of : List ℕ → ℕ → Machine
machine_of s i = machine (table_of s i)
