-- The states that tables are started from. Documents 01, 'The program', and 02, L6.
use Rattle.std.specs.Prelude.{ℕ, cond, List, eqb}
use Rattle.tables.specs.Tables.{table_of}
use Rattle.questions.specs.declared.Side.{Side}
use Rattle.questions.specs.declared.Question.{Question}

-- "from state 1 of each (0 where n is 1)"
unfoldable pub start_of : ℕ → ℕ
start_of n = cond (eqb n 1) 0 1

-- a table with the state that it is started from
abbrev pub start_side : List ℕ → ℕ → Side
start_side s table = record { table = table; state = start_of (table_of s table).n }

-- what is asked about a demand and a supply table, each from its start
abbrev pub from_starts : List ℕ → ℕ → ℕ → ℕ → Question
from_starts s demand supply standing = record { demand = start_side s demand; supply = start_side s supply; standing = standing }
