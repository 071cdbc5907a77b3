-- Reach's question as three numbers, and its answer as one.
use Rattle.std.specs.Prelude.{ℕ, ◌+◌, ◌*◌, ◌^◌, get_or}
use Rattle.tables.specs.Answers.{Answer}
use Rattle.questions.specs.declared.Question.{Question}

-- the same state of a demand and of a supply table, with no standing set
abbrev pub asked : ℕ → ℕ → ℕ → Question
asked demand supply state = record { demand = record { table = demand; state = state }; supply = record { table = supply; state = state }; standing = 0 }

-- from the lowest on: in sixteen bits the number that turns the call back, or 0; in sixteen yes, or 0; then the count
abbrev pub packed : Answer → ℕ
packed a = a.number + 2 ^ 16 * get_or a.values 0 0 + 2 ^ 32 * get_or a.values 1 0
