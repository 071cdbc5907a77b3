-- The operations, and their numbers.
use Rattle.std.specs.Prelude.{ℕ, zero, suc, List, [], ◌∷◌, Result, Ok, Err}
use Rattle.input.specs.declared.operations.Operation.{Operation}
use Rattle.input.specs.declared.operations.Operation.TheVariants.{Open, Body, Moves, Decide, Run, Join, Report, Readers, Constants}
use Rattle.input.specs.declared.operations.Operation.TheVariants.{Graph, Explain, Pick, Reach, Merge}
use Rattle.input.specs.declared.operations.UnknownOperation.{UnknownOperation}

-- the operations, each at its number: Open is 0
abbrev pub operations : List Operation
operations = Open ∷ Body ∷ Moves ∷ Decide ∷ Run ∷ Join ∷ Report ∷ Readers ∷ Constants ∷ Graph ∷ Explain ∷ Pick ∷ Reach ∷ Merge ∷ []

-- the operation at a place of a list; past its end there is none
abbrev pub operation_at : List Operation → ℕ → Result Operation UnknownOperation
operation_at [] n = Err (record {})
operation_at (o ∷ os) zero = Ok o
operation_at (o ∷ os) (suc n) = operation_at os n

-- the operation with a number
unfoldable pub operation_of : ℕ → Result Operation UnknownOperation
operation_of n = operation_at operations n
