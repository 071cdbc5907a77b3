-- The call that a question names: a head of nine numbers, then a file.
use Rattle.std.specs.Prelude.{ℕ, ◌+◌, ◌*◌, cond, ltb, List, [], ◌∷◌, length, take, drop, Option, Some, None, Result, Ok, Err}
use Rattle.questions.specs.declared.Question.{Question}
use Rattle.questions.specs.declared.Side.{Side}
use Rattle.input.specs.declared.Call.{Call}
use Rattle.input.specs.declared.operations.Operation.{Operation}
use Rattle.input.specs.declared.operations.UnknownOperation.{UnknownOperation}
use Rattle.input.specs.Operations.{operation_of}

-- a number by its bytes, the lowest first
abbrev pub number : List ℕ → ℕ
number [] = 0
number (b ∷ bs) = b + 256 * number bs

-- a set of 16 resources, by the lowest two bytes
abbrev pub low_set : List ℕ → ℕ
low_set bytes = number (take 2 bytes)

-- a table and a state, each by the bytes of its number
abbrev pub side : List ℕ → List ℕ → Side
side table state = record { table = number table; state = number state }

-- the bytes of number i of a head
abbrev pub field : List ℕ → ℕ → List ℕ
field head i = take 8 (drop (8 * i) head)

-- a call, with the bytes of its file; the set of a head is the question's standing set, and of a join the common one
pub record Asked : Type 0 where
  pub operation : Operation
  pub mode : ℕ
  pub question : Question
  pub length : ℕ
  pub second_length : ℕ
  pub file : List ℕ

-- a head for an operation, and a file
abbrev pub asked_for : Result Operation UnknownOperation → List ℕ → List ℕ → Option Asked
asked_for (Err e) head file = None
asked_for (Ok operation) head file =
    Some
    (record {
      operation = operation;
      mode = number (field head 1);
      question = record { demand = side (field head 2) (field head 3); supply = side (field head 4) (field head 5); standing = low_set (field head 8) };
      length = number (field head 6);
      second_length = number (field head 7);
      file = file;
    })

abbrev pub asked_in : List ℕ → List ℕ → Option Asked
asked_in head file = asked_for (operation_of (number (field head 0))) head file

-- what a question asks for; nothing where it is shorter than a head, or for another operation
unfoldable pub asked_of : List ℕ → Option Asked
asked_of s = cond (ltb (length s) 72) None (asked_in (take 72 s) (drop 72 s))

-- the call that is read, as that
abbrev pub told : Option Call → Option Asked
told None = None
told (Some c) =
    Some
    (record {
      operation = c.operation;
      mode = c.mode;
      question = c.question;
      length = c.length;
      second_length = c.second_length;
      file = c.file.now;
    })
