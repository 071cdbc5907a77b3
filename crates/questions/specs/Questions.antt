-- What a program asks about a file: its first demand table beside its first supply table, each from its start. Document 01, 'The program'.
use Rattle.std.specs.Prelude.{ℕ, zero, suc, cond, List, ltb, leb, eqb, Result, Ok, Err, Option, find}
use Rattle.std.specs.List.{range_with_len}
use Rattle.tables.specs.Checks.{Checked, fault, ◌then◌}
use Rattle.tables.specs.declared.kinds.Kind.{Kind}
use Rattle.tables.specs.Kinds.{code_of}
use Rattle.tables.specs.File.{tables_of, entry_of}
use Rattle.tables.specs.Open.{file_fault}
use Rattle.tables.specs.declared.Reason.TheVariants.{WrongKind}
use Rattle.questions.specs.declared.Question.{Question}
use Rattle.tables.specs.declared.Refusal.{Refusal}
use Rattle.questions.specs.Starts.{from_starts}

-- the first of the tables 0 to k - 1 that is of a kind, or k where none is
unfoldable pub first_of : List ℕ → ℕ → ℕ → ℕ
first_of s kind zero = 0
first_of s kind (suc i) = cond (ltb (first_of s kind i) i) (first_of s kind i) (cond (eqb (entry_of s i).kind kind) i (suc i))

-- the same as a search, with none where none is (`search_some`, `search_none`)
abbrev pub first_found : List ℕ → Kind → ℕ → Option ℕ
first_found s kind k = find (λ i. eqb (entry_of s i).kind (code_of kind)) (range_with_len 0 k)

-- "the first demand and the first supply table"
abbrev pub first_demand : List ℕ → ℕ
first_demand s = first_of s 1 (tables_of s)

abbrev pub first_supply : List ℕ → ℕ
first_supply s = first_of s 2 (tables_of s)

-- what is asked: the two tables, each from its start; 02, L5: "The program and 01's worked cases use the empty set."
abbrev pub question_of : List ℕ → Question
question_of s = from_starts s (first_demand s) (first_supply s) 0

-- "a missing kind is 12 at 0"
unfoldable pub program_checks : List ℕ → Checked
program_checks s = file_fault s then fault (leb (tables_of s) (first_demand s)) WrongKind 0 then fault (leb (tables_of s) (first_supply s)) WrongKind 0

-- the question, or why the file is turned back, by what the checks find
abbrev pub asked_after : Checked → List ℕ → Result Question Refusal
asked_after (Err r) s = Err r
asked_after (Ok u) s = Ok (question_of s)

-- what is asked about a file
unfoldable pub asked_of : List ℕ → Result Question Refusal
asked_of s = asked_after (program_checks s) s
