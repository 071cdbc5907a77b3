-- Body: the part of the caller's file that holds the body of a table. Document 01, 'Operations'.
use Rattle.std.specs.Prelude.{ℕ, List, [], leb, Ok, Err}
use Rattle.tables.specs.Checks.{Checked, fault, ◌then◌}
use Rattle.tables.specs.Answers.{Answer, answer}
use Rattle.tables.specs.File.{tables_of, entry_of, body_length}
use Rattle.tables.specs.Part.{Span, span}
use Rattle.tables.specs.Open.{file_fault}
use Rattle.tables.specs.declared.Reason.TheVariants.{NoTable}

-- "11: table number not below k"
unfoldable pub number_fault : ℕ → ℕ → Checked
number_fault k table = fault (leb k table) NoTable 0

-- "After Open's numbers, 11"
unfoldable pub body_checks : List ℕ → ℕ → Checked
body_checks s table = file_fault s then number_fault (tables_of s) table

-- "a second question on the same inputs gives the number and place, or 0 and 0"
unfoldable pub body_answer : List ℕ → ℕ → Answer
body_answer s table = answer (body_checks s table) []

-- "Turned back, it returns the empty part at the file's start"
abbrev pub span_unless : Checked → Span → Span
span_unless (Ok u) at = at
span_unless (Err r) at = span 0 0

-- "the part of the caller's file that holds the body"
unfoldable pub body_span : List ℕ → ℕ → Span
body_span s table = span_unless (body_checks s table) (span (entry_of s table).offset (body_length (entry_of s table)))
