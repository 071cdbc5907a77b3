-- What a call answers, in document 01's terms.
use Rattle.std.specs.Prelude.{ℕ, List, [], ◌∷◌, Result, Ok, Err}
use Rattle.tables.specs.declared.Refusal.{Refusal}
use Rattle.tables.specs.declared.Reason.{Reason}
use Rattle.tables.specs.declared.Reason.TheVariants.{Short, TableCount, Kind, StateCount, RowCount, Offset, Length, From, Target, Order}
use Rattle.tables.specs.declared.Reason.TheVariants.{NoTable, WrongKind, NoState, NoRoom, NoMode, TooManyStates, TooManyRows}
use Rattle.tables.specs.Checks.{Checked}

-- "A call turned back returns a number and a place." One carried out has 0 and 0 there, and returns values.
pub record Answer : Type 0 where
  pub number : ℕ
  pub place : ℕ
  pub values : List ℕ

-- the number of a reason
abbrev pub number_of : Reason → ℕ
number_of Short = 1
number_of TableCount = 2
number_of Kind = 3
number_of StateCount = 4
number_of RowCount = 5
number_of Offset = 6
number_of Length = 7
number_of From = 8
number_of Target = 9
number_of Order = 10
number_of NoTable = 11
number_of WrongKind = 12
number_of NoState = 13
number_of NoRoom = 14
number_of NoMode = 15
number_of TooManyStates = 16
number_of TooManyRows = 17

abbrev pub turned_back : Refusal → Answer
turned_back r = record { number = number_of r.reason; place = r.place; values = [] }

abbrev pub carried_out : List ℕ → Answer
carried_out values = record { number = 0; place = 0; values = values }

-- "A call to which no number applies is carried out."
unfoldable pub answer : Checked → List ℕ → Answer
answer (Ok u) values = carried_out values
answer (Err r) values = turned_back r

-- what a lent slice holds at the end: "All lent buffers then hold what they held", where a call is turned back
unfoldable pub slice_after : Checked → List ℕ → List ℕ → List ℕ
slice_after (Ok u) written entry = written
slice_after (Err r) written entry = entry

-- where one number is returned: "An accepted file gives k."; "The count is returned"
abbrev pub counted : Result ℕ Refusal → Answer
counted (Ok k) = carried_out (k ∷ [])
counted (Err r) = turned_back r
