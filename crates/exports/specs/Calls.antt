-- The calls from the bench tool: the number returned, and what each slice holds afterwards. Document 02, L7.
use Rattle.std.specs.Prelude.{ℕ, ◌≡◌, cond, eqb, ltb, length, take}
use mathlib.Core.List.{List, [], ◌∷◌, ◌++◌}
use Rattle.rules.specs.Slices.{overwrite}
use Rattle.tables.specs.Answers.{Answer, number_of}
use Rattle.tables.specs.declared.Reason.TheVariants.{NoRoom}
use Rattle.questions.specs.declared.Question.{Question}
use Rattle.checker.specs.Decide.{decide_answer, decide_slice}
use Rattle.checker.specs.Run.{run_answer, run_marks, run_steps}
use Rattle.checker.specs.Demands.{DecideDemands, RunDemands}
use Rattle.exports.specs.Bytes.{words_in, with_words, number_bytes, numbers_in}

-- "arguments come as 01 lists them, the standing set after the mode": the two tables, the two states and the standing set, as a question
abbrev pub asked : ℕ → ℕ → ℕ → ℕ → ℕ → Question
asked demand supply t s standing = record { demand = record { table = demand; state = t }; supply = record { table = supply; state = s }; standing = standing }

-- ---- what `checker::decide` and `checker::run` answer and leave where the marks and steps in slices of bytes are lent to them; "lengths that 01 gives in
-- entries count twice in bytes"

abbrev pub decide_lent : List ℕ → Question → ℕ → List ℕ → Answer
decide_lent file q mode marks = decide_answer file q mode (length (words_in marks))

abbrev pub decide_lent_marks : List ℕ → Question → ℕ → List ℕ → List ℕ
decide_lent_marks file q mode marks = decide_slice file q mode (words_in marks)

abbrev pub run_lent : List ℕ → Question → ℕ → List ℕ → List ℕ → Answer
run_lent file q mode marks steps = run_answer file q mode (length (words_in marks)) (length (words_in steps))

abbrev pub run_lent_marks : List ℕ → Question → ℕ → List ℕ → List ℕ → List ℕ
run_lent_marks file q mode marks steps = run_marks file q mode (words_in marks) (length (words_in steps))

abbrev pub run_lent_steps : List ℕ → Question → ℕ → List ℕ → List ℕ → List ℕ
run_lent_steps file q mode marks steps = run_steps file q mode (length (words_in marks)) (words_in steps)

-- ---- what is returned, and what the slices hold

-- "14 comes first, with nothing written, when the report is under 24 bytes; then each operation's own.": the first of two where it is, else the second
abbrev pub by_report : {A : Type 0} → List ℕ → A → A → A
by_report report short other = cond (ltb (length report) 24) short other

-- "Each returns 0 if carried out, else the number that turned it back."
unfoldable pub returned : Answer → List ℕ → ℕ
returned a report = by_report report (number_of NoRoom) a.number

-- "Open reports k, 0, 0. Decide reports 1 or 0 for yes or no, the count kept, and rounds. Run reports the count of steps, 0, 0. A call turned back reports
-- the place, 0, 0": the values that a call returns are one or three
unfoldable pub report_of : Answer → List ℕ
report_of a = cond (eqb a.number 0) (take 3 (a.values ++ 0 ∷ 0 ∷ [])) (a.place ∷ 0 ∷ 0 ∷ [])

-- the report afterwards; "An odd last byte is unchanged, as are report bytes past the 24th."
unfoldable pub reported : Answer → List ℕ → List ℕ
reported a report = by_report report report (overwrite (number_bytes (report_of a)) report)

-- a slice for marks or steps afterwards, where the call leaves these in it
unfoldable pub written : List ℕ → List ℕ → List ℕ → List ℕ
written report xs bytes = by_report report bytes (with_words xs bytes)

-- ---- "The exported calls must agree with the others on each input.": what is returned and what the slices hold, read back, where the report is long enough

pub record AnswerAgrees (a : Answer) (number : ℕ) (report : List ℕ) : Type 0 where
  pub number_is : number ≡ a.number
  pub report_is : numbers_in report ≡ report_of a

-- Decide: its answer, its marks, and so what the second and the third demand say of them
pub record DecideAgrees (file : List ℕ) (q : Question) (mode : ℕ) (marks : List ℕ) (number : ℕ) (marks_after report : List ℕ) : Type 0 where
  pub answer : AnswerAgrees (decide_lent file q mode marks) number report
  pub marks_are : words_in marks_after ≡ decide_lent_marks file q mode marks
  pub demands : DecideDemands file q mode (decide_lent file q mode marks) (words_in marks_after)

-- Run: its answer, its marks and its steps, and so what the second demand says of them
pub record RunAgrees (file : List ℕ) (q : Question) (mode : ℕ) (marks steps : List ℕ) (number : ℕ) (marks_after steps_after report : List ℕ) : Type 0 where
  pub answer : AnswerAgrees (run_lent file q mode marks steps) number report
  pub marks_are : words_in marks_after ≡ run_lent_marks file q mode marks steps
  pub steps_are : words_in steps_after ≡ run_lent_steps file q mode marks steps
  pub demands : RunDemands file q mode (run_lent file q mode marks steps) (words_in marks_after) (words_in steps_after)
