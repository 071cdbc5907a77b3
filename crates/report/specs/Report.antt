-- The text that the program prints for a file. Document 01, 'The program'.
use Rattle.std.specs.Prelude.{ℕ, ltb, eqb, length, Ok, Err}
use mathlib.Core.List.{List, [], ◌∷◌, ◌++◌, flat_map}
use Rattle.rules.specs.declared.Mode.{Mode}
use Rattle.rules.specs.declared.Mode.TheVariants.{Full, Partial}
use Rattle.rules.specs.Slices.{overwrite}
use Rattle.rules.specs.Machines.{Machine}
use Rattle.rules.specs.Rounds.{mark, kept_count, rounds}
use Rattle.rules.specs.Steps.{slots}
use Rattle.tables.specs.declared.Refusal.{Refusal}
use Rattle.tables.specs.Answers.{number_of}
use Rattle.tables.specs.Checks.{Checked, fault}
use Rattle.tables.specs.Answers.{Answer, answer, slice_after}
use Rattle.tables.specs.File.{tables_of}
use Rattle.tables.specs.declared.Reason.TheVariants.{NoRoom}
use Rattle.questions.specs.declared.Question.{Question}
use Rattle.questions.specs.Pairs.{demand_of, supply_of}
use Rattle.questions.specs.Questions.{question_of, program_checks}
use Rattle.lines.specs.Lines.{refused_line, file_line, start_line, verdict_line, step_line}

-- "the line `refused N at P`", of a refusal
abbrev pub refusal_line : Refusal → List ℕ
refusal_line r = refused_line (number_of r.reason) r.place

-- "table numbers; states", of a question
abbrev pub asked_line : Question → List ℕ
asked_line q = start_line q.demand.table q.supply.table q.demand.state q.supply.state

-- a mode's line and its step lines, from the pair (t, w); "Step lines follow a no": from a pair that is kept there are no slots
unfoldable pub mode_text : Mode → Machine → Machine → ℕ → ℕ → List ℕ
mode_text mode D S t w =
    verdict_line mode (eqb (mark mode D S t w) 0) (rounds mode D S) (kept_count mode D S)
    ++ flat_map (λ c. step_line c.supply.row c.task.row) (slots mode D S (mark mode D S t w) t w)

-- the same for two tables and a start pair
abbrev pub decision_text : Mode → List ℕ → Question → List ℕ
decision_text mode s q = mode_text mode (demand_of s q) (supply_of s q) q.demand.state q.supply.state

-- "A refusal prints only the line"; else the lines of both modes, full first
abbrev pub text_after : Checked → List ℕ → List ℕ
text_after (Err r) s = refusal_line r
text_after (Ok u) s =
    file_line (length s) (tables_of s) ++ asked_line (question_of s) ++ decision_text Full s (question_of s) ++ decision_text Partial s (question_of s)

-- the whole text, by what the checks find
unfoldable pub text : List ℕ → List ℕ
text s = text_after (program_checks s) s

-- The text is printed, so document 01 lends no bytes for it, and a file that is turned back has a text like any other. One number can turn the call
-- itself back, and it is ours: 14 where the lent bytes are fewer than the text; room is how many are lent.
unfoldable pub room_fault : List ℕ → ℕ → Checked
room_fault s room = fault (ltb room (length (text s))) NoRoom 0

-- its length is returned
unfoldable pub report_answer : List ℕ → ℕ → Answer
report_answer s room = answer (room_fault s room) (length (text s) ∷ [])

-- later bytes are unchanged
unfoldable pub report_bytes : List ℕ → List ℕ → List ℕ
report_bytes s entry = slice_after (room_fault s (length entry)) (overwrite (text s) entry) entry
