-- Run. Document 01, 'Operations and what they turn back'.
use Rattle.std.specs.Prelude.{ℕ, ◌*◌, List, [], ◌∷◌, ltb, length}
use Rattle.rules.specs.Slices.{overwrite}
use Rattle.rules.specs.Rounds.{mark, marks}
use Rattle.rules.specs.Steps.{steps}
use Rattle.tables.specs.Checks.{Checked, fault, ◌then◌}
use Rattle.tables.specs.Answers.{Answer, answer, slice_after}
use Rattle.tables.specs.declared.Reason.TheVariants.{NoRoom}
use Rattle.questions.specs.declared.Question.{Question}
use Rattle.questions.specs.Pairs.{demand_of, supply_of}
use Rattle.questions.specs.Modes.{mode_of}
use Rattle.checker.specs.Decide.{decide_checks}

-- "As Decide, with a second 16-bit slice; 14 also if that has under 2 × the demand n × the supply n entries."; the lengths of the slices for marks
-- and for steps are marks_room and steps_room
unfoldable pub run_checks : List ℕ → Question → ℕ → ℕ → ℕ → Checked
run_checks s q mode marks_room steps_room = decide_checks s q mode marks_room then fault (ltb steps_room (2 * ((demand_of s q).n * (supply_of s q).n))) NoRoom 0

-- "Start marked 0: no steps. Else as many steps as the mark."; "The count is returned"
unfoldable pub run_answer : List ℕ → Question → ℕ → ℕ → ℕ → Answer
run_answer s q mode marks_room steps_room =
    answer (run_checks s q mode marks_room steps_room) (mark (mode_of mode) (demand_of s q) (supply_of s q) q.demand.state q.supply.state ∷ [])

-- "It writes marks as Decide does."
unfoldable pub run_marks : List ℕ → Question → ℕ → List ℕ → ℕ → List ℕ
run_marks s q mode entry steps_room =
    slice_after (run_checks s q mode (length entry) steps_room) (overwrite (marks (mode_of mode) (demand_of s q) (supply_of s q)) entry) entry

-- the steps; "entries past the steps are unchanged"
unfoldable pub run_steps : List ℕ → Question → ℕ → ℕ → List ℕ → List ℕ
run_steps s q mode marks_room entry =
    slice_after (run_checks s q mode marks_room (length entry))
    (overwrite (steps (mode_of mode) (demand_of s q) (supply_of s q) q.demand.state q.supply.state) entry) entry
