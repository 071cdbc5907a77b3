-- The worked examples hold, by computation from the definitions alone.
use mathlib.Core.Path.{refl}
use mathlib.Core.List.{flat_map}
use Rattle.rules.specs.Rows.{rises}
use Rattle.rules.specs.Sets.{intersection, union, difference, larger, inside, maximal}
use Rattle.rules.specs.Machines.{row_moves, state_moves}
use Rattle.rules.specs.Moves.{left_of, consumed_of, unmet_of}
use Rattle.rules.specs.Rounds.{has_response, slot_holds, pair_holds, is_pair, keeps, losing, mark_by, mark}
use Rattle.tables.specs.Checks.{fault, ◌then◌, scan}
use Rattle.tables.specs.Answers.{answer}
use Rattle.tables.specs.File.{word_at, entry_of, body_length, end_before, body_of, row_of}
use Rattle.tables.specs.FileE.{file_e}
use Rattle.tables.specs.Open.{outside, header_fault, entry_fault, length_fault, row_fault, body_fault, file_fault}
use Rattle.tables.specs.Body.{number_fault}
use Rattle.questions.specs.Named.{kind_fault, named_checks}
use Rattle.questions.specs.Pairs.{pair_checks}
use Rattle.questions.specs.Modes.{mode_of, mode_fault, mode_checks}
use Rattle.questions.specs.Starts.{start_of}
use Rattle.checker.specs.Decide.{decide_checks, decide_answer}
use Rattle.picker.specs.Pick.{gets_yes, picked}
use Rattle.picker.specs.Examples.{ExampleE, panel, ExamplePanel}

pub example_e : ExampleE
unfolding ExampleE file_e picked gets_yes decide_answer decide_checks mode_checks mode_fault mode_of pair_checks named_checks kind_fault number_fault start_of answer fault ◌then◌ scan file_fault header_fault entry_fault length_fault row_fault body_fault outside word_at entry_of body_length end_before body_of row_of rises flat_map intersection union difference larger inside maximal row_moves state_moves left_of consumed_of unmet_of has_response slot_holds pair_holds is_pair keeps losing mark_by mark
example_e = (refl, (refl, refl))

pub example_panel : ExamplePanel
unfolding ExamplePanel panel picked gets_yes decide_answer decide_checks mode_checks mode_fault mode_of pair_checks named_checks kind_fault number_fault start_of answer fault ◌then◌ scan file_fault header_fault entry_fault length_fault row_fault body_fault outside word_at entry_of body_length end_before body_of row_of rises flat_map intersection union difference larger inside maximal row_moves state_moves left_of consumed_of unmet_of has_response slot_holds pair_holds is_pair keeps losing mark_by mark
example_panel = (refl, (refl, (refl, refl)))
