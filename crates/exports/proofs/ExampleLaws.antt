-- The worked examples hold, by computation from the definitions alone.
use Rattle.std.proofs.Common.{refl}
use mathlib.Core.List.{flat_map}
use Rattle.rules.specs.Rows.{rises}
use Rattle.rules.specs.Sets.{intersection, union, difference, larger, inside, maximal}
use Rattle.rules.specs.Slices.{overwrite}
use Rattle.rules.specs.Machines.{row_moves, state_moves}
use Rattle.rules.specs.Moves.{left_of, consumed_of, unmet_of}
use Rattle.rules.specs.Rounds.{has_response, slot_holds, pair_holds, is_pair, keeps, losing, mark_by, mark, marks, kept_count, rounds, count_pairs}
use Rattle.rules.specs.Steps.{follows, lacks_response, step_to, last_slot, slots, steps}
use Rattle.tables.specs.FileE.{file_e}
use Rattle.tables.specs.Checks.{fault, ◌then◌, scan}
use Rattle.tables.specs.Answers.{answer, slice_after}
use Rattle.tables.specs.File.{word_at, entry_of, body_length, end_before, body_of, row_of}
use Rattle.tables.specs.Open.{outside, header_fault, entry_fault, length_fault, row_fault, body_fault, file_fault, open_of}
use Rattle.tables.specs.Body.{number_fault}
use Rattle.questions.specs.Named.{kind_fault, named_checks}
use Rattle.questions.specs.Pairs.{pair_checks}
use Rattle.questions.specs.Modes.{mode_of, mode_fault, mode_checks}
use Rattle.checker.specs.Decide.{decide_checks, decide_answer, decide_slice}
use Rattle.checker.specs.Run.{run_checks, run_answer, run_marks, run_steps}
use Rattle.exports.specs.Bytes.{words_in, with_words}
use Rattle.exports.specs.Calls.{report_of, returned, reported, written}
use Rattle.exports.specs.Examples.{ExampleBytes, ExampleOpen, ExampleShort, ExampleDecide, ExampleAsked, ExampleRun, ExampleRefused}

pub example_bytes : ExampleBytes
unfolding ExampleBytes words_in with_words overwrite flat_map
example_bytes = (refl, (refl, (refl, refl)))

pub example_open : ExampleOpen
unfolding ExampleOpen file_e open_of answer fault ◌then◌ scan file_fault header_fault entry_fault length_fault row_fault body_fault outside word_at entry_of body_length end_before body_of row_of rises overwrite flat_map report_of returned reported
example_open = ((refl, refl), (refl, refl))

pub example_short : ExampleShort
unfolding ExampleShort open_of decide_answer decide_slice kept_count rounds count_pairs file_e run_answer run_marks run_steps run_checks decide_checks mode_checks mode_fault mode_of pair_checks named_checks kind_fault number_fault answer slice_after fault ◌then◌ scan file_fault header_fault entry_fault length_fault row_fault body_fault outside word_at entry_of body_length end_before body_of row_of rises overwrite flat_map intersection union difference larger inside maximal row_moves state_moves left_of consumed_of unmet_of has_response slot_holds pair_holds is_pair keeps losing mark_by mark marks follows lacks_response step_to last_slot slots steps words_in with_words report_of returned reported written
example_short = ((refl, refl), ((refl, refl), (refl, refl)))

pub example_decide : ExampleDecide
unfolding ExampleDecide file_e decide_answer decide_slice decide_checks mode_checks mode_fault mode_of pair_checks named_checks kind_fault number_fault answer slice_after fault ◌then◌ scan file_fault header_fault entry_fault length_fault row_fault body_fault outside word_at entry_of body_length end_before body_of row_of rises overwrite flat_map intersection union difference larger inside maximal row_moves state_moves left_of consumed_of unmet_of has_response slot_holds pair_holds is_pair keeps losing mark_by mark marks kept_count rounds count_pairs words_in with_words report_of returned reported written
example_decide = ((refl, (refl, refl)), (refl, (refl, (refl, refl))))

pub example_asked : ExampleAsked
unfolding ExampleAsked file_e decide_answer decide_slice decide_checks mode_checks mode_fault mode_of pair_checks named_checks kind_fault number_fault answer slice_after fault ◌then◌ scan file_fault header_fault entry_fault length_fault row_fault body_fault outside word_at entry_of body_length end_before body_of row_of rises overwrite flat_map intersection union difference larger inside maximal row_moves state_moves left_of consumed_of unmet_of has_response slot_holds pair_holds is_pair keeps losing mark_by mark marks kept_count rounds count_pairs words_in with_words report_of returned reported written
example_asked = (refl, (refl, (refl, (refl, refl))))

pub example_run : ExampleRun
unfolding ExampleRun file_e run_answer run_marks run_steps run_checks decide_checks mode_checks mode_fault mode_of pair_checks named_checks kind_fault number_fault answer slice_after fault ◌then◌ scan file_fault header_fault entry_fault length_fault row_fault body_fault outside word_at entry_of body_length end_before body_of row_of rises overwrite flat_map intersection union difference larger inside maximal row_moves state_moves left_of consumed_of unmet_of has_response slot_holds pair_holds is_pair keeps losing mark_by mark marks follows lacks_response step_to last_slot slots steps words_in with_words report_of returned reported written
example_run = ((refl, (refl, (refl, refl))), (refl, refl))

pub example_refused : ExampleRefused
unfolding ExampleRefused file_e run_answer run_marks run_steps run_checks decide_checks mode_checks mode_fault mode_of pair_checks named_checks kind_fault number_fault answer slice_after fault ◌then◌ scan file_fault header_fault entry_fault length_fault row_fault body_fault outside word_at entry_of body_length end_before body_of row_of rises overwrite flat_map intersection union difference larger inside maximal row_moves state_moves left_of consumed_of unmet_of has_response slot_holds pair_holds is_pair keeps losing mark_by mark marks follows lacks_response step_to last_slot slots steps words_in with_words report_of returned reported written
example_refused = (refl, (refl, (refl, refl)))
