-- Explain. Document 02, L3, 'Why this cell.'
use Rattle.std.specs.Prelude.{ℕ, ◌*◌, List, [], ◌∷◌, ltb, length}
use mathlib.Core.List.{flat_map}
use Rattle.rules.specs.declared.Triple.{Triple}
use Rattle.rules.specs.Slices.{overwrite}
use Rattle.rules.specs.Rounds.{marks}
use Rattle.rules.specs.Explanations.{triples, triple_numbers}
use Rattle.tables.specs.Checks.{Checked, fault, ◌then◌}
use Rattle.tables.specs.Answers.{Answer, answer, slice_after}
use Rattle.tables.specs.declared.Reason.TheVariants.{NoRoom}
use Rattle.questions.specs.declared.Question.{Question}
use Rattle.questions.specs.Pairs.{demand_of, supply_of}
use Rattle.questions.specs.Modes.{mode_of}
use Rattle.checker.specs.Decide.{decide_checks}

-- the triples of the pair that is asked about
abbrev pub triples_asked : List ℕ → Question → ℕ → List Triple
triples_asked s q mode = triples (mode_of mode) (demand_of s q) (supply_of s q) q.demand.state q.supply.state

-- "Answers: as Decide, then 14 when the second lent slice is shorter than the triples."; the lengths of the slices for marks and for triples are
-- marks_room and triples_room
unfoldable pub explain_checks : List ℕ → Question → ℕ → ℕ → ℕ → Checked
explain_checks s q mode marks_room triples_room = decide_checks s q mode marks_room then fault (ltb triples_room (3 * length (triples_asked s q mode))) NoRoom 0

-- "their count is returned"
unfoldable pub explain_answer : List ℕ → Question → ℕ → ℕ → ℕ → Answer
explain_answer s q mode marks_room triples_room = answer (explain_checks s q mode marks_room triples_room) (length (triples_asked s q mode) ∷ [])

-- "Marks are written as Decide writes them."
unfoldable pub explain_marks : List ℕ → Question → ℕ → List ℕ → ℕ → List ℕ
explain_marks s q mode entry triples_room =
    slice_after (explain_checks s q mode (length entry) triples_room) (overwrite (marks (mode_of mode) (demand_of s q) (supply_of s q)) entry) entry

-- the triples; "entries past them are unchanged"
unfoldable pub explain_triples : List ℕ → Question → ℕ → ℕ → List ℕ → List ℕ
explain_triples s q mode marks_room entry =
    slice_after (explain_checks s q mode marks_room (length entry)) (overwrite (flat_map triple_numbers (triples_asked s q mode)) entry) entry
