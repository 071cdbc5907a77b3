-- Moves of a pair. Document 01, 'Operations and what they turn back'.
use Rattle.std.specs.Prelude.{ℕ, ◌*◌, ltb, length}
use mathlib.Core.List.{List, [], ◌∷◌, flat_map}
use Rattle.rules.specs.Slices.{overwrite}
use Rattle.rules.specs.declared.Candidate.{Candidate}
use Rattle.rules.specs.Moves.{survivors, numbers}
use Rattle.tables.specs.Checks.{Checked, fault, ◌then◌}
use Rattle.tables.specs.Answers.{Answer, answer, slice_after}
use Rattle.tables.specs.declared.Reason.TheVariants.{NoRoom}
use Rattle.questions.specs.declared.Question.{Question}
use Rattle.questions.specs.Pairs.{pair_checks, demand_of, supply_of}

-- the surviving moves of the pair
abbrev pub survivors_at : List ℕ → Question → List Candidate
survivors_at s q = survivors (demand_of s q) (supply_of s q) q.demand.state q.supply.state

-- "14 the lent slice of 16-bit numbers is shorter than 5 × the surviving moves"; room is its length
unfoldable pub moves_checks : List ℕ → Question → ℕ → Checked
moves_checks s q room = pair_checks s q then fault (ltb room (5 * length (survivors_at s q))) NoRoom 0

-- "The count is returned"
unfoldable pub moves_answer : List ℕ → Question → ℕ → Answer
moves_answer s q room = answer (moves_checks s q room) (length (survivors_at s q) ∷ [])

-- "Each move is written as left, consumed, unmet, demand target, supply target; supply rows outermost, task rows within, both rising.";
-- "the rest of the slice unchanged"
unfoldable pub moves_slice : List ℕ → Question → List ℕ → List ℕ
moves_slice s q entry = slice_after (moves_checks s q (length entry)) (overwrite (flat_map numbers (survivors_at s q)) entry) entry
