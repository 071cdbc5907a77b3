-- Decide. Document 01, 'Operations and what they turn back'.
use Rattle.std.specs.Prelude.{ℕ, ◌*◌, List, [], ◌∷◌, ltb, eqb, length}
use Rattle.rules.specs.Below.{one}
use Rattle.rules.specs.Slices.{overwrite}
use Rattle.rules.specs.Rounds.{mark, marks, kept_count, rounds}
use Rattle.tables.specs.Checks.{Checked, fault, ◌then◌}
use Rattle.tables.specs.Answers.{Answer, answer, slice_after}
use Rattle.tables.specs.declared.Reason.TheVariants.{NoRoom}
use Rattle.questions.specs.declared.Question.{Question}
use Rattle.questions.specs.Pairs.{demand_of, supply_of}
use Rattle.questions.specs.Modes.{mode_of, mode_checks}

-- then "14 the lent 16-bit slice is shorter than the demand n × the supply n."; room is its length
unfoldable pub decide_checks : List ℕ → Question → ℕ → ℕ → Checked
decide_checks s q mode room = mode_checks s q mode then fault (ltb room ((demand_of s q).n * (supply_of s q).n)) NoRoom 0

-- "Returned: yes if the start pair, the two states given, is marked 0, else no; the count kept, which is the number of pairs marked 0; and
-- rounds, the highest mark written, 0 where all pairs are kept."
unfoldable pub decide_answer : List ℕ → Question → ℕ → ℕ → Answer
decide_answer s q mode room =
    answer (decide_checks s q mode room)
    (one (eqb (mark (mode_of mode) (demand_of s q) (supply_of s q) q.demand.state q.supply.state) 0)
    ∷ kept_count (mode_of mode) (demand_of s q) (supply_of s q) ∷ rounds (mode_of mode) (demand_of s q) (supply_of s q) ∷ [])

-- "The mark of pair (t, s) goes to entry t × (supply n) + s; later entries are unchanged."
unfoldable pub decide_slice : List ℕ → Question → ℕ → List ℕ → List ℕ
decide_slice s q mode entry =
    slice_after (decide_checks s q mode (length entry)) (overwrite (marks (mode_of mode) (demand_of s q) (supply_of s q)) entry) entry
