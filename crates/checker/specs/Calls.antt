-- How what Decide, Reach, Join and Merge return is read as an answer in document 01's terms.
use Rattle.std.specs.Prelude.{[], ◌∷◌, Result, Ok, Err}
use Rattle.rules.specs.Below.{one}
use Rattle.tables.specs.declared.Refusal.{Refusal}
use Rattle.tables.specs.Answers.{Answer, carried_out, turned_back}
use Rattle.checker.specs.declared.Verdict.{Verdict}
use Rattle.checker.specs.declared.Reached.{Reached}
use Rattle.checker.specs.declared.TableSize.{TableSize}

-- Decide: "yes" as 1 or "no" as 0, "the count kept", "and rounds"
abbrev pub decided : Result Verdict Refusal → Answer
decided (Ok v) = carried_out (one v.yes ∷ v.kept ∷ v.rounds ∷ [])
decided (Err r) = turned_back r

-- Reach: yes or no in the same way, and the count
abbrev pub reached : Result Reached Refusal → Answer
reached (Ok r) = carried_out (one r.yes ∷ r.count ∷ [])
reached (Err r) = turned_back r

-- Join and Merge: "n and m are returned"
abbrev pub sized : Result TableSize Refusal → Answer
sized (Ok t) = carried_out (t.states ∷ t.rows ∷ [])
sized (Err r) = turned_back r
