-- The picker. Document 02, L6, 'A picker for the twin-station panel.' What is listed goes through what Decide answers.
use Rattle.std.specs.Prelude.{ℕ, Bool, List, [], ◌∷◌, ltb, eqb, get_or, length}
use Rattle.rules.specs.Below.{list_below}
use Rattle.rules.specs.Lists.{keep_if}
use Rattle.rules.specs.Slices.{overwrite}
use Rattle.tables.specs.Checks.{Checked, fault, ◌then◌}
use Rattle.tables.specs.Answers.{Answer, answer, slice_after}
use Rattle.tables.specs.File.{tables_of}
use Rattle.tables.specs.declared.Reason.TheVariants.{NoRoom}
use Rattle.questions.specs.declared.Question.{Question}
use Rattle.questions.specs.Named.{table_checks, as_demand}
use Rattle.questions.specs.Modes.{mode_fault}
use Rattle.questions.specs.Starts.{from_starts}
use Rattle.checker.specs.Decide.{decide_answer}

-- whether Decide says yes, 1 as the first of its values; 4,096 entries are room for the marks of any two tables, as none has more than 64 states
unfoldable pub gets_yes : List ℕ → Question → ℕ → Bool
gets_yes s q mode = eqb (get_or (decide_answer s q mode 4096).values 0 0) 1

-- "the number of every supply table that gets a yes, and no other, each once, rising"; "all starts being state 1, or 0 where n is 1". A table that is no
-- supply is turned back by Decide.
unfoldable pub picked : List ℕ → ℕ → ℕ → ℕ → List ℕ
picked s demand mode standing = keep_if (λ i. gets_yes s (from_starts s demand i standing) mode) (list_below (tables_of s) (λ i. i))

-- "Answers: Open's, 11, 12 for the demand, 15, then 14 when the lent bytes are fewer than the numbers listed."; room is how many are lent
unfoldable pub pick_checks : List ℕ → ℕ → ℕ → ℕ → ℕ → Checked
pick_checks s demand mode standing room =
    table_checks s (as_demand demand) then mode_fault mode then fault (ltb room (length (picked s demand mode standing))) NoRoom 0

-- "the count is returned"
unfoldable pub pick_answer : List ℕ → ℕ → ℕ → ℕ → ℕ → Answer
pick_answer s demand mode standing room = answer (pick_checks s demand mode standing room) (length (picked s demand mode standing) ∷ [])

-- "one byte each"; "Later bytes are unchanged"
unfoldable pub pick_slice : List ℕ → ℕ → ℕ → ℕ → List ℕ → List ℕ
pick_slice s demand mode standing entry =
    slice_after (pick_checks s demand mode standing (length entry)) (overwrite (picked s demand mode standing) entry) entry
