-- Questions about a pair of states in a mode. Document 01, 'Operations and what they turn back'.
use Rattle.std.specs.Prelude.{ℕ, cond, List, ltb, eqb}
use Rattle.rules.specs.declared.Mode.{Mode}
use Rattle.rules.specs.declared.Mode.TheVariants.{Full, Partial}
use Rattle.tables.specs.Checks.{Checked, fault, ◌then◌}
use Rattle.tables.specs.declared.Reason.TheVariants.{NoMode}
use Rattle.questions.specs.declared.Question.{Question}
use Rattle.questions.specs.Pairs.{pair_checks}

-- "a mode, 0 full or 1 partial"; another number is turned back, and what it gives here means nothing
unfoldable pub mode_of : ℕ → Mode
mode_of m = cond (eqb m 0) Full Partial

-- "15 another mode"
unfoldable pub mode_fault : ℕ → Checked
mode_fault mode = fault (ltb 1 mode) NoMode 0

-- "After 11, 12, 13 as above: 15"
unfoldable pub mode_checks : List ℕ → Question → ℕ → Checked
mode_checks s q mode = pair_checks s q then mode_fault mode
