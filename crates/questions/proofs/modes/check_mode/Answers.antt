-- `questions::modes::check_mode` meets its contract.
use mathlib.Core.Path.{refl}
use native.Mathlib.Omega.{arith}
use borrow.Author.Tests.{lt-ltb, le-ltb}
use Rattle.tables.specs.Checks.{fault}
use Rattle.questions.specs.Modes.{mode_fault}
use Rattle.questions.proofs.modes.check_mode.Goals as goal

pub returns-then-mode-gt1 : goal.returns-then-mode-gt1
unfolding mode_fault fault
returns-then-mode-gt1 c = rw (lt-ltb 1 c.args.mode (let above = c.if-mode-gt1.true in omega arith), c.new.ensures) refl

pub returns : goal.returns
unfolding mode_fault fault
returns c = rw (le-ltb 1 c.args.mode (let known = c.if-mode-gt1.false in omega arith)) refl
