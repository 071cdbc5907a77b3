-- `questions::sizes::check_operands` meets its contract. Each answer is the first check that finds a fault.
use Prim.Native.Nat.{◌*◌}
use mathlib.Core.Path.{refl}
use native.Mathlib.Omega.{arith}
use borrow.Author.Tests.{lt-ltb, le-ltb}
use Rattle.tables.specs.Checks.{fault}
use Rattle.tables.proofs.CheckLaws.{hand_stops, then_goes}
use Rattle.questions.specs.Sizes.{size_checks}
use Rattle.questions.proofs.sizes.check_operands.Goals as goal

pub returns-in_err-check_named : goal.returns-in_err-check_named
unfolding size_checks
returns-in_err-check_named c = hand_stops _ _ c.from_residual.ensures.1 c.check_named.ensures c.in_err-check_named.was

pub returns-then-states-gt-STATES : goal.returns-then-states-gt-STATES
unfolding size_checks fault
returns-then-states-gt-STATES c = then_goes _ _ _ _ c.check_named.ensures c.in_ok-check_named.was (simp (← c.states_of.ensures, ← c.states_of-2.ensures, lt-ltb 64 (c.states_of.result * c.states_of-2.result) (let above = c.if-states-gt-STATES.true in omega arith), c.new.ensures) refl)

pub returns : goal.returns
unfolding size_checks fault
returns c = then_goes _ _ _ _ c.check_named.ensures c.in_ok-check_named.was (simp (← c.states_of.ensures, ← c.states_of-2.ensures, le-ltb 64 (c.states_of.result * c.states_of-2.result) (let few = c.if-states-gt-STATES.false in omega arith)) refl)
