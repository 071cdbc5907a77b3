-- `questions::check_pair` meets its contract. Each answer is the first check that finds a fault.
use mathlib.Core.Path.{refl}
use borrow.Author.Tests.{le-leb, lt-leb}
use Rattle.tables.specs.Checks.{fault, ◌then◌}
use Rattle.tables.proofs.CheckLaws.{hand_stops, then_goes}
use Rattle.questions.specs.Pairs.{pair_checks}
use Rattle.questions.proofs.check_pair.Goals as goal

pub returns-in_err-check_named : goal.returns-in_err-check_named
unfolding pair_checks
returns-in_err-check_named c = hand_stops _ _ c.from_residual.ensures.1 c.check_named.ensures c.in_err-check_named.was

pub returns-then-states_of-question : goal.returns-then-states_of-question
unfolding pair_checks ◌then◌ fault
returns-then-states_of-question c = then_goes _ _ _ _ c.check_named.ensures c.in_ok-check_named.was (simp (← c.states_of.ensures, le-leb _ _ c.if-states_of-question.true, c.new.ensures) refl)

pub returns-then-states_of-question-2 : goal.returns-then-states_of-question-2
unfolding pair_checks ◌then◌ fault
returns-then-states_of-question-2 c = then_goes _ _ _ _ c.check_named.ensures c.in_ok-check_named.was (simp (← c.states_of.ensures, ← c.states_of-2.ensures, lt-leb _ _ c.if-states_of-question.false, le-leb _ _ c.if-states_of-question-2.true, c.new-then-states_of-question-2.ensures) refl)

pub returns : goal.returns
unfolding pair_checks ◌then◌ fault
returns c = then_goes _ _ _ _ c.check_named.ensures c.in_ok-check_named.was (simp (← c.states_of.ensures, ← c.states_of-2.ensures, lt-leb _ _ c.if-states_of-question.false, lt-leb _ _ c.if-states_of-question-2.false) refl)
