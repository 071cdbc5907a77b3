-- `questions::modes::check_decision` meets its contract.
use Rattle.tables.proofs.CheckLaws.{hand_stops, then_goes}
use Rattle.questions.specs.Modes.{mode_checks}
use Rattle.questions.proofs.modes.check_decision.Goals as goal

pub returns-in_err-check_pair : goal.returns-in_err-check_pair
unfolding mode_checks
returns-in_err-check_pair c = hand_stops _ _ c.from_residual.ensures.1 c.check_pair.ensures c.in_err-check_pair.was

pub returns : goal.returns
unfolding mode_checks
returns c = then_goes _ _ _ _ c.check_pair.ensures c.in_ok-check_pair.was c.check_mode.ensures
