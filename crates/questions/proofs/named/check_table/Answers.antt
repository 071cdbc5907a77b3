-- `questions::named::check_table` meets its contract: each answer is the first check that finds a fault.
use mathlib.Core.Path.{◌∙◌}
use Rattle.tables.specs.Body.{body_checks}
use Rattle.tables.proofs.CheckLaws.{hand_stops, then_goes, then_assoc}
use Rattle.questions.specs.Named.{table_checks}
use Rattle.questions.proofs.named.check_table.Goals as goal

pub returns-in_err-check_body : goal.returns-in_err-check_body
unfolding table_checks body_checks
returns-in_err-check_body c = hand_stops _ _ c.from_residual.ensures.1 c.check_body.ensures.checks c.in_err-check_body.was ∙ then_assoc _ _ _

pub returns : goal.returns
unfolding table_checks body_checks
returns c = then_goes _ _ _ _ c.check_body.ensures.checks c.in_ok-check_body.was c.check_kind.ensures ∙ then_assoc _ _ _
