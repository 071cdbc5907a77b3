-- `tables::check_body` meets its contract. What opening finds is handed on; else the number tells.
use Rattle.tables.specs.Body.{number_fault, body_checks}
use Rattle.tables.proofs.AcceptedLaws.{open_stops, open_goes}
use Rattle.tables.proofs.BodyLaws.{body_answered}
use Rattle.tables.proofs.check_body.Goals as goal

pub returns-in_default-clause-checks : goal.returns-in_default-clause-checks
unfolding body_checks
returns-in_default-clause-checks c = open_stops _ _ c.open-found.ensures c.unwrap_err.ensures

pub returns-in_default-clause-answer : goal.returns-in_default-clause-answer
returns-in_default-clause-answer c = body_answered _ _ _ (returns-in_default-clause-checks c)

pub returns-clause-checks : goal.returns-clause-checks
unfolding body_checks
returns-clause-checks c = open_goes _ c.open-found.ensures c.in-Ok.is (λ k. number_fault k c.args.table) c.check_number.ensures

pub returns-clause-answer : goal.returns-clause-answer
returns-clause-answer c = body_answered _ _ _ (returns-clause-checks c)
