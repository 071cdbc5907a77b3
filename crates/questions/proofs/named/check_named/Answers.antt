-- `questions::named::check_named` meets its contract: each answer is the first check that finds a fault.
use mathlib.Core.Path.{◌≡◌, ap, ◌∙◌}
use native.Mathlib.Omega.{arith}
use Rattle.std.proofs.Common.{ℕ}
use Rattle.tables.specs.Body.{number_fault, body_checks}
use Rattle.tables.proofs.CheckLaws.{hand_stops, then_goes, then_assoc}
use Rattle.questions.specs.Named.{named_checks}
use Rattle.questions.proofs.NamedLaws.{body_same, kinds_left}
use Rattle.questions.proofs.named.check_named.Goals as goal

pub returns-in_err-check_body : goal.returns-in_err-check_body
unfolding named_checks body_checks
returns-in_err-check_body c =
    let first : c.check_body.result ≡ body_checks c.args.file.now c.args.first.table = body_same _ c.check_body.ensures.checks (omega arith) in
    hand_stops _ _ c.from_residual.ensures.1 first c.in_err-check_body.was ∙ then_assoc _ _ _

pub returns-in_err-check_number : goal.returns-in_err-check_number
unfolding named_checks body_checks
returns-in_err-check_number c =
    let first : c.check_body.result ≡ body_checks c.args.file.now c.args.first.table = body_same _ c.check_body.ensures.checks (omega arith) in
    let second = c.check_number.ensures ∙ ap (λ (k : ℕ). number_fault k c.args.second.table) c.table_count.ensures in
    then_goes _ _ _ _ first c.in_ok-check_body.was
    (hand_stops _ _ c.from_residual-in_err-check_number.ensures.1 second c.in_err-check_number.was)
    ∙ then_assoc _ _ _

pub returns-in_err-check_kind : goal.returns-in_err-check_kind
returns-in_err-check_kind c =
    kinds_left _ _ _ c.check_body.ensures.checks c.in_ok-check_body.was c.check_number.ensures c.in_ok-check_number.was (omega arith) c.table_count.ensures (omega arith)
    (hand_stops _ _ c.from_residual-in_err-check_kind.ensures.1 c.check_kind.ensures c.in_err-check_kind.was)

pub returns : goal.returns
returns c =
    kinds_left _ _ _ c.check_body.ensures.checks c.in_ok-check_body.was c.check_number.ensures c.in_ok-check_number.was (omega arith) c.table_count.ensures (omega arith)
    (then_goes _ _ _ _ c.check_kind.ensures c.in_ok-check_kind.was c.check_kind-2.ensures)
