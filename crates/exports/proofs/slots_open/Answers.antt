-- `exports::slots_open` meets its contract.
use Rattle.std.proofs.Common.{◌≤◌, length, refl, arith}
use Rattle.exports.specs.Calls.{report_of}
use Rattle.exports.proofs.CallLaws.{returned_short, reported_short, answered, place_reported}
use Rattle.exports.proofs.slots_open.Goals as goal

pub returns-then-report-lt-REPORT_BYTES-clause-number : goal.returns-then-report-lt-REPORT_BYTES-clause-number
returns-then-report-lt-REPORT_BYTES-clause-number c = returned_short _ (omega arith) _ (omega arith)

pub returns-then-report-lt-REPORT_BYTES-clause-report : goal.returns-then-report-lt-REPORT_BYTES-clause-report
returns-then-report-lt-REPORT_BYTES-clause-report c = reported_short _ (omega arith) _

pub returns-in-Ok : goal.returns-in-Ok
unfolding report_of
returns-in-Ok c =
    let long : 24 ≤ length c.args.report.now = omega arith in
    let all =
    answered _ long _ _ c.in-Ok.ensures (omega arith) refl (omega arith) (omega arith) (omega arith)
    c.report_values.ensures.report c.report_values.ensures.read_back in
    record { number = all.number; report = all.report_is; agrees = λ l. all.agrees }

pub returns-in-Err : goal.returns-in-Err
unfolding report_of
returns-in-Err c =
    let long : 24 ≤ length c.args.report.now = omega arith in
    let all =
    answered _ long _ _ c.in-Err.ensures (omega arith) (place_reported _) (omega arith) (omega arith) (omega arith)
    c.report_refusal.ensures.report c.report_refusal.ensures.read_back in
    record { number = all.number; report = all.report_is; agrees = λ l. all.agrees }
