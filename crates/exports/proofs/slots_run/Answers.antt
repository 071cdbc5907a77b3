-- `exports::slots_run` meets its contract.
use Rattle.std.proofs.Common.{◌≡◌, ◌≤◌, length, refl, arith}
use Rattle.exports.specs.Calls.{report_of}
use Rattle.exports.proofs.CallLaws.{returned_short, reported_short, written_short, written_long, answered, place_reported}
use Rattle.exports.proofs.LentLaws.{run_meets}
use Rattle.exports.proofs.slots_run.Goals as goal

pub returns-then-report-lt-REPORT_BYTES-clause-number : goal.returns-then-report-lt-REPORT_BYTES-clause-number
returns-then-report-lt-REPORT_BYTES-clause-number c = returned_short _ (omega arith) _ (omega arith)

pub returns-then-report-lt-REPORT_BYTES-clause-marks : goal.returns-then-report-lt-REPORT_BYTES-clause-marks
returns-then-report-lt-REPORT_BYTES-clause-marks c = written_short _ (omega arith) _ _

pub returns-then-report-lt-REPORT_BYTES-clause-steps : goal.returns-then-report-lt-REPORT_BYTES-clause-steps
returns-then-report-lt-REPORT_BYTES-clause-steps c = written_short _ (omega arith) _ _

pub returns-then-report-lt-REPORT_BYTES-clause-report : goal.returns-then-report-lt-REPORT_BYTES-clause-report
returns-then-report-lt-REPORT_BYTES-clause-report c = reported_short _ (omega arith) _

pub returns-in-Ok : goal.returns-in-Ok
unfolding report_of
returns-in-Ok c =
    let long : 24 ≤ length c.args.report.now = omega arith in
    let done : c.report_values.result ≡ 0 = omega arith in
    let marks = rw c.from_numbers-question.ensures at c.run.ensures.marks in
    let steps = rw c.from_numbers-question.ensures at c.run.ensures.steps in
    let all =
    answered _ long _ _ (rw c.from_numbers-question.ensures at c.in-Ok.ensures.answer) (omega arith) refl (omega arith) (omega arith) (omega arith)
    c.report_values.ensures.report c.report_values.ensures.read_back in
    record {
      number = all.number;
      marks = written_long _ long _ _ marks;
      steps = written_long _ long _ _ steps;
      report = all.report_is;
      unchanged = λ other. absurd (other done);
      agrees = λ l. record { answer = all.agrees; marks_are = marks.words; steps_are = steps.words; demands = run_meets _ _ _ _ _ _ _ marks.words steps.words };
    }

pub returns-in-Err : goal.returns-in-Err
unfolding report_of
returns-in-Err c =
    let long : 24 ≤ length c.args.report.now = omega arith in
    let marks = rw c.from_numbers-question.ensures at c.run.ensures.marks in
    let steps = rw c.from_numbers-question.ensures at c.run.ensures.steps in
    let all =
    answered _ long _ _ (rw c.from_numbers-question.ensures at c.in-Err.ensures.answer) (omega arith) (place_reported _) (omega arith) (omega arith) (omega arith)
    c.report_refusal.ensures.report c.report_refusal.ensures.read_back in
    record {
      number = all.number;
      marks = written_long _ long _ _ marks;
      steps = written_long _ long _ _ steps;
      report = all.report_is;
      unchanged = λ other. c.in-Err.ensures.unchanged;
      agrees = λ l. record { answer = all.agrees; marks_are = marks.words; steps_are = steps.words; demands = run_meets _ _ _ _ _ _ _ marks.words steps.words };
    }
