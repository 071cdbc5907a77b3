-- `exports::reports::report_refusal` meets its contract.
use Rattle.std.proofs.Common.{◌≡◌, arith}
use Rattle.tables.specs.Answers.{number_of}
use Rattle.exports.proofs.CallLaws.{three_same}
use Rattle.exports.proofs.reports.report_refusal.Goals as goal

pub returns : goal.returns
returns c =
    let returned : c.number.result ≡ number_of c.args.refusal.reason = omega arith in
    let written = three_same _ c.write_numbers.ensures.out c.write_numbers.ensures.numbers (omega arith) (omega arith) (omega arith) in
    record { number = returned; report = written.0; read_back = written.1 }
