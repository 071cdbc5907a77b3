-- `exports::reports::report_values` meets its contract.
use Rattle.std.proofs.Common.{◌∙◌, ap, arith}
use Rattle.exports.specs.Bytes.{numbers_in}
use Rattle.exports.proofs.ByteLaws.{numbers_back}
use Rattle.exports.proofs.reports.report_values.Goals as goal

pub returns-clause-read_back : goal.returns-clause-read_back
returns-clause-read_back c = ap numbers_in c.write_numbers.ensures.out ∙ numbers_back _ _ (omega arith) c.write_numbers.ensures.numbers
