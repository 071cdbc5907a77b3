-- `exports::from_numbers` meets its contract.
use Rattle.std.proofs.Common.{arith}
use Rattle.exports.proofs.CallLaws.{asked_same}
use Rattle.exports.proofs.from_numbers.Goals as goal

pub returns : goal.returns
returns c = asked_same (omega arith) (omega arith) (omega arith) (omega arith) (omega arith)
