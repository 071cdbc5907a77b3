-- `exports::numbers::count_words` meets its contract.
use Rattle.std.proofs.Common.{arith}
use Rattle.exports.proofs.ByteLaws.{length-words}
use Rattle.exports.proofs.numbers.count_words.Goals as goal

pub returns : goal.returns
returns c = record { count = omega (arith, length-words c.args.bytes.now); bytes = λ i. let byte = c.type_inv.bytes i in omega arith }
