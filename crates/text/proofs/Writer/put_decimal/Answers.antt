-- `text::Writer::put_decimal` meets its contract. The digits that `io::decimal` spells are written.
use Rattle.std.proofs.Common.{sym}
use native.Mathlib.Omega.{arith}
use Rattle.text.proofs.TextLaws.{decimal_spelled}
use Rattle.text.proofs.Writer.put_decimal.Goals as goal

pub returns : goal.returns
returns c = rw (sym (decimal_spelled _ _ _ (let n = c.ranges in omega arith) c.decimal-count.ensures.len c.decimal-count.ensures.digits)) c.put.ensures
