-- `output::put_part` meets its contract.
use Rattle.std.proofs.lemmas.List.{take_more}
use Rattle.output.proofs.NumberLaws.{none_written, one_more}
use Rattle.output.proofs.put_part.Goals as goal

pub loop-n-init : goal.loop-n-init
loop-n-init g c = none_written

pub loop-n-preserved : goal.loop-n-preserved
loop-n-preserved g c =
    let here = c.loop-n-test.true in
    rw (take_more _ _ c.n-item.result here, ← c.n-item.is) (one_more c.loop-n.invariant c.into.ensures c.put.ensures c.put_decimal.ensures)
