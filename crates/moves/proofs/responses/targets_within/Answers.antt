-- `responses::targets_within` meets its contract.
use Rattle.moves.proofs.CollectedLaws.{tops_are}
use Rattle.moves.proofs.responses.targets_within.Goals as goal

pub returns : goal.returns
returns g c = tops_are c.collect.ensures (rw c.as_slice.ensures.value at c.targets.ensures)
