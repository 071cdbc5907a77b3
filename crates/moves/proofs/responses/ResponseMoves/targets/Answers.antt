-- `ResponseMoves::targets` meets its contract.
use Rattle.moves.proofs.CollectedLaws.{tops_by}
use Rattle.moves.proofs.responses.ResponseMoves.targets.Goals as goal

pub returns : goal.returns
returns g c = tops_by c.args.self.now.collected (rw c.as_slice.ensures.value at c.targets.ensures)
