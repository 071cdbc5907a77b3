-- `MaximalTest::is_maximal` meets its contract.
use Rattle.moves.proofs.CollectedLaws.{maximal_by_moves}
use Rattle.moves.proofs.responses.MaximalTest.is_maximal.Goals as goal

pub returns-then-is_inside : goal.returns-then-is_inside
returns-then-is_inside c = rw (maximal_by_moves c.args.self.collected c.args.set, ← c.is_inside.ensures, c.if-is_inside.true, c.is_under.ensures)

pub returns-else-is_inside : goal.returns-else-is_inside
returns-else-is_inside c = rw (maximal_by_moves c.args.self.collected c.args.set, ← c.is_inside.ensures, c.if-is_inside.false)
