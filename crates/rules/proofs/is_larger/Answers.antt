-- Equal sets are not strictly larger; of two that differ, the larger holds the other.
use Rattle.rules.proofs.SetLaws.{same_larger, other_larger}
use Rattle.rules.proofs.is_larger.Goals as goal

pub returns-then-a-b : goal.returns-then-a-b
returns-then-a-b c = same_larger _ _ c.if-a-b.true

pub returns-else-a-b : goal.returns-else-a-b
returns-else-a-b c = other_larger _ _ _ c.if-a-b.false c.is_inside.ensures
