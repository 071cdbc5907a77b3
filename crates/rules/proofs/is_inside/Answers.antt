-- The code is the definition.
use Rattle.std.proofs.Common.{refl}
use Rattle.rules.specs.Sets.{inside}
use Rattle.rules.proofs.is_inside.Goals as goal

pub returns : goal.returns
unfolding inside
returns c = refl
