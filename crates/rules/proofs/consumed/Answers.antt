-- The code is the definition.
use Rattle.std.proofs.Common.{refl}
use Rattle.rules.specs.Sets.{intersection}
use Rattle.rules.proofs.consumed.Goals as goal

pub returns : goal.returns
unfolding intersection
returns c = refl
