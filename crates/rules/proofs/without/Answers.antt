-- The code is the definition.
use Rattle.std.proofs.Common.{refl}
use Rattle.rules.specs.Sets.{difference}
use Rattle.rules.proofs.without.Goals as goal

pub returns : goal.returns
unfolding difference
returns c = refl
