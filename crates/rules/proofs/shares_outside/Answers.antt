-- The code is the definition.
use Rattle.std.proofs.Common.{ap}
use mathlib.Core.Bool.{not}
use Rattle.rules.specs.Sets.{shares_outside, intersection}
use Rattle.rules.proofs.shares_outside.Goals as goal

pub returns : goal.returns
unfolding shares_outside intersection
returns c = ap not c.is_inside.ensures
