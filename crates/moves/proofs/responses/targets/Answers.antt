-- `responses::targets` meets its contract.
use Rattle.std.proofs.Common.{◌∙◌, ap, arith}
use Rattle.rules.specs.Sets.{has}
use Rattle.rules.proofs.SetLaws.{has-none}
use Rattle.rules.proofs.ListLaws.{get_or-mem}
use Rattle.moves.proofs.CollectedLaws.{tops_gathered}
use Rattle.moves.proofs.responses.targets.Goals as goal

pub loop-taken-init : goal.loop-taken-init
loop-taken-init c = λ u. ap (has u) c.empty-targets.ensures ∙ has-none u

pub insert-requires : goal.insert-requires
insert-requires c = c.requires.low _ (get_or-mem _ _ _ (omega arith))

pub returns : goal.returns
returns c = tops_gathered _ _ _ c.loop-taken.invariant (omega arith)
