-- `responses::targets` meets its contract. The invariant: the set has the targets of those among the moves so far than which none is larger.
use Rattle.std.proofs.Common.{◌≡◌, ℕ, not, ◌&&◌, take, eqb}
use Rattle.rules.specs.Lists.{any}
use Rattle.rules.specs.Sets.{has, larger}
use Rattle.moves.proofs.responses.targets.Given as goal

abbrev pub invariant-loop-taken : goal.invariant-loop-taken
invariant-loop-taken l =
    (u : ℕ) → has u l.targets.bits ≡ any (λ b. not (any (λ c. larger c.set b.set) l.found) && eqb b.target u) (take l.taken-index l.found)
