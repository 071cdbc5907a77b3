-- `tables::checks::check_bodies` meets its contract. The invariant: the bodies before i have passed.
use Prim.Native.Nat.{◌-◌, ◌≤◌}
use mathlib.Core.Path.{◌≡◌}
use Rattle.tables.specs.Checks.{scan}
use Rattle.tables.specs.Open.{body_fault}
use Rattle.tables.proofs.checks.check_bodies.Given as goal
use Rattle.std.proofs.Common.{Ok}

abbrev pub invariant-loop-i : goal.invariant-loop-i
invariant-loop-i l = (l.i ≤ l.k) × (scan (body_fault l.file) l.i ≡ Ok tt)

abbrev pub decreases-loop-i : goal.decreases-loop-i
decreases-loop-i l = l.k - l.i
