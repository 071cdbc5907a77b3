-- `tables::checks::check_rows` meets its contract. The invariant: the rows before j have passed.
use Prim.Native.Nat.{◌-◌, ◌≤◌}
use mathlib.Core.Path.{◌≡◌}
use Rattle.tables.specs.Checks.{scan}
use Rattle.tables.specs.Open.{row_fault}
use Rattle.tables.proofs.checks.check_rows.Given as goal
use Rattle.std.proofs.Common.{Ok}

abbrev pub invariant-loop-j : goal.invariant-loop-j
invariant-loop-j l = (l.j ≤ l.m) × (scan (row_fault l.body l.n l.start) l.j ≡ Ok tt)

abbrev pub decreases-loop-j : goal.decreases-loop-j
decreases-loop-j l = l.m - l.j
