-- `tables::checks::check_contents` meets its contract. The invariant: the entries before i have passed, and end is the end of what precedes body i.
use Prim.Native.Nat.{◌-◌, ◌≤◌}
use mathlib.Core.Path.{◌≡◌}
use Rattle.tables.specs.Checks.{scan}
use Rattle.tables.specs.File.{end_before}
use Rattle.tables.specs.Open.{entry_fault}
use Rattle.tables.proofs.checks.check_contents.Given as goal
use Rattle.std.proofs.Common.{Ok}

abbrev pub invariant-loop-i : goal.invariant-loop-i
invariant-loop-i l = (l.i ≤ l.k) × (scan (entry_fault l.file) l.i ≡ Ok tt) × (l.end ≡ end_before l.file l.i)

abbrev pub decreases-loop-i : goal.decreases-loop-i
decreases-loop-i l = l.k - l.i
