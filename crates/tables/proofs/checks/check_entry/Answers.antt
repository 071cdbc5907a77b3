-- `tables::checks::check_entry` meets its contract. Each return is the first fault that applies.
use native.Mathlib.Omega.{arith}
use borrow.Author.Tests.{lt-ltb, le-ltb, eq-eqb, ne_eqb}
use Rattle.tables.specs.Checks.{fault, ◌then◌}
use Rattle.tables.specs.Open.{entry_fault}
use Rattle.tables.proofs.AcceptedLaws.{outside_kind}
use Rattle.tables.proofs.checks.check_entry.Goals as goal

pub returns-then-is_err : goal.returns-then-is_err
unfolding entry_fault fault ◌then◌
returns-then-is_err c =
    simp (← c.entry_at-entry.ensures, outside_kind _ c.try_from.ensures c.is_err.ensures.value c.if-is_err.true, c.fault.ensures)

pub returns-then-is_outside : goal.returns-then-is_outside
unfolding entry_fault fault ◌then◌
returns-then-is_outside c =
    simp (← c.entry_at-entry.ensures, outside_kind _ c.try_from.ensures c.is_err.ensures.value c.if-is_err.false, ← c.is_outside.ensures, c.if-is_outside.true, c.fault-then-is_outside.ensures)

pub returns-then-entry-gt-ROWS : goal.returns-then-entry-gt-ROWS
unfolding entry_fault fault ◌then◌
returns-then-entry-gt-ROWS c =
    simp (← c.entry_at-entry.ensures, outside_kind _ c.try_from.ensures c.is_err.ensures.value c.if-is_err.false, ← c.is_outside.ensures, c.if-is_outside.false, lt-ltb 512 c.entry_at-entry.result.rows (let above = c.if-entry-gt-ROWS.true in omega arith), c.fault-then-entry-gt-ROWS.ensures)

pub returns-then-entry-end : goal.returns-then-entry-end
unfolding entry_fault fault ◌then◌
returns-then-entry-end c =
    simp (← c.entry_at-entry.ensures, outside_kind _ c.try_from.ensures c.is_err.ensures.value c.if-is_err.false, ← c.is_outside.ensures, c.if-is_outside.false, le-ltb 512 c.entry_at-entry.result.rows (let few = c.if-entry-gt-ROWS.false in omega arith), ← c.requires.1, ne_eqb _ _ c.if-entry-end.true, c.fault-then-entry-end.ensures)

pub returns : goal.returns
unfolding entry_fault fault ◌then◌
returns c =
    simp (← c.entry_at-entry.ensures, outside_kind _ c.try_from.ensures c.is_err.ensures.value c.if-is_err.false, ← c.is_outside.ensures, c.if-is_outside.false, le-ltb 512 c.entry_at-entry.result.rows (let few = c.if-entry-gt-ROWS.false in omega arith), ← c.requires.1, eq-eqb _ _ c.if-entry-end.false)
