-- `tables::checks::check_length` meets its contract. The file ends where the bodies end, or the length is wrong.
use borrow.Author.Tests.{eq-eqb, ne_eqb}
use Rattle.tables.specs.Checks.{fault}
use Rattle.tables.specs.Open.{length_fault}
use Rattle.tables.proofs.checks.check_length.Goals as goal

pub returns-then-len-end : goal.returns-then-len-end
unfolding length_fault fault
returns-then-len-end c = simp (← c.requires, ne_eqb _ _ c.if-len-end.true, c.fault.ensures)

pub returns : goal.returns
unfolding length_fault fault
returns c = simp (← c.requires, eq-eqb _ _ c.if-len-end.false)
