-- `tables::checks::check_rows` meets its contract. The invariant: the rows before j have passed.
use native.Mathlib.Omega.{arith}
use mathlib.Core.Path.{sym, ◌∙◌}
use Rattle.tables.proofs.CheckLaws.{handed_on, scan_none, scan_next, scan_stops}
use Rattle.tables.proofs.checks.check_rows.Goals as goal

pub loop-j-init : goal.loop-j-init
loop-j-init c = (omega arith, scan_none _)

pub returns-in_err-check_row : goal.returns-in_err-check_row
returns-in_err-check_row c = handed_on _ _ c.from_residual.ensures.1 ∙ sym c.in_err-check_row.was ∙ scan_stops _ _ _ _ _ c.loop-j.invariant.1 c.check_row.ensures c.in_err-check_row.was (omega arith)

pub loop-j-preserved : goal.loop-j-preserved
loop-j-preserved c = (omega arith, scan_next _ _ _ c.loop-j.invariant.1 c.check_row.ensures c.in_ok-check_row.was)
