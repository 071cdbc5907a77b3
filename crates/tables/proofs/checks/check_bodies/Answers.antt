-- `tables::checks::check_bodies` meets its contract. The invariant: the bodies before i have passed.
use mathlib.Core.Path.{sym, ◌∙◌}
use native.Mathlib.Omega.{arith}
use Rattle.tables.proofs.CheckLaws.{handed_on, scan_none, scan_next, scan_stops}
use Rattle.tables.proofs.FileLaws.{body_checks_lem}
use Rattle.tables.proofs.checks.check_bodies.Goals as goal

pub loop-i-init : goal.loop-i-init
loop-i-init c = (omega arith, scan_none _)

pub returns-in_err-check_body_rows : goal.returns-in_err-check_body_rows
returns-in_err-check_body_rows c =
    handed_on _ _ c.from_residual.ensures.1 ∙ sym c.in_err-check_body_rows.was
    ∙ scan_stops _ _ _ _ _ c.loop-i.invariant.1 (c.check_body_rows.ensures ∙ body_checks_lem _ _ _ c.entry_at.ensures) c.in_err-check_body_rows.was (omega arith)

pub loop-i-preserved : goal.loop-i-preserved
loop-i-preserved c = (omega arith, scan_next _ _ _ c.loop-i.invariant.1 (c.check_body_rows.ensures ∙ body_checks_lem _ _ _ c.entry_at.ensures) c.in_ok-check_body_rows.was)
