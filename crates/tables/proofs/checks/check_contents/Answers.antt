-- `tables::checks::check_contents` meets its contract. The invariant: the entries before i have passed, and end is the end of what precedes body i.
use Prim.Native.Nat.{◌+◌, ◌*◌, ℕ}
use mathlib.Core.Path.{refl, sym, ◌∙◌, ap}
use native.Mathlib.Omega.{arith}
use Rattle.tables.specs.Open.{entry_fault}
use Rattle.tables.proofs.CheckLaws.{handed_on, scan_none, scan_next, scan_stops, scan_done, then_stops, then_goes}
use Rattle.tables.proofs.FileLaws.{end_first, end_more}
use Rattle.tables.proofs.AcceptedLaws.{end_short}
use Rattle.tables.proofs.checks.check_contents.Goals as goal

pub loop-i-init : goal.loop-i-init
loop-i-init c = (omega arith, scan_none _, ap (λ (k : ℕ). 2 + 6 * k) c.requires.1 ∙ sym (end_first _))

pub returns-in_err-check_entry : goal.returns-in_err-check_entry
returns-in_err-check_entry c =
    handed_on _ _ c.from_residual.ensures.1 ∙ sym c.in_err-check_entry.was
    ∙ then_stops _ _ _ _ (scan_stops _ _ _ _ _ c.loop-i.invariant.1 c.check_entry.ensures c.in_err-check_entry.was (omega arith)) c.in_err-check_entry.was

pub overflow_add-end-in-loop-i : goal.overflow_add-end-in-loop-i
overflow_add-end-in-loop-i c = let s = c.args.file.now in
    let passed = scan_next (entry_fault s) _ _ c.loop-i.invariant.1 c.check_entry.ensures c.in_ok-check_entry.was in
    let more = end_more s _ _ _ _ c.loop-i.invariant.2 c.entry_at.ensures c.body_length-end.ensures in
    let few = c.requires.1 in
    omega (arith, more, end_short s (c.loop-i.i + 1) (omega arith) (omega arith) passed)

pub loop-i-preserved : goal.loop-i-preserved
loop-i-preserved c = (
  omega arith,
  scan_next _ _ _ c.loop-i.invariant.1 c.check_entry.ensures c.in_ok-check_entry.was,
  end_more _ _ _ _ _ c.loop-i.invariant.2 c.entry_at.ensures c.body_length-end.ensures,
)

pub returns : goal.returns
returns c = then_goes _ _ _ _ (scan_done _ _ _ c.loop-i.invariant.1 (omega arith) (omega arith)) refl c.check_length.ensures
