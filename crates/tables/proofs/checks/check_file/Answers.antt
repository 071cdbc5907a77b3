-- `tables::checks::check_file` meets its contract. Each step that passes leaves the answer to the next; with the first three passed, the bodies lie in the file.
use Prim.Native.Nat.{ℕ}
use mathlib.Core.Path.{◌≡◌, refl, sym, ◌∙◌, ap}
use native.Mathlib.Omega.{arith}
use Rattle.std.proofs.Common.{Ok}
use Rattle.tables.specs.Checks.{scan, ◌then◌}
use Rattle.tables.specs.File.{tables_of}
use Rattle.tables.specs.Open.{entry_fault, length_fault, body_fault, file_fault}
use Rattle.tables.proofs.CheckLaws.{handed_on, then_left, then_right, then_stops, then_goes, hand_stops, then_assoc}
use Rattle.tables.proofs.AcceptedLaws.{header_passed, laid}
use Rattle.tables.proofs.checks.check_file.Goals as goal

pub returns-in_err-check_header : goal.returns-in_err-check_header
unfolding file_fault
returns-in_err-check_header c = hand_stops _ _ c.from_residual.ensures.1 c.check_header.ensures c.in_err-check_header.was

pub check_contents-requires : goal.check_contents-requires
check_contents-requires c = let header = header_passed c.args.file.now (sym c.check_header.ensures ∙ c.in_ok-check_header.was) in
    (omega (arith, header.few, c.table_count-k.ensures), c.table_count-k.ensures)

pub returns-in_err-check_contents : goal.returns-in_err-check_contents
unfolding file_fault
returns-in_err-check_contents c = let s = c.args.file.now in
    let contents = c.check_contents.ensures ∙ ap (λ (n : ℕ). scan (entry_fault s) n then length_fault s) c.table_count-k.ensures in
    handed_on _ _ c.from_residual-in_err-check_contents.ensures.1 ∙ sym c.in_err-check_contents.was
    ∙ then_goes _ _ _ _ c.check_header.ensures c.in_ok-check_header.was
    (then_stops _ _ _ _ contents c.in_err-check_contents.was ∙ then_assoc _ _ _)

pub check_bodies-requires : goal.check_bodies-requires
check_bodies-requires c = let s = c.args.file.now in
    let contents = c.check_contents.ensures ∙ ap (λ (n : ℕ). scan (entry_fault s) n then length_fault s) c.table_count-k.ensures in
    let passed : (scan (entry_fault s) (tables_of s) then length_fault s) ≡ Ok tt = sym contents ∙ c.in_ok-check_contents.was in
    rw c.table_count-k.ensures (laid s (sym c.check_header.ensures ∙ c.in_ok-check_header.was) (then_left _ _ passed) (then_right _ _ passed))

pub returns : goal.returns
unfolding file_fault
returns c = let s = c.args.file.now in
    let contents = c.check_contents.ensures ∙ ap (λ (n : ℕ). scan (entry_fault s) n then length_fault s) c.table_count-k.ensures in
    let passed : (scan (entry_fault s) (tables_of s) then length_fault s) ≡ Ok tt = sym contents ∙ c.in_ok-check_contents.was in
    then_goes _ _ _ _ c.check_header.ensures c.in_ok-check_header.was
    (then_goes _ _ _ _ refl (then_left _ _ passed)
    (then_goes _ _ _ _ refl (then_right _ _ passed) (c.check_bodies.ensures ∙ ap (scan (body_fault s)) c.table_count-k.ensures)))
