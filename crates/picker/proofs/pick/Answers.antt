-- `picker::pick` meets its contract. What turns back the demand or the mode is handed on; then what is collected is what is written.
use mathlib.Core.Path.{◌≡◌, sym, ap, ◌∙◌}
use mathlib.Core.List.{List, ◌++◌}
use native.Mathlib.Omega.{arith}
use lib.ListN.{length, drop}
use Rattle.std.proofs.Common.{ℕ, Ok, Err}
use Rattle.rules.proofs.ClauseLaws.{as_answer_slice_demands}
use Rattle.tables.specs.Checks.{refuse}
use Rattle.tables.specs.declared.Reason.TheVariants.{NoRoom}
use Rattle.tables.proofs.CheckLaws.{handed_on, turned_back_lem}
use Rattle.questions.proofs.NamedLaws.{table_there}
use Rattle.picker.specs.Pick.{picked, pick_answer, pick_slice}
use Rattle.picker.proofs.PickLaws.{table_stops, mode_stops, room_stops}
use Rattle.picker.proofs.DemandLaws.{pick_shown, pick_written}
use Rattle.picker.proofs.pick.Goals as goal

pub returns-in_err-check_table : goal.returns-in_err-check_table
unfolding pick_answer pick_slice
returns-in_err-check_table c =
    rw (handed_on _ _ c.from_residual.ensures.1)
    (as_answer_slice_demands (pick_shown _ _ _ _ _ _ (Err _) (turned_back_lem _ _ _ _ _ (table_stops _ _ _ _ _ _ (sym c.check_table.ensures ∙ c.in_err-check_table.was)))))

pub returns-in_err-check_mode : goal.returns-in_err-check_mode
unfolding pick_answer pick_slice
returns-in_err-check_mode c =
    rw (handed_on _ _ c.from_residual-in_err-check_mode.ensures.1)
    (as_answer_slice_demands (pick_shown _ _ _ _ _ _ (Err _)
    (turned_back_lem _ _ _ _ _ (mode_stops _ _ _ _ _ (sym c.check_table.ensures ∙ c.in_ok-check_table.was) _ (sym c.check_mode.ensures ∙ c.in_err-check_mode.was)))))

pub collect-numbers-requires : goal.collect-numbers-requires
collect-numbers-requires c = (table_there _ _ (sym c.check_table.ensures ∙ c.in_ok-check_table.was)).accepted

pub returns-then-out-count : goal.returns-then-out-count
unfolding pick_answer pick_slice
returns-then-out-count c =
    let many : c.len-count.result ≡ length (picked c.args.file.now c.args.demand c.args.mode c.args.standing) = c.len-count.ensures.value ∙ ap length c.collect-numbers.ensures in
    rw c.new.ensures (as_answer_slice_demands (pick_shown _ _ _ _ _ _ (Err (refuse NoRoom 0))
    (turned_back_lem _ (refuse NoRoom 0) _ _ _
    (room_stops _ _ _ _ _ (sym c.check_table.ensures ∙ c.in_ok-check_table.was) (sym c.check_mode.ensures ∙ c.in_ok-check_mode.was)
    (let short = c.if-out-count.true in omega (arith, many))))))

pub returns : goal.returns
returns c =
    let many : c.len-count.result ≡ length (picked c.args.file.now c.args.demand c.args.mode c.args.standing) = c.len-count.ensures.value ∙ ap length c.collect-numbers.ensures in
    as_answer_slice_demands (pick_shown _ _ _ _ _ _ (Ok _)
    (pick_written _ _ _ _ (sym c.check_table.ensures ∙ c.in_ok-check_table.was) (sym c.check_mode.ensures ∙ c.in_ok-check_mode.was) _ _ _ c.len-count.result
    (c.as_slice.ensures.value ∙ c.collect-numbers.ensures) (omega (arith, many)) (let fits = c.if-out-count.false in omega (arith, many)) (omega arith)
    (ap (λ (l : List ℕ). l ++ drop c.len-count.result c.args.out.now) c.copy_from_slice.ensures.after)))
