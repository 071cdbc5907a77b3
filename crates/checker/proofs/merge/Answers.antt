-- `checker::merge` meets its contract. What turns back the two tables is handed on; then the engine's answer decides.
use mathlib.Core.Path.{sym, ◌∙◌}
use native.Mathlib.Omega.{arith}
use Rattle.std.proofs.Common.{Ok, Err}
use Rattle.rules.specs.Merge.{merge}
use Rattle.tables.specs.declared.kinds.Kind.TheVariants.{Supply}
use Rattle.tables.proofs.CheckLaws.{handed_on, then_fault, turned_back_lem}
use Rattle.checker.specs.Products.{product_checks, product_answer, product_slice}
use Rattle.checker.specs.Merge.{merge_answer, merge_slice}
use Rattle.checker.proofs.ProductLaws.{first_filed, second_filed, product_few, size_told, write_answers}
use Rattle.checker.proofs.MergeLaws.{merged_table}
use Rattle.rules.proofs.ClauseLaws.{as_answer_slice_demands}
use Rattle.checker.proofs.merge.Goals as goal

pub returns-in_err-check_operands : goal.returns-in_err-check_operands
unfolding product_checks product_answer product_slice merge_answer merge_slice
returns-in_err-check_operands c =
    rw (handed_on _ _ c.from_residual.ensures.1)
    (as_answer_slice_demands (merged_table _ _ _ _ _ (Err _)
    (turned_back_lem _ _ _ _ _ (then_fault _ _ _ (sym c.check_operands.ensures ∙ c.in_err-check_operands.was)))))

pub load-first_machine-requires : goal.load-first_machine-requires
load-first_machine-requires c = first_filed Supply _ _ _ (sym c.check_operands.ensures ∙ c.in_ok-check_operands.was)

pub load-second_machine-requires : goal.load-second_machine-requires
load-second_machine-requires c = second_filed Supply _ _ _ (sym c.check_operands.ensures ∙ c.in_ok-check_operands.was)

pub write-requires : goal.write-requires
write-requires c =
    product_few Supply _ _ _ (sym c.check_operands.ensures ∙ c.in_ok-check_operands.was) c.load-first_machine.ensures c.load-second_machine.ensures

pub returns-in_err-rows : goal.returns-in_err-rows
unfolding merge_answer merge_slice
returns-in_err-rows c =
    let written =
    write_answers Supply _ _ _ (sym c.check_operands.ensures ∙ c.in_ok-check_operands.was) c.load-first_machine.ensures c.load-second_machine.ensures
    (λ A B. (merge A B).rows) c.pairs_with-states.ensures _ _ c.write.ensures.answer c.write.ensures.slice c.in_err-rows.was in
    rw (handed_on _ _ c.from_residual-in_err-rows.ensures.1)
    (as_answer_slice_demands (merged_table _ _ _ _ _ (Err _) (written.answer, written.slice)))

pub returns : goal.returns
unfolding merge_answer merge_slice
returns c =
    let written =
    write_answers Supply _ _ _ (sym c.check_operands.ensures ∙ c.in_ok-check_operands.was) c.load-first_machine.ensures c.load-second_machine.ensures
    (λ A B. (merge A B).rows) c.pairs_with-states.ensures _ _ c.write.ensures.answer c.write.ensures.slice c.in_ok-rows.was in
    as_answer_slice_demands (merged_table _ _ _ _ _ (Ok _) (size_told (omega arith) (omega arith) ∙ written.answer, written.slice))
