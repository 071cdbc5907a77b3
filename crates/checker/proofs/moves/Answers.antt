-- `checker::moves` meets its contract. What turns back the pair is handed on; then what is counted is what is written.
use mathlib.Core.Path.{sym, ◌∙◌}
use native.Mathlib.Omega.{arith}
use Rattle.std.proofs.Common.{Ok, Err}
use Rattle.tables.specs.Checks.{refuse}
use Rattle.tables.specs.declared.Reason.TheVariants.{NoRoom}
use Rattle.tables.proofs.CheckLaws.{handed_on, then_fault, turned_back_lem}
use Rattle.checker.specs.Moves.{moves_checks, moves_answer, moves_slice}
use Rattle.checker.proofs.MovesLaws.{survivors_found, short_fault, moves_written, moves_shown}
use Rattle.rules.proofs.ClauseLaws.{as_answer_slice_demands}
use Rattle.checker.proofs.moves.Goals as goal

pub returns-in_err-check_pair : goal.returns-in_err-check_pair
unfolding moves_checks moves_answer moves_slice
returns-in_err-check_pair c = rw (handed_on _ _ c.from_residual.ensures.1) (as_answer_slice_demands (moves_shown _ _ _ _ (Err _) (turned_back_lem _ _ _ _ _ (then_fault _ _ _ (sym c.check_pair.ensures ∙ c.in_err-check_pair.was)))))

pub returns-then-out-count : goal.returns-then-out-count
unfolding moves_answer moves_slice
returns-then-out-count c =
    let count = rw (c.sides-sides.ensures.demand, c.sides-sides.ensures.supply) at c.count-count.ensures in
    rw c.new.ensures (as_answer_slice_demands (moves_shown _ _ _ _ (Err (refuse NoRoom 0))
    (turned_back_lem _ (refuse NoRoom 0) _ _ _ (short_fault _ _ (sym c.check_pair.ensures ∙ c.in_ok-check_pair.was) _ (survivors_found _ _ c.load_pair-loaded.ensures) _ count _ (let short = c.if-out-count.true in omega arith)))))

pub returns : goal.returns
returns c =
    let count = rw (c.sides-sides.ensures.demand, c.sides-sides.ensures.supply) at c.count-count.ensures in
    let exit = rw (c.sides-sides.ensures.demand, c.sides-sides.ensures.supply) at c.write.ensures in
    as_answer_slice_demands (moves_shown _ _ _ _ (Ok _)
    (moves_written _ _ (sym c.check_pair.ensures ∙ c.in_ok-check_pair.was) _ (survivors_found _ _ c.load_pair-loaded.ensures) _ count _ _ (let fits = c.if-out-count.false in omega arith) exit (omega arith)))
