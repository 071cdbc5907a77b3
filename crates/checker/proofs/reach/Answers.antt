-- `checker::reach` meets its contract. What turns back the pair is handed on; then the engine tells how many pairs are reached, or that one is blocked.
use mathlib.Core.Path.{sym, ◌∙◌}
use native.Mathlib.Omega.{arith}
use Rattle.std.proofs.Common.{Ok, Err, []}
use Rattle.tables.proofs.CheckLaws.{handed_on, turned_back_lem}
use Rattle.checker.specs.Reach.{reach_answer}
use Rattle.checker.proofs.ReachLaws.{reach_starts, reach_told, reach_carried_out, reach_shown}
use Rattle.rules.proofs.ClauseLaws.{as_answer_demands}
use Rattle.checker.proofs.reach.Goals as goal

pub returns-in_err-check_pair : goal.returns-in_err-check_pair
unfolding reach_answer
returns-in_err-check_pair c =
    rw (handed_on _ _ c.from_residual.ensures.1) (as_answer_demands (reach_shown _ _ (Err _)
    (turned_back_lem _ _ _ [] [] (sym c.check_pair.ensures ∙ c.in_err-check_pair.was)).0))

pub count-count-requires : goal.count-count-requires
count-count-requires c =
    rw (c.sides.ensures.demand, c.sides.ensures.supply) (reach_starts _ _ (sym c.check_pair.ensures ∙ c.in_ok-check_pair.was) c.load_pair-loaded.ensures)

pub returns : goal.returns
returns c =
    let count = rw (c.sides.ensures.demand, c.sides.ensures.supply) at c.count-count.ensures in
    rw (c.is_some.ensures, c.unwrap_or.ensures) (as_answer_demands (reach_shown _ _ (Ok _)
    (reach_carried_out _ _ (sym c.check_pair.ensures ∙ c.in_ok-check_pair.was) (omega arith) (reach_told _ _ (sym c.check_pair.ensures ∙ c.in_ok-check_pair.was) c.load_pair-loaded.ensures count))))
