-- `checker::graph` meets its contract. What turns back the pair is handed on; then what is measured is what is written.
use mathlib.Core.Path.{sym, ◌∙◌}
use native.Mathlib.Omega.{arith}
use Rattle.std.proofs.Common.{Ok, Err}
use Rattle.tables.specs.Checks.{refuse}
use Rattle.tables.specs.declared.Reason.TheVariants.{NoRoom}
use Rattle.tables.proofs.CheckLaws.{handed_on, then_fault, turned_back_lem}
use Rattle.checker.specs.Graph.{graph_checks, graph_answer, graph_slice}
use Rattle.checker.proofs.GraphLaws.{text_found, text_short, graph_written, graph_shown}
use Rattle.rules.proofs.ClauseLaws.{as_answer_slice_demands}
use Rattle.checker.proofs.graph.Goals as goal

pub returns-in_err-check_pair : goal.returns-in_err-check_pair
unfolding graph_checks graph_answer graph_slice
returns-in_err-check_pair c = rw (handed_on _ _ c.from_residual.ensures.1) (as_answer_slice_demands (graph_shown _ _ _ _ (Err _) (turned_back_lem _ _ _ _ _ (then_fault _ _ _ (sym c.check_pair.ensures ∙ c.in_err-check_pair.was)))))

pub returns-then-out-extent : goal.returns-then-out-extent
unfolding graph_answer graph_slice
returns-then-out-extent c =
    let bytes = rw (c.sides-sides.ensures.demand, c.sides-sides.ensures.supply) at c.measure-extent.ensures.bytes in
    rw c.new.ensures (as_answer_slice_demands (graph_shown _ _ _ _ (Err (refuse NoRoom 0))
    (turned_back_lem _ (refuse NoRoom 0) _ _ _ (text_short _ _ (sym c.check_pair.ensures ∙ c.in_ok-check_pair.was) _ (text_found _ _ c.load_pair-loaded.ensures) _ bytes _ (let short = c.if-out-extent.true in omega arith)))))

pub returns : goal.returns
returns c =
    let bytes = rw (c.sides-sides.ensures.demand, c.sides-sides.ensures.supply) at c.measure-extent.ensures.bytes in
    let exit = rw (c.sides-sides.ensures.demand, c.sides-sides.ensures.supply) at c.write.ensures in
    as_answer_slice_demands (graph_shown _ _ _ _ (Ok _)
    (graph_written _ _ (sym c.check_pair.ensures ∙ c.in_ok-check_pair.was) _ (text_found _ _ c.load_pair-loaded.ensures) _ bytes _ _ (let fits = c.if-out-extent.false in omega arith) exit (omega arith)))
