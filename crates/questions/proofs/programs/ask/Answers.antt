-- `questions::programs::ask` meets its contract, by what opening and the search for the two tables find.
use Rattle.std.proofs.Common.{◌∙◌, refl, sym, ap, Err, arith}
use Rattle.tables.proofs.CheckLaws.{handed_on}
use Rattle.questions.proofs.QuestionLaws.{not_opened, no_demand, no_supply, both_found}
use Rattle.questions.proofs.TableLaws.{there_none, there_some, search_some, search_none}
use Rattle.questions.proofs.programs.ask.Goals as goal

pub returns-in_default : goal.returns-in_default
returns-in_default c = not_opened _ _ c.open-found.ensures _ c.unwrap_err.ensures

pub returns-in_err-demand : goal.returns-in_err-demand
returns-in_err-demand c =
    let none = there_none _ _ _ (sym c.ok_or.ensures.value ∙ c.in_err-demand.was) in
    handed_on _ _ c.from_residual.ensures.1 ∙ ap Err (sym none.1 ∙ c.new-missing.ensures)
    ∙ no_demand _ _ c.open-found.ensures _ c.in-Ok.is _ refl (search_none _ 1 _ (sym c.first_table.ensures ∙ none.0))

pub returns-in_err-supply : goal.returns-in_err-supply
returns-in_err-supply c =
    let demand = search_some _ 1 _ _ (sym c.first_table.ensures ∙ there_some _ _ _ (sym c.ok_or.ensures.value ∙ c.in_ok-demand.was)) in
    let none = there_none _ _ _ (sym c.ok_or-2.ensures.value ∙ c.in_err-supply.was) in
    handed_on _ _ c.from_residual-in_err-supply.ensures.1 ∙ ap Err (sym none.1 ∙ c.new-missing.ensures)
    ∙ no_supply _ _ c.open-found.ensures _ c.in-Ok.is _ (sym demand.0) _ refl demand.1 (search_none _ 2 _ (sym c.first_table-2.ensures ∙ none.0))

pub returns : goal.returns
returns c =
    let demand = search_some _ 1 _ _ (sym c.first_table.ensures ∙ there_some _ _ _ (sym c.ok_or.ensures.value ∙ c.in_ok-demand.was)) in
    let supply = search_some _ 2 _ _ (sym c.first_table-2.ensures ∙ there_some _ _ _ (sym c.ok_or-2.ensures.value ∙ c.in_ok-supply.was)) in
    both_found _ _ c.open-found.ensures _ c.in-Ok.is _ (sym demand.0) _ (sym supply.0) demand.1 supply.1 c.from_starts.ensures (omega arith) (omega arith) (omega arith)
