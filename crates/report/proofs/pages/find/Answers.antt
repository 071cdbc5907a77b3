-- `report::pages::find` meets its contract. Nothing turns back a call about a pair that was asked about, with room for the most pairs.
use Rattle.std.proofs.Common.{◌*◌, sym, arith}
use Rattle.std.proofs.lemmas.List.{length-take-le}
use Rattle.report.proofs.DecisionLaws.{decide_ok, decide_answered, run_ok, steps_fit_in, steps_written}
use Rattle.report.proofs.pages.find.Goals as goal

pub unwrap-verdict-requires : goal.unwrap-verdict-requires
unwrap-verdict-requires c = decide_ok _ _ c.requires.0 _ c.number_of-number.ensures.few _ (omega arith) _ c.decide.ensures.answer

pub unwrap-count-requires : goal.unwrap-count-requires
unwrap-count-requires c =
    run_ok _ _ c.requires.0 _ c.number_of-number.ensures.few _ (let kept = c.decide.auto.marks in omega arith) _ c.requires.1 _ c.run.ensures.answer

pub overflow_mul-result : goal.overflow_mul-result
overflow_mul-result c =
    let few = steps_fit_in _ _ c.requires.0 _ c.number_of-number.ensures.few _ (let kept = c.decide.auto.marks in omega arith) _ c.requires.1 _
    (rw c.unwrap-count.ensures at c.run.ensures.answer) in
    omega arith

pub slice_bounds-result-end : goal.slice_bounds-result-end
slice_bounds-result-end c =
    let few = steps_fit_in _ _ c.requires.0 _ c.number_of-number.ensures.few _ (let kept = c.decide.auto.marks in omega arith) _ c.requires.1 _
    (rw c.unwrap-count.ensures at c.run.ensures.answer) in
    let same = c.run.auto.steps in
    sym (length-take-le (2 * c.unwrap-count.result) c.run.new.steps (omega arith))

pub returns-clause-verdict : goal.returns-clause-verdict
returns-clause-verdict c =
    rw (← c.number_of-number.ensures.mode)
    (decide_answered _ _ c.requires.0 _ c.number_of-number.ensures.few _ (omega arith) _ (rw c.unwrap-verdict.ensures at c.decide.ensures.answer))

pub returns-clause-steps : goal.returns-clause-steps
returns-clause-steps c =
    rw (← c.number_of-number.ensures.mode)
    (steps_written _ _ c.requires.0 _ c.number_of-number.ensures.few _ (let kept = c.decide.auto.marks in omega arith) _ _ _ c.requires.1 c.run.ensures.steps
    (rw c.unwrap-count.ensures at c.run.ensures.answer))
