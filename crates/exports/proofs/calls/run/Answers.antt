-- `exports::calls::run` meets its contract.
use Rattle.std.proofs.Common.{◌∙◌, ℕ, arith}
use Rattle.std.proofs.lemmas.List.{length-take, length-take-le}
use Rattle.tables.proofs.CheckLaws.{handed_on}
use Rattle.exports.proofs.LentLaws.{run_same, marks_reach, steps_reach, run_back, marks_put, steps_put}
use Rattle.exports.proofs.calls.run.Goals as goal

pub returns-in_err-count-clause-answer : goal.returns-in_err-count-clause-answer
returns-in_err-count-clause-answer c =
    rw (handed_on _ _ c.from_residual.ensures.1) ((rw (c.in_err-count.was) at c.run.ensures.answer) ∙ run_same _ _ _ c.args.marks.now _ (length-take-le c.count_words.result _ (omega arith) ∙ omega arith)
    c.args.steps.now _ (length-take-le c.count_words-2.result _ (omega arith) ∙ omega arith))

pub returns-in_err-count-clause-marks : goal.returns-in_err-count-clause-marks
returns-in_err-count-clause-marks c =
    (run_back _ _ _ c.args.marks.now _ (length-take-le c.count_words.result _ (omega arith) ∙ omega arith)
    c.args.steps.now _ (length-take-le c.count_words-2.result _ (omega arith) ∙ omega arith)
    c.count_words.ensures.bytes c.count_words-2.ensures.bytes _ (rw (c.in_err-count.was) at c.run.ensures.answer)).0

pub returns-in_err-count-clause-steps : goal.returns-in_err-count-clause-steps
returns-in_err-count-clause-steps c =
    (run_back _ _ _ c.args.marks.now _ (length-take-le c.count_words.result _ (omega arith) ∙ omega arith)
    c.args.steps.now _ (length-take-le c.count_words-2.result _ (omega arith) ∙ omega arith)
    c.count_words.ensures.bytes c.count_words-2.ensures.bytes _ (rw (c.in_err-count.was) at c.run.ensures.answer)).1

pub slice_bounds-write_words-end : goal.slice_bounds-write_words-end
slice_bounds-write_words-end c =
    let room = marks_reach _ _ _ c.args.marks.now _ (length-take-le c.count_words.result _ (omega arith) ∙ omega arith)
    c.args.steps.now _ (length-take-le c.count_words-2.result _ (omega arith) ∙ omega arith)
    _ (rw (c.in_ok-count.was) at c.run.ensures.answer) in
    omega (arith, length-take {A = ℕ})

pub write_words-requires : goal.write_words-requires
write_words-requires c =
    let room = marks_reach _ _ _ c.args.marks.now _ (length-take-le c.count_words.result _ (omega arith) ∙ omega arith)
    c.args.steps.now _ (length-take-le c.count_words-2.result _ (omega arith) ∙ omega arith)
    _ (rw (c.in_ok-count.was) at c.run.ensures.answer) in
    omega (arith, length-take {A = ℕ})

pub overflow_mul-count : goal.overflow_mul-count
overflow_mul-count c =
    let room = steps_reach _ _ _ c.args.marks.now _ (length-take-le c.count_words.result _ (omega arith) ∙ omega arith)
    c.args.steps.now _ (length-take-le c.count_words-2.result _ (omega arith) ∙ omega arith)
    _ (rw (c.in_ok-count.was) at c.run.ensures.answer) in
    omega arith

pub slice_bounds-write_words-end-2 : goal.slice_bounds-write_words-end-2
slice_bounds-write_words-end-2 c =
    let room = steps_reach _ _ _ c.args.marks.now _ (length-take-le c.count_words.result _ (omega arith) ∙ omega arith)
    c.args.steps.now _ (length-take-le c.count_words-2.result _ (omega arith) ∙ omega arith)
    _ (rw (c.in_ok-count.was) at c.run.ensures.answer) in
    omega (arith, length-take {A = ℕ})

pub write_words-requires-2 : goal.write_words-requires-2
write_words-requires-2 c =
    let room = steps_reach _ _ _ c.args.marks.now _ (length-take-le c.count_words.result _ (omega arith) ∙ omega arith)
    c.args.steps.now _ (length-take-le c.count_words-2.result _ (omega arith) ∙ omega arith)
    _ (rw (c.in_ok-count.was) at c.run.ensures.answer) in
    omega (arith, length-take {A = ℕ})

pub returns-clause-answer : goal.returns-clause-answer
returns-clause-answer c =
    (rw (c.in_ok-count.was) at c.run.ensures.answer)
    ∙ run_same _ _ _ c.args.marks.now _ (length-take-le c.count_words.result _ (omega arith) ∙ omega arith)
    c.args.steps.now _ (length-take-le c.count_words-2.result _ (omega arith) ∙ omega arith)

pub returns-clause-marks : goal.returns-clause-marks
returns-clause-marks c =
    marks_put _ _ _ c.args.marks.now _ (length-take-le c.count_words.result _ (omega arith) ∙ omega arith)
    c.args.steps.now _ (length-take-le c.count_words-2.result _ (omega arith) ∙ omega arith)
    c.count_words.ensures.bytes c.count_words-2.ensures.bytes _ (rw (c.in_ok-count.was) at c.run.ensures.answer) _ _
    c.run.ensures.marks (omega arith) c.write_words.ensures.words c.write_words.ensures.out

pub returns-clause-steps : goal.returns-clause-steps
returns-clause-steps c =
    steps_put _ _ _ c.args.marks.now _ (length-take-le c.count_words.result _ (omega arith) ∙ omega arith)
    c.args.steps.now _ (length-take-le c.count_words-2.result _ (omega arith) ∙ omega arith)
    c.count_words.ensures.bytes c.count_words-2.ensures.bytes _ (rw (c.in_ok-count.was) at c.run.ensures.answer) _ _ c.run.ensures.steps (omega arith)
    c.write_words-2.ensures.words c.write_words-2.ensures.out
