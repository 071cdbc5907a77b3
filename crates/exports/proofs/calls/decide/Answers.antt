-- `exports::calls::decide` meets its contract.
use Rattle.std.proofs.Common.{◌∙◌, ℕ, arith}
use Rattle.std.proofs.lemmas.List.{length-take, length-take-le}
use Rattle.tables.proofs.CheckLaws.{handed_on}
use Rattle.exports.proofs.LentLaws.{decide_same, decide_reach, decide_back, decide_put}
use Rattle.exports.proofs.calls.decide.Goals as goal

pub returns-in_err-verdict-clause-answer : goal.returns-in_err-verdict-clause-answer
returns-in_err-verdict-clause-answer c =
    rw (handed_on _ _ c.from_residual.ensures.1) ((rw (c.in_err-verdict.was) at c.decide.ensures.answer)
    ∙ decide_same _ _ _ c.args.marks.now _ (length-take-le c.count_words.result _ (omega arith) ∙ omega arith))

pub returns-in_err-verdict-clause-marks : goal.returns-in_err-verdict-clause-marks
returns-in_err-verdict-clause-marks c =
    decide_back _ _ _ c.args.marks.now _ (length-take-le c.count_words.result _ (omega arith) ∙ omega arith) c.count_words.ensures.bytes _
    (rw (c.in_err-verdict.was) at c.decide.ensures.answer)

pub slice_bounds-write_words-end : goal.slice_bounds-write_words-end
slice_bounds-write_words-end c =
    let room = decide_reach _ _ _ c.args.marks.now _ (length-take-le c.count_words.result _ (omega arith) ∙ omega arith) _ _
    (rw (c.in_ok-verdict.was) at c.decide.ensures.answer) in
    omega (arith, length-take {A = ℕ})

pub write_words-requires : goal.write_words-requires
write_words-requires c =
    let room = decide_reach _ _ _ c.args.marks.now _ (length-take-le c.count_words.result _ (omega arith) ∙ omega arith) _ _
    (rw (c.in_ok-verdict.was) at c.decide.ensures.answer) in
    omega (arith, length-take {A = ℕ})

pub returns-clause-answer : goal.returns-clause-answer
returns-clause-answer c =
    (rw (c.in_ok-verdict.was) at c.decide.ensures.answer)
    ∙ decide_same _ _ _ c.args.marks.now _ (length-take-le c.count_words.result _ (omega arith) ∙ omega arith)

pub returns-clause-marks : goal.returns-clause-marks
returns-clause-marks c =
    decide_put _ _ _ c.args.marks.now _ (length-take-le c.count_words.result _ (omega arith) ∙ omega arith) c.count_words.ensures.bytes _ _ _ _
    (rw (c.in_ok-verdict.was) at c.decide.ensures.answer) c.decide.ensures.slice (omega arith) c.write_words.ensures.words
    c.write_words.ensures.out
