-- `checker::run` meets its contract. What turns back the pair or the mode is handed on; then the engine writes the marks and the run along them.
use mathlib.Core.Path.{sym, ◌∙◌}
use native.Mathlib.Omega.{arith}
use Rattle.std.proofs.Common.{Ok, Err}
use Rattle.tables.specs.Checks.{refuse}
use Rattle.tables.specs.declared.Reason.TheVariants.{NoRoom}
use Rattle.tables.proofs.CheckLaws.{handed_on, then_fault, turned_back_both}
use Rattle.questions.proofs.PairLaws.{pairs_are}
use Rattle.questions.proofs.ModeLaws.{mode_asked}
use Rattle.checker.specs.Decide.{decide_checks}
use Rattle.checker.specs.Run.{run_answer, run_marks, run_steps}
use Rattle.checker.proofs.DecideLaws.{short_fault}
use Rattle.checker.proofs.RunLaws.{decide_fault, steps_fault, run_starts, run_carried_out, run_shown}
use Rattle.rules.proofs.ClauseLaws.{as_answer_marks_steps_demands}
use Rattle.checker.proofs.run.Goals as goal

pub returns-in_err-check_decision : goal.returns-in_err-check_decision
unfolding decide_checks run_answer run_marks run_steps
returns-in_err-check_decision c = rw (handed_on _ _ c.from_residual.ensures.1) (as_answer_marks_steps_demands (run_shown _ _ _ _ _ (Err _) (turned_back_both _ _ _ _ _ _ _ (decide_fault _ _ _ _ _ _ (then_fault _ _ _ (sym c.check_decision.ensures ∙ c.in_err-check_decision.was))))))

pub load_pair-loaded-requires : goal.load_pair-loaded-requires
load_pair-loaded-requires c = mode_asked _ _ _ (sym c.check_decision.ensures ∙ c.in_ok-check_decision.was)

pub returns-then-marks-pairs : goal.returns-then-marks-pairs
unfolding run_answer run_marks run_steps
returns-then-marks-pairs c =
    let pairs = pairs_are c.load_pair-loaded.ensures (rw (c.sides-sides.ensures.demand, c.sides-sides.ensures.supply) at c.pairs-pairs.ensures) in
    rw c.new.ensures (as_answer_marks_steps_demands (run_shown _ _ _ _ _ (Err (refuse NoRoom 0))
    (turned_back_both _ (refuse NoRoom 0) _ _ _ _ _ (decide_fault _ _ _ _ _ _ (short_fault _ _ _ (sym c.check_decision.ensures ∙ c.in_ok-check_decision.was) _ (let short = c.if-marks-pairs.true in omega (arith, pairs)))))))

pub returns-then-steps-pairs : goal.returns-then-steps-pairs
unfolding run_answer run_marks run_steps
returns-then-steps-pairs c =
    let pairs = pairs_are c.load_pair-loaded.ensures (rw (c.sides-sides.ensures.demand, c.sides-sides.ensures.supply) at c.pairs-pairs.ensures) in
    rw c.new-then-steps-pairs.ensures (as_answer_marks_steps_demands (run_shown _ _ _ _ _ (Err (refuse NoRoom 0))
    (turned_back_both _ (refuse NoRoom 0) _ _ _ _ _ (steps_fault _ _ _ (sym c.check_decision.ensures ∙ c.in_ok-check_decision.was) _ (let fits = c.if-marks-pairs.false in omega (arith, pairs)) _
    (let short = c.if-steps-pairs.true in omega (arith, pairs))))))

pub write-count-requires : goal.write-count-requires
write-count-requires c =
    let pairs = pairs_are c.load_pair-loaded.ensures (rw (c.sides-sides.ensures.demand, c.sides-sides.ensures.supply) at c.pairs-pairs.ensures) in
    rw (c.sides-sides.ensures.demand, c.sides-sides.ensures.supply)
    (run_starts _ _ _ (sym c.check_decision.ensures ∙ c.in_ok-check_decision.was) c.load_pair-loaded.ensures _ c.mode_of.ensures
    (let fits = c.if-marks-pairs.false in omega (arith, pairs)) (let fits = c.if-steps-pairs.false in omega (arith, pairs)))

pub returns : goal.returns
returns c =
    let pairs = pairs_are c.load_pair-loaded.ensures (rw (c.sides-sides.ensures.demand, c.sides-sides.ensures.supply) at c.pairs-pairs.ensures) in
    let marks = rw (c.sides-sides.ensures.demand, c.sides-sides.ensures.supply) at c.write-count.ensures.marks in
    let count = rw (c.sides-sides.ensures.demand, c.sides-sides.ensures.supply) at c.write-count.ensures.count in
    let steps = rw (c.sides-sides.ensures.demand, c.sides-sides.ensures.supply) at c.write-count.ensures.steps in
    as_answer_marks_steps_demands (run_shown _ _ _ _ _ (Ok _)
    (run_carried_out _ _ _ (sym c.check_decision.ensures ∙ c.in_ok-check_decision.was) c.load_pair-loaded.ensures _ c.mode_of.ensures _ _
    (let fits = c.if-marks-pairs.false in omega (arith, pairs)) (let fits = c.if-steps-pairs.false in omega (arith, pairs)) marks count steps))
