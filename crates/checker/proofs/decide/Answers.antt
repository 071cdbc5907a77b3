-- `checker::decide` meets its contract. What turns back the pair or the mode is handed on; then the engine writes the marks, and the start pair's is read.
use mathlib.Core.Path.{sym, ◌∙◌}
use native.Mathlib.Omega.{arith}
use Rattle.std.proofs.Common.{Ok, Err}
use Rattle.tables.specs.Checks.{refuse}
use Rattle.tables.specs.declared.Reason.TheVariants.{NoRoom}
use Rattle.tables.proofs.CheckLaws.{handed_on, then_fault, turned_back_lem}
use Rattle.questions.proofs.PairLaws.{pairs_are}
use Rattle.questions.proofs.ModeLaws.{mode_asked}
use Rattle.checker.specs.Decide.{decide_checks, decide_answer, decide_slice}
use Rattle.checker.proofs.DecideLaws.{short_fault, decide_written}
use Rattle.checker.proofs.DemandLaws.{demands}
use Rattle.rules.proofs.ClauseLaws.{as_answer_slice_demands}
use Rattle.checker.proofs.decide.Goals as goal

pub returns-in_err-check_decision : goal.returns-in_err-check_decision
unfolding decide_checks decide_answer decide_slice
returns-in_err-check_decision c = rw (handed_on _ _ c.from_residual.ensures.1) (as_answer_slice_demands (demands _ _ _ _ _ (Err _) (turned_back_lem _ _ _ _ _ (then_fault _ _ _ (sym c.check_decision.ensures ∙ c.in_err-check_decision.was)))))

pub load_pair-loaded-requires : goal.load_pair-loaded-requires
load_pair-loaded-requires c = mode_asked _ _ _ (sym c.check_decision.ensures ∙ c.in_ok-check_decision.was)

pub returns-then-marks-pairs : goal.returns-then-marks-pairs
unfolding decide_answer decide_slice
returns-then-marks-pairs c =
    let pairs = pairs_are c.load_pair-loaded.ensures (rw (c.sides-sides.ensures.demand, c.sides-sides.ensures.supply) at c.pairs.ensures) in
    rw c.new.ensures (as_answer_slice_demands (demands _ _ _ _ _ (Err (refuse NoRoom 0))
    (turned_back_lem _ (refuse NoRoom 0) _ _ _ (short_fault _ _ _ (sym c.check_decision.ensures ∙ c.in_ok-check_decision.was) _ (let short = c.if-marks-pairs.true in omega (arith, pairs))))))

pub returns : goal.returns
returns c =
    let pairs = pairs_are c.load_pair-loaded.ensures (rw (c.sides-sides.ensures.demand, c.sides-sides.ensures.supply) at c.pairs.ensures) in
    let slice = rw (c.sides-sides.ensures.demand, c.sides-sides.ensures.supply) at c.write-summary.ensures.slice in
    let answer = rw (c.sides-sides.ensures.demand, c.sides-sides.ensures.supply) at c.write-summary.ensures.answer in
    as_answer_slice_demands (demands _ _ _ _ _ (Ok _)
    (decide_written _ _ _ (sym c.check_decision.ensures ∙ c.in_ok-check_decision.was) c.load_pair-loaded.ensures _ c.mode_of.ensures _ _ slice (let fits = c.if-marks-pairs.false in omega (arith, pairs)) c.mark_of.ensures (cc) _ answer))
