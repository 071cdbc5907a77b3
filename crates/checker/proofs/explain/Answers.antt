-- `checker::explain` meets its contract. What turns back the pair or the mode is handed on; then the marks are made and the triples counted, and both are left
-- where there is room for the triples.
use mathlib.Core.Path.{sym, ◌∙◌}
use native.Mathlib.Omega.{arith}
use Rattle.std.proofs.Common.{Ok, Err, ℕ, List, ◌++◌, ap, drop}
use Rattle.std.proofs.lemmas.List.{length-take}
use Rattle.tables.specs.Checks.{refuse}
use Rattle.tables.specs.declared.Reason.TheVariants.{NoRoom}
use Rattle.tables.proofs.CheckLaws.{handed_on, then_fault, turned_back_both}
use Rattle.questions.proofs.PairLaws.{pairs_are}
use Rattle.questions.proofs.ModeLaws.{mode_asked}
use Rattle.checker.specs.Decide.{decide_checks}
use Rattle.checker.specs.Explain.{explain_answer, explain_marks, explain_triples}
use Rattle.checker.proofs.DecideLaws.{short_fault}
use Rattle.checker.proofs.ExplainLaws.{few_pairs, made_long, marks_fault, explain_starts, three_each, triples_fault, explain_carried_out, explain_shown}
use Rattle.rules.proofs.ClauseLaws.{as_answer_marks_triples_demands}
use Rattle.checker.proofs.explain.Goals as goal

pub returns-in_err-check_decision : goal.returns-in_err-check_decision
unfolding decide_checks explain_answer explain_marks explain_triples
returns-in_err-check_decision c =
    rw (handed_on _ _ c.from_residual.ensures.1) (as_answer_marks_triples_demands (explain_shown _ _ _ _ _ (Err _)
    (turned_back_both _ _ _ _ _ _ _ (marks_fault _ _ _ _ _ _ (then_fault _ _ _ (sym c.check_decision.ensures ∙ c.in_err-check_decision.was))))))

pub load_pair-loaded-requires : goal.load_pair-loaded-requires
load_pair-loaded-requires c = mode_asked _ _ _ (sym c.check_decision.ensures ∙ c.in_ok-check_decision.was)

pub returns-then-marks-pairs : goal.returns-then-marks-pairs
unfolding explain_answer explain_marks explain_triples
returns-then-marks-pairs c =
    let pairs = pairs_are c.load_pair-loaded.ensures (rw (c.sides-sides.ensures.demand, c.sides-sides.ensures.supply) at c.pairs-pairs.ensures) in
    rw c.new.ensures (as_answer_marks_triples_demands (explain_shown _ _ _ _ _ (Err (refuse NoRoom 0))
    (turned_back_both _ (refuse NoRoom 0) _ _ _ _ _ (marks_fault _ _ _ _ _ _ (short_fault _ _ _ (sym c.check_decision.ensures ∙ c.in_ok-check_decision.was) _ (let short = c.if-marks-pairs.true in omega (arith, pairs)))))))

pub write-requires : goal.write-requires
write-requires c = few_pairs c.sides-sides.result.demand.now c.sides-sides.result.supply.now

pub write-entries-requires : goal.write-entries-requires
write-entries-requires c =
    let made = rw (c.sides-sides.ensures.demand, c.sides-sides.ensures.supply) at c.write.ensures.slice in
    rw (c.sides-sides.ensures.demand, c.sides-sides.ensures.supply)
    (explain_starts _ _ _ (sym c.check_decision.ensures ∙ c.in_ok-check_decision.was) c.load_pair-loaded.ensures _ c.mode_of-mode.ensures _ made)

pub returns-then-triples-entries : goal.returns-then-triples-entries
unfolding explain_answer explain_marks explain_triples
returns-then-triples-entries c =
    let pairs = pairs_are c.load_pair-loaded.ensures (rw (c.sides-sides.ensures.demand, c.sides-sides.ensures.supply) at c.pairs-pairs.ensures) in
    let count = rw (c.sides-sides.ensures.demand, c.sides-sides.ensures.supply) at c.write-entries.ensures.count in
    rw c.new-then-triples-entries.ensures (as_answer_marks_triples_demands (explain_shown _ _ _ _ _ (Err (refuse NoRoom 0))
    (turned_back_both _ (refuse NoRoom 0) _ _ _ _ _
    (triples_fault _ _ _ (sym c.check_decision.ensures ∙ c.in_ok-check_decision.was) c.load_pair-loaded.ensures _ c.mode_of-mode.ensures count _ _
    (let fits = c.if-marks-pairs.false in omega (arith, pairs)) (let short = c.if-triples-entries.true in omega arith)))))

pub slice_bounds-made-end : goal.slice_bounds-made-end
slice_bounds-made-end c = made_long _ _ _ _ c.write.ensures.slice c.pairs-pairs.ensures

pub slice_bounds-copy_from_slice-end-3 : goal.slice_bounds-copy_from_slice-end-3
slice_bounds-copy_from_slice-end-3 c =
    let long = made_long _ _ _ _ c.write.ensures.slice c.pairs-pairs.ensures in
    omega (arith, length-take c.pairs-pairs.result c.write.new.marks)

pub copy_from_slice-requires : goal.copy_from_slice-requires
copy_from_slice-requires c =
    let long = made_long _ _ _ _ c.write.ensures.slice c.pairs-pairs.ensures in
    omega (arith, length-take c.pairs-pairs.result c.write.new.marks, length-take c.pairs-pairs.result c.args.marks.now)

pub write-requires-2 : goal.write-requires-2
write-requires-2 c =
    let made = rw (c.sides-sides.ensures.demand, c.sides-sides.ensures.supply) at c.write.ensures.slice in
    rw (c.sides-sides.ensures.demand, c.sides-sides.ensures.supply)
    (explain_starts _ _ _ (sym c.check_decision.ensures ∙ c.in_ok-check_decision.was) c.load_pair-loaded.ensures _ c.mode_of-mode.ensures _ made)

pub returns : goal.returns
returns c =
    let pairs = pairs_are c.load_pair-loaded.ensures (rw (c.sides-sides.ensures.demand, c.sides-sides.ensures.supply) at c.pairs-pairs.ensures) in
    let made = rw (c.sides-sides.ensures.demand, c.sides-sides.ensures.supply) at c.write.ensures.slice in
    let count = rw (c.sides-sides.ensures.demand, c.sides-sides.ensures.supply) at c.write-entries.ensures.count in
    let triples = rw (c.sides-sides.ensures.demand, c.sides-sides.ensures.supply) at c.write-2.ensures.slice in
    let three = three_each _ _ _ (sym c.check_decision.ensures ∙ c.in_ok-check_decision.was) c.load_pair-loaded.ensures _ c.mode_of-mode.ensures count in
    as_answer_marks_triples_demands (explain_shown _ _ _ _ _ (Ok _)
    (explain_carried_out _ _ _ (sym c.check_decision.ensures ∙ c.in_ok-check_decision.was) c.load_pair-loaded.ensures _ c.mode_of-mode.ensures count _ _
    (let fits = c.if-marks-pairs.false in omega (arith, pairs)) (let fits = c.if-triples-entries.false in omega arith)
    (omega (arith, three)) _ made pairs (ap (λ (z : List ℕ). z ++ drop c.pairs-pairs.result c.args.marks.now) c.copy_from_slice.ensures.after) triples))
