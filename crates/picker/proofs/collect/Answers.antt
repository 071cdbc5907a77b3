-- `picker::collect` meets its contract.
use Rattle.std.proofs.Common.{◌≤◌, ◌∙◌, ap, arith, length}
use Rattle.picker.proofs.PickLaws.{few_tables, among_few, among_yes, among_no, among_all}
use Rattle.picker.proofs.collect.Goals as goal
use Rattle.picker.proofs.collect.Goals.{then-gets_yes, else-gets_yes}

pub overflow_cast-supply : goal.overflow_cast-supply
overflow_cast-supply c = let few = few_tables _ c.requires in omega arith

pub push-requires : goal.push-requires
push-requires c =
    let few = few_tables _ c.requires in
    let items : length c.loop-supply.numbers.items ≤ c.loop-supply.supply = rw c.loop-supply.invariant (among_few _ _ _ _ c.loop-supply.supply) in
    (omega arith, omega arith)

pub loop-supply-preserved : goal.loop-supply-preserved
loop-supply-preserved c =
    elim c.if-gets_yes.branch [
      | then-gets_yes w ↦
          ap (λ x. x.items) w.numbers-is ∙ w.push.ensures.items ∙ rw c.loop-supply.invariant
          (among_yes _ _ _ _ c.loop-supply.supply c.gets_yes.ensures c.from_starts-question.ensures (omega arith) (omega arith) (omega arith) (omega arith) (omega arith) w.if-gets_yes.true)
      | else-gets_yes w ↦
          ap (λ x. x.items) w.numbers-is ∙ c.loop-supply.invariant
          ∙ among_no _ _ _ _ c.loop-supply.supply c.gets_yes.ensures c.from_starts-question.ensures (omega arith) (omega arith) (omega arith) (omega arith) w.if-gets_yes.false
    ]

pub returns : goal.returns
returns c =
    let few = few_tables _ c.requires in
    c.loop-supply.invariant ∙ among_all _ _ _ _ c.loop-supply.supply (let end = c.loop-supply-test.false in omega arith)
