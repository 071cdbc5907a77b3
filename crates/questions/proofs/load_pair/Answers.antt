-- Both tables are in the file, and both states are below 64.
use Rattle.std.proofs.Common.{refl, ◌∙◌, arith}
use Rattle.rules.proofs.WideningLaws.{widen_none}
use Rattle.questions.proofs.PairLaws.{asked_demand, asked_supply, state_narrow, table_loads, loaded_with}
use Rattle.questions.proofs.load_pair.Goals as goal

pub load-requires : goal.load-requires
load-requires c = table_loads _ _ _ (asked_demand _ _ c.requires)

pub load-requires-2 : goal.load-requires-2
load-requires-2 c = table_loads _ _ _ (asked_supply _ _ c.requires)

pub overflow_cast-result : goal.overflow_cast-result
overflow_cast-result c = let narrow = state_narrow _ _ _ (asked_demand _ _ c.requires) in omega arith

pub overflow_cast-result-2 : goal.overflow_cast-result-2
overflow_cast-result-2 c = let narrow = state_narrow _ _ _ (asked_supply _ _ c.requires) in omega arith

pub returns : goal.returns
returns c = record {
  demand_is = loaded_with _ _ _ 0 c.load.result c.load.ensures (omega arith) ∙ widen_none _;
  supply_is = loaded_with _ _ _ c.args.question.standing c.load-2.result c.load-2.ensures (omega arith);
  start_is = refl;
}
