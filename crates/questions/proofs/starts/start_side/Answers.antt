-- `questions::starts::start_side` meets its contract.
use mathlib.Core.Path.{sym, ap, ◌∙◌}
use Rattle.questions.proofs.StartLaws.{start_one, start_other}
use Rattle.questions.proofs.starts.start_side.Goals as goal

pub returns-then-states_of-eq1 : goal.returns-then-states_of-eq1
returns-then-states_of-eq1 c = ap (λ k. record { table = c.args.table; state = k }) (sym (start_one _ (sym c.states_of.ensures ∙ c.if-states_of-eq1.true)))

pub returns : goal.returns
returns c = ap (λ k. record { table = c.args.table; state = k }) (sym (start_other _ (λ e. c.if-states_of-eq1.false (c.states_of.ensures ∙ e))))
