-- `lines::put_steps` meets its contract. Each step's line is written, until fewer than two numbers are left.
use Rattle.std.proofs.Common.{◌∙◌}
use Rattle.text.proofs.TextLaws.{wrote_none, wrote_both}
use Rattle.lines.proofs.StepsLaws.{next_step, no_step}
use Rattle.lines.proofs.put_steps.Goals as goal

pub loop-step-preserved : goal.loop-step-preserved
loop-step-preserved c =
    let (size, (rest, long), same) = c.in-Some.ensures.steps in
    record {
      pairs = size ∙ c.loop-step.invariant.pairs;
      wrote = λ after w. c.loop-step.invariant.wrote after (rw (next_step _ _ _ rest (long ∙ c.loop-step.invariant.pairs)) (wrote_both c.put_step.ensures w));
    }

pub returns : goal.returns
returns c = c.loop-step.invariant.wrote _ (rw (no_step _ _ c.in-None.ensures.steps.1.0 c.loop-step.invariant.pairs) wrote_none)
