-- The steps so far are written: with the lines of those still to come, the lines of all are.
use Rattle.std.proofs.Common.{◌≡◌}
use Rattle.std.specs.Slice.Iter.{chunks_exact_rest, chunks_exact_size}
use Rattle.text.specs.declared.Writer.{Writer}
use Rattle.text.specs.Writing.{Wrote}
use Rattle.lines.specs.Lines.{step_lines}
use Rattle.lines.proofs.put_steps.Given as goal

abbrev pub invariant-loop-step : goal.invariant-loop-step
invariant-loop-step l =
    record {
      pairs : chunks_exact_size l.step-iterator ≡ 2;
      wrote : (after : Writer) → Wrote (step_lines (chunks_exact_rest l.step-iterator)) l.w after → Wrote (step_lines l.steps) l.initial.w after;
    }
