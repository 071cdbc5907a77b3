-- The numbers so far are written.
use Rattle.std.proofs.Common.{take}
use Rattle.output.specs.Numbers.{WroteNumbers}
use Rattle.output.proofs.put_part.Given as goal

abbrev pub invariant-loop-n : goal.invariant-loop-n
invariant-loop-n g l = WroteNumbers g.T.Into.converts (take l.n-index l.part) l.initial.w l.w
