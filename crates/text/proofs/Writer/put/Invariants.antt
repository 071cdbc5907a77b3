-- The invariant: the bytes so far are written.
use Rattle.std.proofs.Common.{◌≡◌, length, take}
use Rattle.rules.specs.Slices.{write_at}
use Rattle.text.proofs.Writer.put.Given as goal

abbrev pub invariant-loop-i : goal.invariant-loop-i
invariant-loop-i l = record {
  buffer : l.self.out.ghost_name ≡ l.fn.self.out.ghost_name;
  at : l.self.at ≡ l.fn.self.at;
  long : length l.self.out.now ≡ length l.fn.self.out.now;
  bytes : l.self.out.now ≡ write_at l.start (take l.i l.piece) l.fn.self.out.now;
}
