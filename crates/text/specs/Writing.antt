-- Text that a writer puts behind what it has written.
use Rattle.std.specs.Prelude.{ℕ, ◌+◌, ◌^◌, ◌<◌, ◌≡◌, List, length}
use Rattle.rules.specs.Slices.{write_at}
use Rattle.text.specs.declared.Writer.{Writer}

-- a piece is written, where the place behind it is a number of 64 bits
pub record Wrote (piece : List ℕ) (before after : Writer) : Type 0 where
  pub buffer : after.out.ghost_name ≡ before.out.ghost_name
  pub place : before.at + length piece < 2 ^ 64 → after.at ≡ before.at + length piece
  pub bytes : before.at + length piece < 2 ^ 64 → after.out.now ≡ write_at before.at piece before.out.now
