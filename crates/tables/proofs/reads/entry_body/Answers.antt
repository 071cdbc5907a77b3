-- `tables::reads::entry_body` meets its contract. The part starts at the offset and has as many bytes as the body, where the file has them.
use mathlib.Core.Path.{refl}
use native.Mathlib.Omega.{arith}
use native.Mathlib.Nat.{add-sub_cancel_left}
use borrow.Author.Tests.{lt-ltb}
use Rattle.tables.specs.File.{body_length}
use Rattle.tables.specs.Part.{entry_span}
use Rattle.tables.proofs.FileLaws.{span_within}
use Rattle.tables.proofs.reads.entry_body.Goals as goal

pub overflow_add-end : goal.overflow_add-end
unfolding body_length
overflow_add-end c = let long = c.body_length.ensures in omega arith

pub returns-then-file-end : goal.returns-then-file-end
unfolding entry_span
returns-then-file-end c = rw (lt-ltb _ _ (rw c.body_length.ensures at c.if-file-end.true)) (record { block = refl; start = omega arith; bytes = refl })

pub returns : goal.returns
returns c = rw (span_within _ _ (rw c.body_length.ensures at c.if-file-end.false)) (record { block = refl; start = omega arith; bytes = simp (add-sub_cancel_left, c.body_length.ensures) })
