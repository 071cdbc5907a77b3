-- `tables::reads::entry_at` meets its contract. An entry past the end has 0 in each field; any other is read field by field.
use native.Mathlib.Omega.{arith}
use Rattle.tables.specs.File.{entry_of}
use Rattle.tables.proofs.FileLaws.{entry_past}
use Rattle.tables.proofs.reads.entry_at.Goals as goal

pub returns-then-file-i : goal.returns-then-file-i
returns-then-file-i c = entry_past c.args.file.now c.args.i (omega arith)

pub returns : goal.returns
unfolding entry_of
returns c = cc
