-- `tables::reads::row_at` meets its contract. A row past the end has 0 in each field; any other is read field by field.
use mathlib.Core.Path.{◌∙◌}
use native.Mathlib.Omega.{arith}
use Rattle.tables.specs.File.{row_of}
use Rattle.tables.proofs.FileLaws.{row_past}
use Rattle.tables.proofs.reads.row_at.Goals as goal

pub returns-then-body-i : goal.returns-then-body-i
returns-then-body-i c = c.new.ensures ∙ row_past c.args.body.now c.args.i (omega arith)

pub returns : goal.returns
unfolding row_of
returns c = cc
