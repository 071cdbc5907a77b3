-- `tables::checks::check_body` meets its contract. The rows checked are those of the part of the file that the entry tells of.
use native.Mathlib.Omega.{arith}
use mathlib.Core.Path.{◌∙◌, ap}
use mathlib.Core.List.{List}
use Prim.Native.Nat.{ℕ}
use Rattle.tables.specs.Checks.{scan}
use Rattle.tables.specs.Open.{row_fault}
use Rattle.tables.specs.File.{body_length}
use Rattle.tables.proofs.FileLaws.{span_within}
use Rattle.tables.proofs.checks.check_body_rows.Goals as goal

pub check_rows-requires : goal.check_rows-requires
unfolding body_length
check_rows-requires c = omega (arith, c.requires)

pub returns : goal.returns
returns c = c.check_rows.ensures ∙ ap (λ (b : List ℕ). scan (row_fault b c.args.entry.states c.args.entry.offset) c.args.entry.rows) (rw (span_within _ _ c.requires.0) at c.entry_body-body.ensures).bytes
