-- `tables::check_number` meets its contract.
use mathlib.Core.Path.{◌≡◌, refl, ap, ◌∙◌}
use mathlib.Core.Bool.{true, false}
use native.Mathlib.Omega.{arith}
use lib.Dec.{leb}
use borrow.Author.Tests.{le-leb, lt-leb}
use Rattle.std.proofs.Common.{ℕ}
use Rattle.tables.specs.Checks.{refuse, fault}
use Rattle.tables.specs.Body.{number_fault}
use Rattle.tables.specs.declared.Reason.TheVariants.{NoTable}
use Rattle.tables.proofs.check_number.Goals as goal

pub returns-then-k-table : goal.returns-then-k-table
unfolding number_fault fault
returns-then-k-table c =
    let past : leb c.args.k c.args.table ≡ true = le-leb _ _ (let above = c.if-k-table.true in omega arith) in
    let refused : c.new.result ≡ refuse NoTable 0 = c.new.ensures ∙ ap (λ (place : ℕ). refuse NoTable place) (omega arith) in
    rw (past, refused) refl

pub returns : goal.returns
unfolding number_fault fault
returns c =
    let there : leb c.args.k c.args.table ≡ false = lt-leb _ _ (let below = c.if-k-table.false in omega arith) in
    rw there refl
