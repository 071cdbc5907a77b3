-- `tables::checks::check_row` meets its contract. Each return is the first fault that applies.
use borrow.Author.Tests.{le-leb, lt-leb, eq-eqb, ne_eqb}
use mathlib.Core.Path.{◌≡◌, ap, ◌∙◌}
use native.Mathlib.Omega.{arith}
use Rattle.std.proofs.Common.{ℕ, ◌+◌, ◌*◌, Err}
use Rattle.tables.specs.declared.Reason.TheVariants.{Target}
use Rattle.tables.specs.Checks.{refuse, fault, ◌then◌}
use Rattle.tables.specs.Open.{row_fault}
use Rattle.tables.proofs.checks.check_row.Goals as goal

pub returns-then-row-eq-FIN : goal.returns-then-row-eq-FIN
unfolding row_fault fault ◌then◌
returns-then-row-eq-FIN c = simp (← c.row_at-row.ensures, eq-eqb _ _ c.if-row-eq-FIN.true, c.fault.ensures)

pub returns-then-n-row : goal.returns-then-n-row
unfolding row_fault fault ◌then◌
returns-then-n-row c = simp (← c.row_at-row.ensures, ne_eqb _ _ c.if-row-eq-FIN.false, le-leb _ _ c.if-n-row.true, c.fault-then-n-row.ensures)

pub returns-then-n-row-2 : goal.returns-then-n-row-2
unfolding row_fault fault ◌then◌
returns-then-n-row-2 c =
    let found : c.fault-then-n-row-2.result ≡ Err (refuse Target (c.args.start + 4 * c.args.j + 1)) = c.fault-then-n-row-2.ensures ∙ ap (λ (place : ℕ). Err (refuse Target place)) (omega arith) in
    simp (← c.row_at-row.ensures, ne_eqb _ _ c.if-row-eq-FIN.false, lt-leb _ _ c.if-n-row.false, le-leb _ _ c.if-n-row-2.true, found)

pub returns-then-not-rises_to : goal.returns-then-not-rises_to
unfolding row_fault fault ◌then◌
returns-then-not-rises_to c = let later : c.args.j ≡ 0 → ⊥ = λ e. omega (arith, c.if-j-gt0.true) in
    simp (← c.row_at-row.ensures, ne_eqb _ _ c.if-row-eq-FIN.false, lt-leb _ _ c.if-n-row.false, lt-leb _ _ c.if-n-row-2.false, ne_eqb _ _ later, ← c.row_at-before.ensures, ← c.rises_to.ensures, c.if-not-rises_to.true, c.fault-then-not-rises_to.ensures)

pub returns-else-not-rises_to : goal.returns-else-not-rises_to
unfolding row_fault fault ◌then◌
returns-else-not-rises_to c = let later : c.args.j ≡ 0 → ⊥ = λ e. omega (arith, c.if-j-gt0.true) in
    simp (← c.row_at-row.ensures, ne_eqb _ _ c.if-row-eq-FIN.false, lt-leb _ _ c.if-n-row.false, lt-leb _ _ c.if-n-row-2.false, ne_eqb _ _ later, ← c.row_at-before.ensures, ← c.rises_to.ensures, c.if-not-rises_to.false)

pub returns-else-j-gt0 : goal.returns-else-j-gt0
unfolding row_fault fault ◌then◌
returns-else-j-gt0 c = let first : c.args.j ≡ 0 = omega (arith, c.if-j-gt0.false) in
    simp (← c.row_at-row.ensures, ne_eqb _ _ c.if-row-eq-FIN.false, lt-leb _ _ c.if-n-row.false, lt-leb _ _ c.if-n-row-2.false, eq-eqb _ _ first)
