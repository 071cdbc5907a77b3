-- `tables::checks::check_header` meets its contract. Each return is the first fault that applies.
use mathlib.Core.Path.{◌≡◌, sym, ap, ◌∙◌}
use native.Mathlib.Omega.{arith}
use borrow.Author.Tests.{lt-ltb, le-ltb}
use Rattle.tables.specs.Checks.{fault, ◌then◌}
use Rattle.std.proofs.Common.{ℕ}
use Rattle.tables.specs.Open.{outside, header_fault}
use Rattle.tables.proofs.AcceptedLaws.{outside_high}
use Rattle.tables.proofs.checks.check_header.Goals as goal

pub returns-then-len-lt2 : goal.returns-then-len-lt2
unfolding header_fault fault ◌then◌
returns-then-len-lt2 c = simp (lt-ltb _ _ c.if-len-lt2.true, c.fault.ensures)

pub returns-then-is_outside : goal.returns-then-is_outside
unfolding header_fault fault ◌then◌
returns-then-is_outside c =
    let tested : c.is_outside.result ≡ outside 1 16 c.table_count-k.result = c.is_outside.ensures ∙ ap (λ (high : ℕ). outside 1 high c.table_count-k.result) (omega arith) in
    simp (le-ltb _ _ c.if-len-lt2.false, ← c.table_count-k.ensures, ← tested, c.if-is_outside.true, c.fault-then-is_outside.ensures)

pub overflow_mul-k : goal.overflow_mul-k
overflow_mul-k c = omega (arith, outside_high _ _ _ (sym c.is_outside.ensures ∙ c.if-is_outside.false))

pub overflow_add-k : goal.overflow_add-k
overflow_add-k c = omega (arith, outside_high _ _ _ (sym c.is_outside.ensures ∙ c.if-is_outside.false))

pub returns-then-len-k : goal.returns-then-len-k
unfolding header_fault fault ◌then◌
returns-then-len-k c = simp (le-ltb _ _ c.if-len-lt2.false, ← c.table_count-k.ensures, ← c.is_outside.ensures, c.if-is_outside.false, lt-ltb _ _ c.if-len-k.true, c.fault-then-len-k.ensures)

pub returns : goal.returns
unfolding header_fault fault ◌then◌
returns c = simp (le-ltb _ _ c.if-len-lt2.false, ← c.table_count-k.ensures, ← c.is_outside.ensures, c.if-is_outside.false, le-ltb _ _ c.if-len-k.false)
