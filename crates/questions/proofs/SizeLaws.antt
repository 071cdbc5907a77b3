-- Laws of two tables of one kind whose join or merge nothing turns back by their numbers and sizes. Relies on what Open guarantees.
use Prim.Native.Nat.{ℕ, ◌*◌, ◌≤◌, ◌<◌}
use mathlib.Core.Path.{◌≡◌}
use mathlib.Core.List.{List}
use native.Mathlib.Omega.{arith}
use borrow.Author.Tests.{ltb-false}
use Rattle.tables.specs.declared.kinds.Kind.{Kind}
use Rattle.tables.specs.File.{tables_of}
use Rattle.tables.specs.Accepted.{Accepted}
use Rattle.tables.specs.Tables.{table_of}
use Rattle.tables.proofs.CheckLaws.{fault_passed, then_left, then_right}
use Rattle.tables.proofs.AcceptedLaws.{passed_accepted}
use Rattle.std.proofs.Common.{Ok}
use Rattle.questions.specs.Named.{named_checks, as_kind}
use Rattle.questions.specs.Sizes.{size_checks}
use Rattle.questions.proofs.NamedLaws.{IsThere, first_there, second_there}
use Rattle.questions.proofs.PairLaws.{TableAt, table_at}

module _ (kind : Kind) (s : List ℕ) (i j : ℕ) (a : size_checks kind s i j ≡ Ok tt) where
  named : named_checks s (as_kind kind i) (as_kind kind j) ≡ Ok tt
  unfolding size_checks
  named = then_left _ _ a

  -- each is in the file, and has a state 0
  some_state : (x : ℕ) → IsThere s (as_kind kind x) → 0 < (table_of s x).n
  some_state x there =
      let t : Accepted s (tables_of s) = passed_accepted s there.accepted in
      let some = (t.table x there.below).some_state in
      omega arith

  pub first_at : TableAt s i 0
  first_at = let there = first_there s _ _ named in table_at s (as_kind kind i) 0 there (some_state i there)

  pub second_at : TableAt s j 0
  second_at = let there = second_there s _ _ named in table_at s (as_kind kind j) 0 there (some_state j there)

  pub states_few : (table_of s i).n * (table_of s j).n ≤ 64
  unfolding size_checks
  states_few = ltb-false 64 _ (fault_passed _ _ _ (then_right _ _ a))
