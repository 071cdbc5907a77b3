-- The state that a table is started from is one of its states, so nothing turns back a question about two named tables from their starts. Relies on what
-- Open guarantees.
use Prim.Native.Nat.{ℕ, ◌≤◌, ◌<◌}
use mathlib.Core.Path.{◌≡◌, refl}
use mathlib.Core.Bool.{Bool, true, false, cond}
use mathlib.Core.List.{List}
use native.Mathlib.Omega.{arith}
use lib.Dec.{eqb}
use borrow.Author.Tests.{lt-leb, eq-eqb, ne_eqb, eqb-false}
use Rattle.std.proofs.Common.{Ok}
use Rattle.tables.specs.Tables.{table_of}
use Rattle.tables.proofs.CheckLaws.{passed_fault, then_both}
use Rattle.tables.proofs.AcceptedLaws.{passed_accepted}
use Rattle.questions.specs.declared.named.Named.{Named}
use Rattle.questions.specs.Named.{named_checks, as_demand, as_supply}
use Rattle.questions.specs.Pairs.{pair_checks}
use Rattle.questions.specs.Starts.{start_of, from_starts}
use Rattle.questions.proofs.NamedLaws.{IsThere, first_there, second_there}

pub start_one : (n : ℕ) → n ≡ 1 → start_of n ≡ 0
unfolding start_of
start_one n e = rw (eq-eqb n 1 e)

pub start_other : (n : ℕ) → (n ≡ 1 → ⊥) → start_of n ≡ 1
unfolding start_of
start_other n h = rw (ne_eqb n 1 h)

-- it is a state
start_below : (n : ℕ) → 1 ≤ n → start_of n < n
unfolding start_of
start_below n h = go (eqb n 1) refl
  where
    go : (b : Bool) → eqb n 1 ≡ b → cond b 0 1 < n
    go true e = omega arith
    go false e = let other = eqb-false n 1 e in omega arith

start_there : (s : List ℕ) (x : Named) → IsThere s x → start_of (table_of s x.table).n < (table_of s x.table).n
start_there s x there = start_below _ ((passed_accepted s there.accepted).table x.table there.below).some_state

pub starts_pass : (s : List ℕ) (demand supply standing : ℕ) → named_checks s (as_demand demand) (as_supply supply) ≡ Ok tt
    → pair_checks s (from_starts s demand supply standing) ≡ Ok tt
unfolding pair_checks
starts_pass s demand supply standing named =
    then_both _ _ named
    (then_both _ _ (passed_fault _ _ _ (lt-leb _ _ (start_there s (as_demand demand) (first_there s _ _ named))))
    (passed_fault _ _ _ (lt-leb _ _ (start_there s (as_supply supply) (second_there s _ _ named)))))
