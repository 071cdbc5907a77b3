-- Laws of Body: what its checks find. Relies on the laws of accepted files.
use Prim.Native.Nat.{ℕ, ◌+◌, ◌≤◌}
use mathlib.Core.Path.{◌≡◌, refl, ap}
use mathlib.Core.Bool.{true, false}
use mathlib.Core.List.{List, []}
use lib.ListN.{length}
use borrow.Author.Tests.{leb-false}
use Rattle.tables.specs.declared.Refusal.{Refusal}
use Rattle.tables.specs.Checks.{Checked}
use Rattle.tables.specs.Answers.{answer}
use Rattle.tables.specs.File.{tables_of, entry_of, body_length}
use Rattle.tables.specs.Body.{number_fault, body_checks, body_answer}
use Rattle.tables.proofs.CheckLaws.{fault_passed, then_left, then_right}
use Rattle.tables.proofs.AcceptedLaws.{passed_accepted, accepted_laid}
use Rattle.std.specs.Result.{is_err}
use Rattle.std.proofs.Common.{Ok, Err}

-- a call that names a table which is in the file is about the bytes that its entry tells of
pub body_within : (s : List ℕ) (table : ℕ) → body_checks s table ≡ Ok tt → (entry_of s table).offset + body_length (entry_of s table) ≤ length s
unfolding body_checks number_fault
body_within s table e =
    let there = leb-false _ _ (fault_passed _ _ _ (then_right _ _ e)) in
    (accepted_laid s (tables_of s) (passed_accepted s (then_left _ _ e))).within table there

-- whether checks found a fault
pub found_fault : (c : Checked) → is_err c ≡ true → (r : Refusal) × (c ≡ Err r)
found_fault (Ok u) e = cc
found_fault (Err r) e = (r, refl)

pub found_none : (c : Checked) → is_err c ≡ false → c ≡ Ok tt
found_none (Ok u) e = refl
found_none (Err r) e = cc

-- what the checks find, and what it says to the caller
pub body_answered : (s : List ℕ) (table : ℕ) (r : Checked) → r ≡ body_checks s table → answer r [] ≡ body_answer s table
unfolding body_answer
body_answered s table r e = ap (λ (x : Checked). answer x []) e
