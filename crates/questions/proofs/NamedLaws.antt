-- Laws of tables that a call names, by what the checks find. Relies on the laws of checks.
use Prim.Native.Nat.{ℕ, ◌<◌}
use mathlib.Core.Path.{◌≡◌, refl, ap, ◌∙◌}
use mathlib.Core.Bool.{Bool, true, false, not}
use mathlib.Core.List.{List}
use borrow.Author.Tests.{leb-false, lt-leb, eq-eqb, eqb-true}
use Rattle.std.proofs.Common.{Ok}
use Rattle.tables.specs.Checks.{Checked, ◌then◌}
use Rattle.tables.specs.Kinds.{code_of}
use Rattle.tables.specs.File.{tables_of, entry_of}
use Rattle.tables.specs.Open.{file_fault}
use Rattle.tables.specs.Body.{number_fault, body_checks}
use Rattle.tables.proofs.CheckLaws.{fault_passed, passed_fault, then_left, then_right, then_both, then_goes, then_assoc}
use Rattle.questions.specs.declared.named.Named.{Named}
use Rattle.questions.specs.Named.{kind_fault, table_checks, named_checks}

-- the file is accepted, and has a table with the number, of the kind
pub record IsThere (s : List ℕ) (a : Named) : Type 0 where
  pub accepted : file_fault s ≡ Ok tt
  pub below : a.table < tables_of s
  pub kind : (entry_of s a.table).kind ≡ code_of a.kind

pub body_same : (s : List ℕ) {i j : ℕ} {c : Checked} → c ≡ body_checks s i → i ≡ j → c ≡ body_checks s j
body_same s e same = e ∙ ap (λ (i : ℕ). body_checks s i) same

not_not : (b : Bool) → not b ≡ false → b ≡ true
not_not true e = refl
not_not false e = cc

module _ (s : List ℕ) (a : Named) where
  there_from : file_fault s ≡ Ok tt → number_fault (tables_of s) a.table ≡ Ok tt → kind_fault s a ≡ Ok tt → IsThere s a
  unfolding number_fault kind_fault
  there_from accepted number kind = record {
    accepted = accepted;
    below = leb-false _ _ (fault_passed _ _ _ number);
    kind = eqb-true _ _ (not_not _ (fault_passed _ _ _ kind));
  }

  there_number : IsThere s a → number_fault (tables_of s) a.table ≡ Ok tt
  unfolding number_fault
  there_number h = passed_fault _ _ _ (lt-leb _ _ h.below)

  there_kind : IsThere s a → kind_fault s a ≡ Ok tt
  unfolding kind_fault
  there_kind h = passed_fault _ _ _ (rw (eq-eqb _ _ h.kind) refl)

  pub table_there : table_checks s a ≡ Ok tt → IsThere s a
  unfolding table_checks
  table_there e = there_from (then_left _ _ e) (then_left _ _ (then_right _ _ e)) (then_right _ _ (then_right _ _ e))

-- of two tables each is there
module _ (s : List ℕ) (a b : Named) where
  pub first_there : named_checks s a b ≡ Ok tt → IsThere s a
  unfolding named_checks
  first_there e = let rest = then_right _ _ e in there_from s a (then_left _ _ e) (then_left _ _ rest) (then_left _ _ (then_right _ _ (then_right _ _ rest)))

  pub second_there : named_checks s a b ≡ Ok tt → IsThere s b
  unfolding named_checks
  second_there e =
      let rest = then_right _ _ (then_right _ _ e) in
      there_from s b (then_left _ _ e) (then_left _ _ rest) (then_right _ _ (then_right _ _ rest))

  -- where both numbers are below k, the kinds are left; by what a call looked at
  pub kinds_left : {x y d : Checked} {i k j : ℕ} → x ≡ body_checks s i → x ≡ Ok tt → y ≡ number_fault k j → y ≡ Ok tt
      → i ≡ a.table → k ≡ tables_of s → j ≡ b.table → d ≡ kind_fault s a then kind_fault s b → d ≡ named_checks s a b
  unfolding named_checks body_checks
  kinds_left f passed g there first count second e =
      then_goes _ _ _ _ (body_same s f first) passed
      (then_goes _ _ _ _ (g ∙ (λ n. number_fault (count n) (second n))) there e)
      ∙ then_assoc _ _ _

  pub both_there : IsThere s a → IsThere s b → named_checks s a b ≡ Ok tt
  unfolding named_checks
  both_there x y =
      then_both _ _ x.accepted
      (then_both _ _ (there_number s a x) (then_both _ _ (there_number s b y) (then_both _ _ (there_kind s a x) (there_kind s b y))))
