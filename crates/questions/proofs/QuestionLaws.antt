-- What is asked about a file, by what opening and the search for the two tables find, and that it is about a pair of states. Relies on the laws of `tables`.
use Prim.Native.Nat.{ℕ, ◌≤◌, ◌<◌}
use mathlib.Core.Path.{◌≡◌, refl, sym, ap, ◌∙◌}
use mathlib.Core.List.{List}
use borrow.Author.Tests.{leb-false, le-leb, lt-leb}
use Rattle.tables.specs.declared.Refusal.{Refusal}
use Rattle.tables.specs.Checks.{Checked, refuse, fault, ◌then◌}
use Rattle.tables.specs.Answers.{counted}
use Rattle.tables.specs.File.{tables_of}
use Rattle.tables.specs.Tables.{machine_of}
use Rattle.tables.specs.Open.{file_fault, open_of}
use Rattle.tables.proofs.CheckLaws.{fault_passed, then_left, then_right}
use Rattle.tables.proofs.AcceptedLaws.{tables_passed, refused_fault}
use Rattle.tables.specs.declared.Reason.TheVariants.{WrongKind}
use Rattle.std.proofs.Common.{Result, Ok, Err}
use Rattle.questions.specs.declared.Question.{Question}
use Rattle.questions.specs.Named.{as_demand, as_supply}
use Rattle.questions.specs.Starts.{from_starts}
use Rattle.questions.specs.Pairs.{pair_checks, supply_of}
use Rattle.questions.specs.Questions.{first_of, first_demand, first_supply, question_of, program_checks, asked_after, asked_of}
use Rattle.questions.proofs.PairLaws.{plain_supply}
use Rattle.questions.proofs.NamedLaws.{IsThere, both_there}
use Rattle.questions.proofs.StartLaws.{starts_pass}
use Rattle.questions.proofs.TableLaws.{first_kind}

-- ---- by what opening finds

module _ (s : List ℕ) (o : Result ℕ Refusal) (e : counted o ≡ open_of s) where
  pub not_opened : (r : Refusal) → o ≡ Err r → Err r ≡ asked_of s
  unfolding asked_of program_checks ◌then◌
  not_opened r p = rw (refused_fault s r (rw p at e)) refl

  module _ (k : ℕ) (p : o ≡ Ok k) where
    file_passed : (file_fault s ≡ Ok tt) × (tables_of s ≡ k)
    file_passed = tables_passed s k (rw p at e)

    module _ (d : ℕ) (demand : d ≡ first_of s 1 k) where
      pub no_demand : k ≤ d → Err (refuse WrongKind 0) ≡ asked_of s
      unfolding asked_of program_checks ◌then◌ fault
      no_demand h = rw (file_passed.0, file_passed.1, sym demand, le-leb k d h) refl

      module _ (u : ℕ) (supply : u ≡ first_of s 2 k) (l : d < k) where
        pub no_supply : k ≤ u → Err (refuse WrongKind 0) ≡ asked_of s
        unfolding asked_of program_checks ◌then◌ fault
        no_supply h = rw (file_passed.0, file_passed.1, sym demand, sym supply, lt-leb k d l, le-leb k u h) refl

        program_passed : u < k → program_checks s ≡ Ok tt
        unfolding program_checks ◌then◌ fault
        program_passed h = rw (file_passed.0, file_passed.1, sym demand, sym supply, lt-leb k d l, lt-leb k u h) refl

        question_is : from_starts s d u 0 ≡ question_of s
        question_is = rw (file_passed.1, sym demand, sym supply) refl

        -- both tables are there, and the question is of what was found
        pub both_found : u < k → {q : Question} {i j standing : ℕ} → q ≡ from_starts s i j standing → i ≡ d → j ≡ u → standing ≡ 0 → Ok q ≡ asked_of s
        unfolding asked_of
        both_found h f is are none = rw (program_passed h) (ap Ok (f ∙ (λ x. from_starts s (is x) (are x) (none x)) ∙ question_is))

-- ---- the question is about a pair of states

module _ (s : List ℕ) (passed : program_checks s ≡ Ok tt) where
  file_fault_lem : file_fault s ≡ Ok tt
  unfolding program_checks
  file_fault_lem = then_left _ _ passed

  demand_there : first_demand s < tables_of s
  unfolding program_checks
  demand_there = leb-false _ _ (fault_passed _ _ _ (then_left _ _ (then_right _ _ passed)))

  supply_there : first_supply s < tables_of s
  unfolding program_checks
  supply_there = leb-false _ _ (fault_passed _ _ _ (then_right _ _ (then_right _ _ passed)))

  demand_named : IsThere s (as_demand (first_demand s))
  demand_named = record { accepted = file_fault_lem; below = demand_there; kind = first_kind s 1 _ demand_there }

  supply_named : IsThere s (as_supply (first_supply s))
  supply_named = record { accepted = file_fault_lem; below = supply_there; kind = first_kind s 2 _ supply_there }

  pub question_asked : pair_checks s (question_of s) ≡ Ok tt
  question_asked = starts_pass s _ _ 0 (both_there s _ _ demand_named supply_named)

-- ---- by what is asked

module _ (s : List ℕ) where
  pub asked_refused : (r : Refusal) → asked_of s ≡ Err r → program_checks s ≡ Err r
  unfolding asked_of
  asked_refused r e = go (program_checks s) e
    where
      go : (c : Checked) → asked_after c s ≡ Err r → c ≡ Err r
      go (Err f) e = cc
      go (Ok u) e = cc

  pub asked_question : (q : Question) → asked_of s ≡ Ok q → (program_checks s ≡ Ok tt) × (question_of s ≡ q)
  unfolding asked_of
  asked_question q e = go (program_checks s) e
    where
      go : (c : Checked) → asked_after c s ≡ Ok q → (c ≡ Ok tt) × (question_of s ≡ q)
      go (Err f) e = cc
      go (Ok u) e = (refl, cc)

  -- no check of a call about a question that is asked finds a fault
  pub asked_passes : (q : Question) → asked_of s ≡ Ok q → pair_checks s q ≡ Ok tt
  asked_passes q e = let (passed, same) = asked_question q e in rw same at (question_asked s passed)

  -- and its supply is the table's, since nothing stands
  pub asked_plain : (q : Question) → asked_of s ≡ Ok q → supply_of s q ≡ machine_of s q.supply.table
  asked_plain q e = plain_supply s q (sym (ap (λ (x : Question). x.standing) (asked_question q e).1))
