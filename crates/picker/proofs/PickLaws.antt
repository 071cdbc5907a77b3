-- What is listed, by what Decide answers, and what a call's checks find. Relies on what Open guarantees, and on the laws of checks and of lists.
use Prim.Native.Nat.{ℕ, ◌+◌, ◌≤◌, ◌<◌}
use mathlib.Core.Path.{◌≡◌, refl, sym, ap, ◌∙◌}
use mathlib.Core.Bool.{Bool, true, false}
use mathlib.Core.List.{List, [], ◌∷◌, ◌++◌}
use native.Mathlib.Numerals.{add-one}
use native.Mathlib.Omega.{arith}
use lib.Dec.{eqb}
use borrow.Author.Tests.{lt-ltb, le-ltb}
use Rattle.std.proofs.lemmas.List.{append-nil}
use lib.ListN.{length, get_or}
use Rattle.std.proofs.Common.{Result, Ok, Err}
use Rattle.rules.specs.Below.{one, list_below}
use Rattle.rules.specs.Lists.{keep_if, cons_if}
use Rattle.rules.proofs.BelowLaws.{length-list_below}
use Rattle.rules.proofs.ListLaws.{keep_if-append, keep_if-few}
use Rattle.tables.specs.declared.Refusal.{Refusal}
use Rattle.tables.specs.Answers.{Answer}
use Rattle.tables.specs.Checks.{refuse, fault, ◌then◌}
use Rattle.tables.specs.declared.Reason.TheVariants.{NoRoom}
use Rattle.tables.proofs.CheckLaws.{then_fault, then_left, then_right}
use Rattle.tables.specs.File.{tables_of}
use Rattle.tables.specs.Open.{file_fault}
use Rattle.tables.proofs.AcceptedLaws.{passed_accepted}
use Rattle.questions.specs.declared.Question.{Question}
use Rattle.questions.specs.Named.{table_checks, as_demand}
use Rattle.questions.specs.Modes.{mode_fault}
use Rattle.questions.specs.Starts.{from_starts}
use Rattle.checker.specs.declared.Verdict.{Verdict}
use Rattle.checker.specs.Calls.{decided}
use Rattle.checker.specs.Decide.{decide_answer}
use Rattle.picker.specs.Pick.{gets_yes, picked, pick_checks}

-- ---- Decide's yes

one_is : (b : Bool) → b ≡ eqb (one b) 1
one_is true = refl
one_is false = refl

module _ (s : List ℕ) (q : Question) (mode : ℕ) (r : Result Verdict Refusal) (e : decided r ≡ decide_answer s q mode 4096) where
  pub yes_told : (v : Verdict) → r ≡ Ok v → v.yes ≡ gets_yes s q mode
  unfolding gets_yes
  yes_told v is = one_is v.yes ∙ ap (λ (a : Answer). eqb (get_or a.values 0 0) 1) (ap decided (sym is) ∙ e)

  pub none_told : (f : Refusal) → r ≡ Err f → false ≡ gets_yes s q mode
  unfolding gets_yes
  none_told f is = ap (λ (a : Answer). eqb (get_or a.values 0 0) 1) (ap decided (sym is) ∙ e)

-- ---- the tables in turn

pub few_tables : (s : List ℕ) → file_fault s ≡ Ok tt → tables_of s ≤ 16
few_tables s e = (passed_accepted s e).few_tables

module _ (s : List ℕ) (demand mode standing : ℕ) where
  abbrev test : ℕ → Bool
  test i = gets_yes s (from_starts s demand i standing) mode

  -- of the first n tables
  abbrev pub among : ℕ → List ℕ
  among n = keep_if test (list_below n (λ i. i))

  among_more : (n : ℕ) (b : Bool) → b ≡ test n → among (n + 1) ≡ among n ++ cons_if b n []
  among_more n b e = rw (add-one n, e) (keep_if-append test (list_below n (λ i. i)) (n ∷ []))

  -- what is found of table n, by a question about it
  module _ (n : ℕ) {b : Bool} {q : Question} {d i set m : ℕ} (found : b ≡ gets_yes s q m) (asked : q ≡ from_starts s d i set)
      (of : d ≡ demand) (at : i ≡ n) (with : set ≡ standing) (by : m ≡ mode) where
    is_test : b ≡ test n
    is_test = found ∙ ap (λ (x : Question). gets_yes s x m) asked ∙ (λ k. gets_yes s (from_starts s (of k) (at k) (with k)) (by k))

    pub among_yes : {x : ℕ} → x ≡ n → b ≡ true → among n ++ x ∷ [] ≡ among (n + 1)
    among_yes {x} e told = ap (λ (y : ℕ). among n ++ y ∷ []) e ∙ sym (among_more n true (sym told ∙ is_test))

    pub among_no : b ≡ false → among n ≡ among (n + 1)
    among_no told = sym (among_more n false (sym told ∙ is_test) ∙ append-nil (among n))

  pub among_few : (n : ℕ) → length (among n) ≤ n
  among_few n = omega (arith, keep_if-few test (list_below n (λ i. i)), length-list_below {A = ℕ} (λ i. i) n)

  pub among_all : (n : ℕ) → n ≡ tables_of s → among n ≡ picked s demand mode standing
  unfolding picked
  among_all n e = ap among e

-- ---- by what the checks find

module _ (s : List ℕ) (demand mode standing room : ℕ) where
  pub table_stops : (r : Refusal) → table_checks s (as_demand demand) ≡ Err r → pick_checks s demand mode standing room ≡ Err r
  unfolding pick_checks
  table_stops r e = then_fault _ _ _ e

  module _ (there : table_checks s (as_demand demand) ≡ Ok tt) where
    pub mode_stops : (r : Refusal) → mode_fault mode ≡ Err r → pick_checks s demand mode standing room ≡ Err r
    unfolding pick_checks ◌then◌
    mode_stops r e = rw (there, e) refl

    module _ (known : mode_fault mode ≡ Ok tt) where
      pub room_stops : room < length (picked s demand mode standing) → pick_checks s demand mode standing room ≡ Err (refuse NoRoom 0)
      unfolding pick_checks ◌then◌ fault
      room_stops l = rw (there, known, lt-ltb room (length (picked s demand mode standing)) l) refl

      pub none_stops : length (picked s demand mode standing) ≤ room → pick_checks s demand mode standing room ≡ Ok tt
      unfolding pick_checks ◌then◌ fault
      none_stops l = rw (there, known, le-ltb room (length (picked s demand mode standing)) l) refl

  pub table_found : pick_checks s demand mode standing room ≡ Ok tt → table_checks s (as_demand demand) ≡ Ok tt
  unfolding pick_checks
  table_found e = then_left _ _ e

  pub mode_found : pick_checks s demand mode standing room ≡ Ok tt → mode_fault mode ≡ Ok tt
  unfolding pick_checks
  mode_found e = then_left _ _ (then_right _ _ e)
