-- Room: a slice that is longer than the most pairs there can be turns back no call that one of that length does not. Relies on the laws of `checker`.
use Rattle.std.proofs.Common.{◌≡◌, ℕ, ◌*◌, ◌<◌, ◌≤◌, ◌⊎◌, inl, inr, min, List, refl, ap, ◌∙◌, Ok, Err, ltb, arith}
use Rattle.std.proofs.lemmas.Bool.{cases_lt}
use borrow.Author.Tests.{lt-ltb, le-ltb}
use Rattle.tables.specs.Checks.{Checked, fault, ◌then◌}
use Rattle.tables.specs.declared.Reason.TheVariants.{NoRoom}
use Rattle.questions.specs.declared.Question.{Question}
use Rattle.questions.specs.Pairs.{demand_of, supply_of}
use Rattle.questions.specs.Modes.{mode_checks}
use Rattle.questions.proofs.PairLaws.{few_pairs}
use Rattle.questions.proofs.ModeLaws.{mode_asked}
use Rattle.checker.specs.Decide.{decide_checks}
use Rattle.checker.specs.Run.{run_checks}
use Rattle.checker.proofs.DecideLaws.{decide_asked}

-- a last check of a length that is cut to a bound, where the bound is enough once the checks before it pass
cut_same : (first : Checked) (needed bound a b : ℕ) → (first ≡ Ok tt → needed ≤ bound) → a ≡ min bound b
    → first then fault (ltb a needed) NoRoom 0 ≡ first then fault (ltb b needed) NoRoom 0
unfolding ◌then◌
cut_same (Err r) needed bound a b enough e = refl
cut_same (Ok u) needed bound a b enough e = let most = enough refl in go most (cases_lt b needed)
  where
    go : needed ≤ bound → (b < needed) ⊎ (needed ≤ b) → fault (ltb a needed) NoRoom 0 ≡ fault (ltb b needed) NoRoom 0
    go most (inl l) = rw (lt-ltb a needed (omega arith), lt-ltb b needed l) refl
    go most (inr l) = rw (le-ltb a needed (omega arith), le-ltb b needed l) refl

module _ (s : List ℕ) (q : Question) (mode : ℕ) where
  pub decide_room : (a b : ℕ) → a ≡ min 4096 b → decide_checks s q mode a ≡ decide_checks s q mode b
  unfolding decide_checks
  decide_room a b e = cut_same (mode_checks s q mode) _ 4096 a b (λ p. few_pairs s q (mode_asked s q mode p)) e

  pub run_room : (a b c d : ℕ) → a ≡ min 4096 b → c ≡ min 8192 d → run_checks s q mode a c ≡ run_checks s q mode b d
  unfolding run_checks
  run_room a b c d e f =
      cut_same (decide_checks s q mode a) _ 8192 c d (λ p. let few = few_pairs s q (decide_asked s q mode a p) in omega arith) f
      ∙ ap (λ (x : Checked). x then fault (ltb d (2 * ((demand_of s q).n * (supply_of s q).n))) NoRoom 0) (decide_room a b e)
