-- Laws of questions about a pair in a mode, by what the checks find.
use Prim.Native.Nat.{ℕ, ◌≤◌}
use mathlib.Core.Path.{◌≡◌}
use mathlib.Core.List.{List}
use borrow.Author.Tests.{le-ltb}
use Rattle.tables.proofs.CheckLaws.{passed_fault, then_left, then_both}
use Rattle.std.proofs.Common.{Ok}
use Rattle.questions.specs.declared.Question.{Question}
use Rattle.questions.specs.Pairs.{pair_checks}
use Rattle.questions.specs.Modes.{mode_fault, mode_checks}

module _ (s : List ℕ) (q : Question) (mode : ℕ) where
  -- where no number applies, the pair was asked about
  pub mode_asked : mode_checks s q mode ≡ Ok tt → pair_checks s q ≡ Ok tt
  unfolding mode_checks
  mode_asked e = then_left _ _ e

  -- one of the two modes is no fault
  pub known_mode : pair_checks s q ≡ Ok tt → mode ≤ 1 → mode_checks s q mode ≡ Ok tt
  unfolding mode_checks mode_fault
  known_mode e known = then_both _ _ e (passed_fault _ _ _ (le-ltb 1 mode known))
