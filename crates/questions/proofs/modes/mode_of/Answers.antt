-- `questions::modes::mode_of` meets its contract.
use mathlib.Core.Path.{refl}
use borrow.Author.Tests.{eq-eqb, ne_eqb}
use Rattle.questions.specs.Modes.{mode_of}
use Rattle.questions.proofs.modes.mode_of.Goals as goal

pub returns-then-number-eq0 : goal.returns-then-number-eq0
unfolding mode_of
returns-then-number-eq0 c = rw (eq-eqb _ _ c.if-number-eq0.true) refl

pub returns : goal.returns
unfolding mode_of
returns c = rw (ne_eqb _ _ c.if-number-eq0.false) refl
