-- `questions::named::check_kind` meets its contract.
use mathlib.Core.Path.{refl}
use Rattle.tables.specs.Checks.{fault}
use Rattle.questions.specs.Named.{kind_fault}
use Rattle.questions.proofs.named.check_kind.Goals as goal

pub returns-then-not-has_kind : goal.returns-then-not-has_kind
unfolding kind_fault fault
returns-then-not-has_kind c = simp (← c.entry_at.ensures, ← c.has_kind.ensures, c.if-not-has_kind.true, c.new.ensures) refl

pub returns : goal.returns
unfolding kind_fault fault
returns c = simp (← c.entry_at.ensures, ← c.has_kind.ensures, c.if-not-has_kind.false) refl
