-- By the byte: 1, 2, or neither.
use Rattle.std.proofs.Common.{refl, arith}
use borrow.Author.Tests.{ne_eqb}
use Rattle.tables.specs.Kinds.{kind_of}
use Rattle.tables.proofs.kinds.KindTryFromU8.try_from.Goals as goal

pub returns-in-1 : goal.returns-in-1
unfolding kind_of
returns-in-1 c = rw c.in-1.is refl

pub returns-in-2 : goal.returns-in-2
unfolding kind_of
returns-in-2 c = rw c.in-2.is refl

pub returns-in_default : goal.returns-in_default
unfolding kind_of
returns-in_default c = rw (ne_eqb c.args.code 1 (λ e. omega arith), ne_eqb c.args.code 2 (λ e. omega arith)) refl
