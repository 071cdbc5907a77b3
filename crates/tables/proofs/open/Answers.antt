-- By what the checks find.
use Rattle.std.proofs.Common.{◌∙◌, refl, ap}
use Rattle.tables.specs.Answers.{answer, counted}
use Rattle.tables.specs.Open.{open_of}
use Rattle.tables.proofs.CheckLaws.{handed_on}
use Rattle.tables.proofs.open.Goals as goal

pub returns-in_err-check_file : goal.returns-in_err-check_file
unfolding open_of answer
returns-in_err-check_file c = ap counted (handed_on _ _ c.from_residual.ensures.1) ∙ rw (← c.check_file.ensures, c.in_err-check_file.was) refl

pub returns : goal.returns
unfolding open_of answer
returns c = rw (← c.check_file.ensures, c.in_ok-check_file.was, c.table_count.ensures) refl
