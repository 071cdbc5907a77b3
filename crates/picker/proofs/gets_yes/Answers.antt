-- `picker::gets_yes` meets its contract, by what Decide answers.
use Rattle.picker.proofs.PickLaws.{yes_told, none_told}
use Rattle.picker.proofs.gets_yes.Goals as goal

pub returns-in-Ok : goal.returns-in-Ok
returns-in-Ok c = yes_told _ _ _ _ c.decide.ensures.answer _ c.in-Ok.is

pub returns-in-Err : goal.returns-in-Err
returns-in-Err c = none_told _ _ _ _ c.decide.ensures.answer _ c.in-Err.is
