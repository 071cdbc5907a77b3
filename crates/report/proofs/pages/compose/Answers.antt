-- `report::pages::compose` meets its contract, by what is asked.
use mathlib.Core.Path.{sym, ◌∙◌}
use Rattle.tables.proofs.CheckLaws.{handed_on}
use Rattle.questions.proofs.QuestionLaws.{asked_passes}
use Rattle.report.proofs.ReportLaws.{text_refused, answered_page}
use Rattle.report.proofs.pages.compose.Goals as goal

pub find-every-requires : goal.find-every-requires
find-every-requires c = (asked_passes _ _ (sym c.ask.ensures ∙ c.in_ok-question.was), c.requires.0)

pub find-some-requires : goal.find-some-requires
find-some-requires c = (asked_passes _ _ (sym c.ask.ensures ∙ c.in_ok-question.was), c.requires.1)

pub returns-in_err-question : goal.returns-in_err-question
returns-in_err-question c =
    rw (handed_on _ _ c.from_residual.ensures.1) (sym (text_refused _ _ (sym c.ask.ensures ∙ c.in_err-question.was)))

pub returns : goal.returns
returns c =
    answered_page _ _ (sym c.ask.ensures ∙ c.in_ok-question.was) _ (sym c.table_count.ensures) _ _ c.find-every.ensures.verdict c.find-every.ensures.steps
    c.find-some.ensures.verdict c.find-some.ensures.steps
