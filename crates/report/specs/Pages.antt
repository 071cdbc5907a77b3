-- A page: the text for a file, composed and not yet written. It is the refusal, or the outcome, with the steps of both modes.
use Rattle.std.specs.Prelude.{ℕ, List, ◌++◌, eqb, Result, Ok, Err}
use Rattle.rules.specs.declared.Mode.{Mode}
use Rattle.rules.specs.declared.Mode.TheVariants.{Full, Partial}
use Rattle.rules.specs.Machines.{Machine}
use Rattle.rules.specs.Rounds.{mark, kept_count, rounds}
use Rattle.rules.specs.Steps.{steps}
use Rattle.questions.specs.declared.Question.{Question}
use Rattle.questions.specs.Pairs.{demand_of, supply_of}
use Rattle.tables.specs.declared.Refusal.{Refusal}
use Rattle.checker.specs.declared.Verdict.{Verdict}
use Rattle.report.specs.declared.pages.Found.{Found}
use Rattle.report.specs.declared.pages.Outcome.{Outcome}
use Rattle.lines.specs.Lines.{file_line, verdict_line, step_lines}
use Rattle.report.specs.Report.{refusal_line, asked_line}

-- what a mode found
unfoldable pub found_text : Mode → Found → List ℕ
found_text mode found = verdict_line mode found.verdict.yes found.verdict.rounds found.verdict.kept ++ step_lines found.steps.now

-- the text of a page
abbrev pub page_text : Result Outcome Refusal → List ℕ
page_text (Err r) = refusal_line r
page_text (Ok a) = file_line a.bytes a.tables ++ asked_line a.question ++ found_text Full a.full ++ found_text Partial a.partial

-- what a mode says of the pair (t, w)
abbrev pub verdict_of : Mode → Machine → Machine → ℕ → ℕ → Verdict
verdict_of mode D S t w = record { yes = eqb (mark mode D S t w) 0; kept = kept_count mode D S; rounds = rounds mode D S }

-- the same of a question about a file
abbrev pub verdict_at : Mode → List ℕ → Question → Verdict
verdict_at mode s q = verdict_of mode (demand_of s q) (supply_of s q) q.demand.state q.supply.state

-- and the steps of its run
abbrev pub steps_at : Mode → List ℕ → Question → List ℕ
steps_at mode s q = steps mode (demand_of s q) (supply_of s q) q.demand.state q.supply.state
