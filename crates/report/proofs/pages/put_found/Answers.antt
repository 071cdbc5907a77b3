-- `report::pages::put_found` meets its contract. The steps are written behind the line.
use Rattle.std.proofs.Common.{rules}
use Rattle.text.proofs.TextLaws.{wrote_both}
use Rattle.report.specs.Pages.{found_text}
use Rattle.report.proofs.pages.put_found.Goals as goal

pub returns : goal.returns
unfolding found_text
returns c = search (rules, wrote_both)
