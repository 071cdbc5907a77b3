-- `report::pages::put_outcome` meets its contract. The parts are written one after the other.
use Rattle.std.proofs.Common.{rules}
use Rattle.text.proofs.TextLaws.{wrote_both}
use Rattle.report.proofs.pages.put_outcome.Goals as goal

pub returns : goal.returns
returns c = search (rules, wrote_both)
