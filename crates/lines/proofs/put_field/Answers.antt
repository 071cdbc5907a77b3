-- `lines::put_field` meets its contract.
use Rattle.std.proofs.Common.{rules}
use Rattle.text.proofs.TextLaws.{wrote_both}
use Rattle.lines.proofs.put_field.Goals as goal

pub returns : goal.returns
returns c = search (rules, wrote_both)
