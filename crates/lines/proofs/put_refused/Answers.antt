-- `lines::put_refused` meets its contract.
use Rattle.std.proofs.Common.{rules}
use Rattle.text.proofs.TextLaws.{wrote_both}
use Rattle.lines.specs.Lines.{refused_line}
use Rattle.lines.proofs.put_refused.Goals as goal

pub returns : goal.returns
unfolding refused_line
returns c = search (rules, wrote_both)
