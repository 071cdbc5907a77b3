-- `lines::put_start` meets its contract. Its pieces are written one after the other.
use Rattle.std.proofs.Common.{rules}
use Rattle.text.proofs.TextLaws.{wrote_both}
use Rattle.lines.specs.Lines.{start_line}
use Rattle.lines.proofs.put_start.Goals as goal

pub returns : goal.returns
unfolding start_line
returns c = search (rules, wrote_both)
