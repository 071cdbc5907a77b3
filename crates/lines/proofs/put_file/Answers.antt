-- `lines::put_file` meets its contract. Its pieces are written one after the other.
use Rattle.std.proofs.Common.{rules}
use Rattle.text.proofs.TextLaws.{wrote_both}
use Rattle.lines.specs.Lines.{file_line}
use Rattle.lines.proofs.put_file.Goals as goal

pub returns : goal.returns
unfolding file_line
returns c = search (rules, wrote_both)
