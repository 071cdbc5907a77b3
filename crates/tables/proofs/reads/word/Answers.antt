-- `tables::reads::word` meets its contract. Two bytes, the low one first; past the end both are 0.
use Rattle.std.proofs.Common.{rules}
use Rattle.tables.specs.File.{word_at}
use Rattle.tables.proofs.FileLaws.{word_past}
use Rattle.tables.proofs.reads.word.Goals as goal

pub returns-then-bytes-at : goal.returns-then-bytes-at
returns-then-bytes-at c = word_past c.args.bytes.now c.args.at c.if-bytes-at.true

pub returns : goal.returns
unfolding word_at
returns c = rw (← c.byte.ensures, ← c.byte-2.ensures) (search rules)
