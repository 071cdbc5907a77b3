-- `tables::reads::Entry::body_length` meets its contract. The code is the definition.
use mathlib.Core.Path.{refl}
use Rattle.tables.specs.File.{body_length}
use Rattle.tables.proofs.reads.Entry.body_length.Goals as goal

pub returns : goal.returns
unfolding body_length
returns c = refl
