-- `exports::numbers::write_words` meets its contract. The invariant: once the words from i on are written too, all are.
use Rattle.std.proofs.Common.{◌≡◌, ◌*◌, drop}
use Rattle.rules.specs.Slices.{write_at}
use Rattle.exports.specs.Bytes.{word_bytes}
use Rattle.exports.proofs.numbers.write_words.Given as goal

abbrev pub invariant-loop-i : goal.invariant-loop-i
invariant-loop-i l = write_at (2 * l.i) (word_bytes (drop l.i l.words)) l.out ≡ write_at 0 (word_bytes l.words) l.initial.out
