-- `exports::numbers::write_numbers` meets its contract. The invariant: once the numbers from i on are written too, all are.
use Rattle.std.proofs.Common.{◌≡◌, ◌*◌, drop}
use Rattle.rules.specs.Slices.{write_at}
use Rattle.exports.specs.Bytes.{number_bytes}
use Rattle.exports.proofs.numbers.write_numbers.Given as goal

abbrev pub invariant-loop-i : goal.invariant-loop-i
invariant-loop-i l = write_at (8 * l.i) (number_bytes (drop l.i l.numbers)) l.out ≡ write_at 0 (number_bytes l.numbers) l.initial.out
