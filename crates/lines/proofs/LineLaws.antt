-- How long the lines can be. Relies on `text` for the length of a number.
use Rattle.std.proofs.Common.{ℕ, ◌+◌, ◌≤◌, Bool, true, false, cond, length, length-append, arith}
use lib.Dec.{eqb}
use Rattle.rules.specs.declared.Mode.{Mode}
use Rattle.rules.specs.declared.Mode.TheVariants.{Full, Partial}
use Rattle.text.specs.Text.{ascii, decimal}
use Rattle.text.proofs.TextLaws.{length-decimal}
use Rattle.lines.specs.Lines.{refused_line, file_line, start_line, mode_word, verdict_word, verdict_line, row_word, step_line}

pub refused_short : (number place : ℕ) → length (refused_line number place) ≤ 53
unfolding refused_line
refused_short number place = simp length-append (omega (arith, length-decimal number, length-decimal place))

pub file_short : (bytes k : ℕ) → length (file_line bytes k) ≤ 61
unfolding file_line
file_short bytes k = simp length-append (omega (arith, length-decimal bytes, length-decimal k))

pub start_short : (demand supply t s : ℕ) → length (start_line demand supply t s) ≤ 104
unfolding start_line
start_short demand supply t s =
    simp length-append (omega (arith, length-decimal demand, length-decimal supply, length-decimal t, length-decimal s))

words_short : (mode : Mode) (answer : Bool) → length (mode_word mode) + length (verdict_word answer) ≤ 11
unfolding verdict_word
words_short Full true = omega arith
words_short Full false = omega arith
words_short Partial true = omega arith
words_short Partial false = omega arith

pub verdict_short : (mode : Mode) (answer : Bool) (rounds kept : ℕ) → length (verdict_line mode answer rounds kept) ≤ 66
unfolding verdict_line
verdict_short mode answer rounds kept =
    simp length-append (omega (arith, words_short mode answer, length-decimal rounds, length-decimal kept))

row_short : (row : ℕ) → length (row_word row) ≤ 20
unfolding row_word
row_short row = go (eqb row 65535) (eqb row 65534)
  where
    go : (a b : Bool) → length (cond a (ascii "idle") (cond b (ascii "none") (decimal row))) ≤ 20
    go true b = omega arith
    go false true = omega arith
    go false false = length-decimal row

pub step_short : (supply task : ℕ) → length (step_line supply task) ≤ 47
unfolding step_line
step_short supply task = simp length-append (omega (arith, row_short supply, row_short task))
