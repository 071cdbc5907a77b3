-- Worked examples, by hand: numbers in bytes, and the calls on document 01's E, whose demand is table 0 and whose supply is table 1. What is lent has a 9 in
-- every byte.
use Rattle.std.specs.Prelude.{ℕ, ◌≡◌, take, replicate}
use mathlib.Core.List.{List, [], ◌∷◌, ◌++◌}
use Rattle.tables.specs.FileE.{file_e}
use Rattle.tables.specs.Open.{open_of}
use Rattle.questions.specs.declared.Question.{Question}
use Rattle.exports.specs.Bytes.{words_in, with_words, number_bytes, numbers_in}
use Rattle.exports.specs.Calls.{asked, returned, reported, written, decide_lent, decide_lent_marks, run_lent, run_lent_marks, run_lent_steps}

-- 258 is 2 + 256 × 1, and 65,534 is 254 + 256 × 255; the fifth byte is in no number. 2 ^ 24 has its 1 in the fourth of eight bytes, 2 ^ 56 in the last
unfoldable pub ExampleBytes : Type 0
ExampleBytes =
    (words_in (2 ∷ 1 ∷ 254 ∷ 255 ∷ 7 ∷ []) ≡ 258 ∷ 65534 ∷ [])
    × ((with_words (258 ∷ 65534 ∷ []) (9 ∷ 9 ∷ 9 ∷ 9 ∷ 8 ∷ 7 ∷ 6 ∷ []) ≡ 2 ∷ 1 ∷ 254 ∷ 255 ∷ 8 ∷ 7 ∷ 6 ∷ [])
    × ((number_bytes (258 ∷ 16777216 ∷ 72057594037927936 ∷ [])
    ≡ 2 ∷ 1 ∷ 0 ∷ 0 ∷ 0 ∷ 0 ∷ 0 ∷ 0 ∷ 0 ∷ 0 ∷ 0 ∷ 1 ∷ 0 ∷ 0 ∷ 0 ∷ 0 ∷ 0 ∷ 0 ∷ 0 ∷ 0 ∷ 0 ∷ 0 ∷ 0 ∷ 1 ∷ [])
    × (numbers_in (2 ∷ 1 ∷ 0 ∷ 0 ∷ 0 ∷ 0 ∷ 0 ∷ 0 ∷ 0 ∷ 0 ∷ 0 ∷ 1 ∷ 0 ∷ 0 ∷ 0 ∷ 0 ∷ 0 ∷ 0 ∷ 0 ∷ 0 ∷ 0 ∷ 0 ∷ 0 ∷ 1 ∷ 9 ∷ [])
    ≡ 258 ∷ 16777216 ∷ 72057594037927936 ∷ [])))

-- three numbers below 256, as a report
abbrev pub three : ℕ → ℕ → ℕ → List ℕ
three x y z = x ∷ 0 ∷ 0 ∷ 0 ∷ 0 ∷ 0 ∷ 0 ∷ 0 ∷ y ∷ 0 ∷ 0 ∷ 0 ∷ 0 ∷ 0 ∷ 0 ∷ 0 ∷ z ∷ 0 ∷ 0 ∷ 0 ∷ 0 ∷ 0 ∷ 0 ∷ 0 ∷ []

abbrev pub nines : ℕ → List ℕ
nines n = replicate n 9

-- the demand from state 1 beside the supply from state 1, with nothing standing
abbrev pub from_one : Question
from_one = asked 0 1 1 1 0

-- the marks of E in full mode, row by row of document 01, as bytes
abbrev pub marks_e : List ℕ
marks_e = 0 ∷ 0 ∷ 0 ∷ 0 ∷ 0 ∷ 0 ∷ 1 ∷ 0 ∷ 2 ∷ 0 ∷ 2 ∷ 0 ∷ 1 ∷ 0 ∷ 0 ∷ 0 ∷ 0 ∷ 0 ∷ 1 ∷ 0 ∷ 0 ∷ 0 ∷ 1 ∷ 0 ∷ []

-- E has two tables; cut to 37 bytes it has the wrong length
unfoldable pub ExampleOpen : Type 0
ExampleOpen =
    ((returned (open_of file_e) (nines 25) ≡ 0) × (reported (open_of file_e) (nines 25) ≡ three 2 0 0 ++ 9 ∷ []))
    × ((returned (open_of (take 37 file_e)) (nines 25) ≡ 7) × (reported (open_of (take 37 file_e)) (nines 25) ≡ three 37 0 0 ++ 9 ∷ []))

-- with a report of 23 bytes 14 comes before the 7 of the file, and where the call would else be carried out; nothing is written
unfoldable pub ExampleShort : Type 0
ExampleShort =
    ((returned (open_of (take 37 file_e)) (nines 23) ≡ 14) × (reported (open_of (take 37 file_e)) (nines 23) ≡ nines 23))
    × (((returned (decide_lent file_e from_one 0 (nines 24)) (nines 23) ≡ 14) × (reported (decide_lent file_e from_one 0 (nines 24)) (nines 23) ≡ nines 23))
    × ((written (nines 23) (decide_lent_marks file_e from_one 0 (nines 24)) (nines 24) ≡ nines 24)
    × (written (nines 23) (run_lent_steps file_e from_one 0 (nines 24) (nines 48)) (nines 48) ≡ nines 48)))

-- full mode strikes six of the twelve pairs, (1, 1) among them in round 2, and partial mode keeps (1, 1); 25 bytes have 12 entries and an odd byte, 23 have 11
unfoldable pub ExampleDecide : Type 0
ExampleDecide =
    ((returned (decide_lent file_e from_one 0 (nines 25)) (nines 24) ≡ 0)
    × ((reported (decide_lent file_e from_one 0 (nines 25)) (nines 24) ≡ three 0 6 2)
    × (written (nines 24) (decide_lent_marks file_e from_one 0 (nines 25)) (nines 25) ≡ marks_e ++ 9 ∷ [])))
    × ((reported (decide_lent file_e from_one 1 (nines 25)) (nines 24) ≡ three 1 7 2)
    × ((returned (decide_lent file_e from_one 0 (nines 23)) (nines 24) ≡ 14)
    × ((reported (decide_lent file_e from_one 0 (nines 23)) (nines 24) ≡ three 0 0 0)
    × (written (nines 24) (decide_lent_marks file_e from_one 0 (nines 23)) (nines 23) ≡ nines 23))))

-- the demand's state comes before the supply's: (1, 2) is struck and (2, 1) kept; with {1} standing (1, 1) is kept; table 2 is not there
unfoldable pub ExampleAsked : Type 0
ExampleAsked =
    (reported (decide_lent file_e (asked 0 1 1 2 0) 0 (nines 24)) (nines 24) ≡ three 0 6 2)
    × ((reported (decide_lent file_e (asked 0 1 2 1 0) 0 (nines 24)) (nines 24) ≡ three 1 6 2)
    × ((reported (decide_lent file_e (asked 0 1 1 1 2) 0 (nines 24)) (nines 24) ≡ three 1 10 2)
    × ((returned (decide_lent file_e (asked 2 1 1 1 0) 0 (nines 24)) (nines 24) ≡ 11)
    × (reported (decide_lent file_e (asked 2 1 1 1 0) 0 (nines 24)) (nines 24) ≡ three 0 0 0))))

-- the run that shows the no is row 0 with row 1, then row 1 with none; a yes has no step
unfoldable pub ExampleRun : Type 0
ExampleRun =
    ((returned (run_lent file_e from_one 0 (nines 24) (nines 49)) (nines 24) ≡ 0)
    × ((reported (run_lent file_e from_one 0 (nines 24) (nines 49)) (nines 24) ≡ three 2 0 0)
    × ((written (nines 24) (run_lent_marks file_e from_one 0 (nines 24) (nines 49)) (nines 24) ≡ marks_e)
    × (written (nines 24) (run_lent_steps file_e from_one 0 (nines 24) (nines 49)) (nines 49) ≡ 0 ∷ 0 ∷ 1 ∷ 0 ∷ 1 ∷ 0 ∷ 254 ∷ 255 ∷ nines 41))))
    × ((reported (run_lent file_e from_one 1 (nines 24) (nines 48)) (nines 24) ≡ three 0 0 0)
    × (written (nines 24) (run_lent_steps file_e from_one 1 (nines 24) (nines 48)) (nines 48) ≡ nines 48))

-- the steps need 24 entries; with 23 nothing but the report is written
unfoldable pub ExampleRefused : Type 0
ExampleRefused =
    (returned (run_lent file_e from_one 0 (nines 24) (nines 47)) (nines 24) ≡ 14)
    × ((reported (run_lent file_e from_one 0 (nines 24) (nines 47)) (nines 24) ≡ three 0 0 0)
    × ((written (nines 24) (run_lent_marks file_e from_one 0 (nines 24) (nines 47)) (nines 24) ≡ nines 24)
    × (written (nines 24) (run_lent_steps file_e from_one 0 (nines 24) (nines 47)) (nines 47) ≡ nines 47)))
