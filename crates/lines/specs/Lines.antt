-- The lines that the program prints. Document 01, 'The program'. "Each line ends in one line feed."
use Rattle.std.specs.Prelude.{ℕ, Bool, cond, List, [], ◌∷◌, ◌++◌, eqb}
use Prim.Native.String.{String}
use Rattle.rules.specs.declared.Mode.{Mode}
use Rattle.rules.specs.declared.Mode.TheVariants.{Full, Partial}
use Rattle.text.specs.Text.{ascii, decimal}

-- words and a number
abbrev pub field : String → ℕ → List ℕ
field words n = ascii words ++ decimal n

-- "the line `refused N at P`"
unfoldable pub refused_line : ℕ → ℕ → List ℕ
refused_line number place = field "refused " number ++ field " at " place ++ ascii "\n"

-- "Fields: input bytes and k"
unfoldable pub file_line : ℕ → ℕ → List ℕ
file_line bytes k = field "slots " bytes ++ field " bytes " k ++ ascii " tables\n"

-- "table numbers; states"
unfoldable pub start_line : ℕ → ℕ → ℕ → ℕ → List ℕ
start_line demand supply t s = field "demand " demand ++ field " supply " supply ++ field " start " t ++ field " " s ++ ascii "\n"

-- the line of a mode begins with its name
abbrev pub mode_word : Mode → List ℕ
mode_word Full = ascii "full "
mode_word Partial = ascii "partial "

-- the verdict, `yes` or `no`
unfoldable pub verdict_word : Bool → List ℕ
verdict_word answer = cond answer (ascii "yes") (ascii "no")

-- "each mode's verdict, rounds and kept count"
unfoldable pub verdict_line : Mode → Bool → ℕ → ℕ → List ℕ
verdict_line mode answer rounds kept = mode_word mode ++ verdict_word answer ++ field " rounds " rounds ++ field " kept " kept ++ ascii "\n"

-- "with `idle` for 65,535 and `none` for 65,534"
unfoldable pub row_word : ℕ → List ℕ
row_word row = cond (eqb row 65535) (ascii "idle") (cond (eqb row 65534) (ascii "none") (decimal row))

-- "supply row, task row"
unfoldable pub step_line : ℕ → ℕ → List ℕ
step_line supply task = ascii "step " ++ row_word supply ++ ascii " " ++ row_word task ++ ascii "\n"

-- the lines of steps: supply row and task row of each
abbrev pub step_lines : List ℕ → List ℕ
step_lines [] = []
step_lines (supply ∷ []) = []
step_lines (supply ∷ task ∷ rest) = step_line supply task ++ step_lines rest
