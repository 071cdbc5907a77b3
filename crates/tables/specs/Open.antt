-- Open: the numbers 1 to 10, in the order in which they are looked for, each with its place.
-- Document 01, 'Operations': "The place is the offset of the field at fault, for 10 of the row, for 1 and 7 the file's length, for 2 zero."
use Rattle.std.specs.Prelude.{ℕ, ◌+◌, ◌-◌, List, [], ◌∷◌, Bool, not, ◌||◌, length, ltb, leb, eqb}
use Rattle.rules.specs.Rows.{rises}
use Rattle.rules.specs.declared.Row.{Row}
use Rattle.tables.specs.declared.reads.Entry.{Entry}
use Rattle.tables.specs.Checks.{Checked, fault, ◌then◌, scan}
use Rattle.tables.specs.Answers.{Answer, answer}
use Rattle.tables.specs.File.{tables_of, entry_place, entry_of, end_before, body_of, row_place, row_of}
use Rattle.tables.specs.declared.Reason.TheVariants.{Short, TableCount, Kind, StateCount, RowCount, Offset, Length, From, Target, Order}

-- x is below low or above high
unfoldable pub outside : ℕ → ℕ → ℕ → Bool
outside low high x = ltb x low || ltb high x

-- "1: under 2 bytes. 2: k is 0 or above 16. 1: under 2 + 6 × k bytes."
unfoldable pub header_fault : List ℕ → Checked
header_fault s =
    fault (ltb (length s) 2) Short (length s)
    then fault (outside 1 16 (tables_of s)) TableCount 0
    then fault (ltb (length s) (entry_place (tables_of s))) Short (length s)

-- "3 kind not 1 or 2, 4 n is 0 or above 64, 5 m above 512, 6 offset not the end of what precedes": an entry at a place, after an end
abbrev pub entry_checks : Entry → ℕ → ℕ → Checked
entry_checks e place end =
    fault (outside 1 2 e.kind) Kind place
    then fault (outside 1 64 e.states) StateCount (place + 1)
    then fault (ltb 512 e.rows) RowCount (place + 2)
    then fault (not (eqb e.offset end)) Offset (place + 4)

unfoldable pub entry_fault : List ℕ → ℕ → Checked
entry_fault s i = entry_checks (entry_of s i) (entry_place i) (end_before s i)

-- "7: length wrong": "The length is 2 + 6 × k + 4 × the sum of all m"
unfoldable pub length_fault : List ℕ → Checked
length_fault s = fault (not (eqb (length s) (end_before s (tables_of s)))) Length (length s)

-- "8 from is 0 or not below n, 9 target not below n, 10 not above the row before it": a row at a place
abbrev pub row_checks : Row → ℕ → Bool → ℕ → Checked
row_checks r n above place =
    fault (eqb r.from 0 || leb n r.from) From place
    then fault (leb n r.target) Target (place + 1)
    then fault (not above) Order place

-- row j is the first of its body, or above "the row before it in the same body"
abbrev pub is_above : List ℕ → ℕ → Bool
is_above body j = eqb j 0 || rises (row_of body (j - 1)) (row_of body j)

-- row j of a body that starts at a place of the file, in a table of n states
unfoldable pub row_fault : List ℕ → ℕ → ℕ → ℕ → Checked
row_fault body n start j = row_checks (row_of body j) n (is_above body j) (start + row_place j)

-- "row by row"
unfoldable pub body_fault : List ℕ → ℕ → Checked
body_fault s i = scan (row_fault (body_of s i) (entry_of s i).states (entry_of s i).offset) (entry_of s i).rows

-- the header, "Then per entry", "Then 7", "Then body by body"
unfoldable pub file_fault : List ℕ → Checked
file_fault s =
    header_fault s
    then scan (entry_fault s) (tables_of s)
    then length_fault s
    then scan (body_fault s) (tables_of s)

-- "An accepted file gives k."
unfoldable pub open_of : List ℕ → Answer
open_of s = answer (file_fault s) (tables_of s ∷ [])
