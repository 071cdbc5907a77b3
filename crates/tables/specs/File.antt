-- The fields of a file of tables. Document 01, 'The file'.
use Rattle.std.specs.Prelude.{ℕ, zero, suc, ◌+◌, ◌*◌, ◌/◌, ◌%◌, get_or, take, drop}
use mathlib.Core.List.{List, [], ◌∷◌, flat_map}
use Rattle.rules.specs.Rows.{row}
use Rattle.rules.specs.declared.Row.{Row}
use Rattle.tables.specs.declared.reads.Entry.{Entry}

-- a byte; 0 past the end
abbrev pub byte_at : List ℕ → ℕ → ℕ
byte_at s at = get_or s at 0

-- "Numbers are little-endian."
unfoldable pub word_at : List ℕ → ℕ → ℕ
word_at s at = byte_at s at + 256 * byte_at s (at + 1)

-- "Two bytes hold k, the count of tables"
abbrev pub tables_of : List ℕ → ℕ
tables_of s = word_at s 0

-- "Then k contents entries of 6 bytes": where entry i starts; entry k would start where the contents end, at 2 + 6 × k
abbrev pub entry_place : ℕ → ℕ
entry_place i = 2 + 6 * i

-- "kind (1 demand, 2 supply), n (one byte), m (two bytes), offset of the body (two bytes)"
unfoldable pub entry_of : List ℕ → ℕ → Entry
entry_of s i =
    record {
      kind = byte_at s (entry_place i);
      states = byte_at s (entry_place i + 1);
      rows = word_at s (entry_place i + 2);
      offset = word_at s (entry_place i + 4);
    }

-- "A body row is 4 bytes"
unfoldable pub body_length : Entry → ℕ
body_length e = 4 * e.rows

-- "Then the bodies, back to back in entry order, the first at 2 + 6 × k": the end of what precedes the body of table i
unfoldable pub end_before : List ℕ → ℕ → ℕ
end_before s zero = entry_place (tables_of s)
end_before s (suc i) = end_before s i + body_length (entry_of s i)

-- the bytes of the body of table i
unfoldable pub body_of : List ℕ → ℕ → List ℕ
body_of s i = take (body_length (entry_of s i)) (drop (entry_of s i).offset s)

-- where row j of a body starts in it
abbrev pub row_place : ℕ → ℕ
row_place j = 4 * j

-- "from, target, set (two bytes)": row j of a body
unfoldable pub row_of : List ℕ → ℕ → Row
row_of body j = row (byte_at body (row_place j)) (byte_at body (row_place j + 1)) (word_at body (row_place j + 2))

-- the four bytes of a row, which `row_of` reads back
unfoldable pub row_bytes : Row → List ℕ
row_bytes r = r.from ∷ r.target ∷ r.set % 256 ∷ r.set / 256 ∷ []

-- rows in "body form"
abbrev pub body_bytes : List Row → List ℕ
body_bytes rows = flat_map row_bytes rows
