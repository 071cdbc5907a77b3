-- Numbers in slices of bytes, low byte first. Document 02, L7.
use Rattle.std.specs.Prelude.{ℕ, ◌+◌, ◌*◌, take, drop}
use Rattle.std.specs.Int.{w16, w64, to_le_bytes, from_le_bytes}
use mathlib.Core.List.{List, [], ◌∷◌, flat_map}
use Rattle.rules.specs.Slices.{overwrite}

-- "Marks and steps lie in byte slices there, two bytes each, low byte first": the bytes of 16-bit numbers
abbrev pub word_bytes : List ℕ → List ℕ
word_bytes xs = flat_map (to_le_bytes w16) xs

-- the 16-bit numbers in a slice of bytes; an odd last byte is in none
unfoldable pub words_in : List ℕ → List ℕ
words_in [] = []
words_in (odd ∷ []) = []
words_in (low ∷ high ∷ bytes) = (low + 256 * high) ∷ words_in bytes

-- a slice of bytes with other 16-bit numbers from the first on; "An odd last byte is unchanged"
unfoldable pub with_words : List ℕ → List ℕ → List ℕ
with_words xs bytes = overwrite (word_bytes xs) bytes

-- "three whole numbers of eight bytes there, low byte first": the bytes of 64-bit numbers
abbrev pub number_bytes : List ℕ → List ℕ
number_bytes xs = flat_map (to_le_bytes w64) xs

-- the three numbers in a report
abbrev pub numbers_in : List ℕ → List ℕ
numbers_in report = from_le_bytes w64 (take 8 report) ∷ from_le_bytes w64 (take 8 (drop 8 report)) ∷ from_le_bytes w64 (take 8 (drop 16 report)) ∷ []
