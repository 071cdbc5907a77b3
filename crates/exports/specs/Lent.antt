-- Slices of bytes that are lent for marks or steps.
use Rattle.std.specs.Prelude.{List, ℕ, ◌≡◌, ◌<◌, get_or}
use Rattle.exports.specs.Bytes.{words_in, with_words}

-- a slice of bytes after a call that leaves these 16-bit numbers in it: its bytes, and the numbers, read back
pub record Holds (xs before after : List ℕ) : Type 0 where
  pub bytes : after ≡ with_words xs before
  pub words : words_in after ≡ xs

-- the bound of a type, of each number of a list
abbrev pub AllBelow : ℕ → List ℕ → Type 0
AllBelow n xs = (i : ℕ) → get_or xs i 0 < n
