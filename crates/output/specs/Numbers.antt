-- The text of numbers in a line.
use Rattle.std.specs.Prelude.{ℕ, List, [], ◌∷◌, ◌++◌}
use Rattle.std.specs.List.{AllZip}
use Rattle.text.specs.declared.Writer.{Writer}
use Rattle.text.specs.Text.{ascii, decimal}
use Rattle.text.specs.Writing.{Wrote}

-- numbers in decimal, with a space before each
abbrev pub spaced : List ℕ → List ℕ
spaced [] = []
spaced (n ∷ ns) = ascii " " ++ decimal n ++ spaced ns

-- the numbers that elements convert to are written
pub record WroteNumbers {T : Type 0} (Converts : T → ℕ → Type 0) (part : List T) (before after : Writer) : Type 0 where
  pub values : List ℕ
  pub each : AllZip Converts part values
  pub text : Wrote (spaced values) before after
