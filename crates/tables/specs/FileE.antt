-- The file of the worked examples.
use Rattle.std.specs.Prelude.{ℕ}
use mathlib.Core.List.{List, [], ◌∷◌, ◌++◌}

-- document 01's E: its demand is table 0, its supply table 1
unfoldable pub file_e : List ℕ
file_e =
    (2 ∷ 0 ∷ [])
    ++ (1 ∷ 4 ∷ 4 ∷ 0 ∷ 14 ∷ 0 ∷ [])
    ++ (2 ∷ 3 ∷ 2 ∷ 0 ∷ 30 ∷ 0 ∷ [])
    ++ (1 ∷ 2 ∷ 1 ∷ 0 ∷ 1 ∷ 3 ∷ 2 ∷ 0 ∷ 2 ∷ 0 ∷ 1 ∷ 0 ∷ 3 ∷ 0 ∷ 2 ∷ 0 ∷ [])
    ++ (1 ∷ 2 ∷ 3 ∷ 0 ∷ 2 ∷ 0 ∷ 1 ∷ 0 ∷ [])
