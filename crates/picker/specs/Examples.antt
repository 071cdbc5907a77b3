-- Worked examples, by hand: what is listed for two files.
use Rattle.std.specs.Prelude.{ℕ, ◌≡◌}
use mathlib.Core.List.{List, [], ◌∷◌, ◌++◌}
use Rattle.tables.specs.FileE.{file_e}
use Rattle.picker.specs.Pick.{picked}

-- partial mode lists what full mode does not: one of the choices leads to a request for {1} that supply state 2 leaves unmet, and with {1} standing it does not
unfoldable pub ExampleE : Type 0
ExampleE = (picked file_e 0 0 0 ≡ []) × ((picked file_e 0 1 0 ≡ 1 ∷ []) × (picked file_e 0 0 2 ≡ 1 ∷ []))

-- three supplies and two demands: supply 0 is FIN only; demand 1 asks for {0} in every slot; supply 2 grants it; demand 3 is FIN only; supply 4 grants {1}
unfoldable pub panel : List ℕ
panel =
    (5 ∷ 0 ∷ [])
    ++ (2 ∷ 1 ∷ 0 ∷ 0 ∷ 32 ∷ 0 ∷ [])
    ++ (1 ∷ 2 ∷ 1 ∷ 0 ∷ 32 ∷ 0 ∷ [])
    ++ (2 ∷ 2 ∷ 1 ∷ 0 ∷ 36 ∷ 0 ∷ [])
    ++ (1 ∷ 1 ∷ 0 ∷ 0 ∷ 40 ∷ 0 ∷ [])
    ++ (2 ∷ 2 ∷ 1 ∷ 0 ∷ 40 ∷ 0 ∷ [])
    ++ (1 ∷ 1 ∷ 1 ∷ 0 ∷ [])
    ++ (1 ∷ 1 ∷ 1 ∷ 0 ∷ [])
    ++ (1 ∷ 1 ∷ 2 ∷ 0 ∷ [])

-- numbers are those in the file, demands counted; with {0} standing every supply grants what demand 1 asks for, FIN too; demand 3 starts at FIN, which asks for
-- nothing
unfoldable pub ExamplePanel : Type 0
ExamplePanel =
    (picked panel 1 0 0 ≡ 2 ∷ [])
    × ((picked panel 1 0 1 ≡ 0 ∷ 2 ∷ 4 ∷ []) × ((picked panel 3 0 0 ≡ 0 ∷ 2 ∷ 4 ∷ []) × (picked panel 2 0 0 ≡ [])))
