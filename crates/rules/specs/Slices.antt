-- What a lent slice holds after a call.
use Rattle.std.specs.Prelude.{ℕ, suc, List, [], ◌∷◌, ◌++◌, length, drop, set}

-- the numbers of a list written one after the other, from an entry on
unfoldable pub write_at : ℕ → List ℕ → List ℕ → List ℕ
write_at at [] l = l
write_at at (x ∷ xs) l = write_at (suc at) xs (set l at x)

-- the numbers of a list written from the first entry on; "the rest of the slice unchanged"
unfoldable pub overwrite : List ℕ → List ℕ → List ℕ
overwrite xs l = xs ++ drop (length xs) l
