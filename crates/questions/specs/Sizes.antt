-- Two tables of one kind that are to be made one: two demands are joined, two supplies merged. Document 01, 'Operations and what they turn back', and
-- document 02, L9: "Answers: as Join's, with both kinds 2."
use Rattle.std.specs.Prelude.{ℕ, ◌*◌, List, ltb}
use Rattle.tables.specs.Checks.{Checked, fault, ◌then◌}
use Rattle.tables.specs.Tables.{table_of}
use Rattle.tables.specs.declared.kinds.Kind.{Kind}
use Rattle.tables.specs.declared.Reason.TheVariants.{TooManyStates}
use Rattle.questions.specs.Named.{named_checks, as_kind}

-- "Two demand tables, perhaps the same one. After Open's: 11, 12, first then second; 16 if the product of the two n is above 64"
unfoldable pub size_checks : Kind → List ℕ → ℕ → ℕ → Checked
size_checks kind s i j = named_checks s (as_kind kind i) (as_kind kind j) then fault (ltb 64 ((table_of s i).n * (table_of s j).n)) TooManyStates 0
