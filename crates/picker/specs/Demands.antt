-- What a call of the picker that is carried out shows, of its answer and of the lent bytes at exit.
use Rattle.std.specs.Prelude.{ℕ, ◌*◌, ◌≤◌, ◌<◌, ◌≡◌, Bool, ◌↔◌, T, length, take}
use mathlib.Core.List.{List, [], ◌∷◌, Memᴰ}
use Rattle.rules.specs.Lists.{Pairwise}
use Rattle.rules.specs.Relations.{Passing, Meets}
use Rattle.tables.specs.Answers.{Answer, carried_out}
use Rattle.tables.specs.declared.kinds.Kind.TheVariants.{Supply}
use Rattle.tables.specs.Kinds.{code_of}
use Rattle.tables.specs.File.{tables_of, entry_of}
use Rattle.questions.specs.declared.Question.{Question}
use Rattle.questions.specs.Pairs.{demand_of, supply_of}
use Rattle.questions.specs.Modes.{mode_of}
use Rattle.questions.specs.Starts.{from_starts}
use Rattle.checker.specs.Decide.{decide_answer}

-- table i is a supply table of the file
abbrev pub IsSupply : List ℕ → ℕ → Type 0
IsSupply s i = (i < tables_of s) × ((entry_of s i).kind ≡ code_of Supply)

-- Decide says yes, whatever is lent to it that is room for the marks
pub record SaysYes (s : List ℕ) (q : Question) (mode : ℕ) : Type 0 where
  pub kept : ℕ
  pub rounds : ℕ
  pub answers : (room : ℕ) → (demand_of s q).n * (supply_of s q).n ≤ room → decide_answer s q mode room ≡ carried_out (1 ∷ kept ∷ rounds ∷ [])

-- some set that meets the definition holds the pair that is asked about
pub record InSomeSet (s : List ℕ) (q : Question) (mode : ℕ) : Type 0 where
  pub R : ℕ → ℕ → Bool
  pub meets : Meets (mode_of mode) (demand_of s q) (supply_of s q) (Passing R)
  pub holds : T (R q.demand.state q.supply.state)

-- what is listed
pub record IsPicked (s : List ℕ) (demand mode standing : ℕ) (numbers : List ℕ) : Type 0 where
  -- "the number of every supply table that gets a yes, and no other"
  pub says_yes : (i : ℕ) → Memᴰ i numbers ↔ (IsSupply s i × SaysYes s (from_starts s demand i standing) mode)
  -- the same by the third demand: of every supply table for which some set that meets the definition holds the pair of the starts
  pub some_set : (i : ℕ) → Memᴰ i numbers ↔ (IsSupply s i × InSomeSet s (from_starts s demand i standing) mode)
  -- "each once, rising"
  pub rising : Pairwise ◌<◌ numbers

-- what a call that is carried out shows
pub record PickDemands (file : List ℕ) (demand mode standing : ℕ) (a : Answer) (bytes : List ℕ) : Type 0 where
  -- the lent bytes have room for the numbers
  pub room : (count : ℕ) → a ≡ carried_out (count ∷ []) → count ≤ length bytes
  -- and begin with them
  pub listed : (count : ℕ) → a ≡ carried_out (count ∷ []) → IsPicked file demand mode standing (take count bytes)
