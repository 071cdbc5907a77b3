-- Rows, moves and their numbers, and pairs of states.
use Rattle.std.specs.Prelude.{ℕ, ◌≡◌, Bool, true, ◌&&◌, ◌||◌, ltb, eqb}
use Rattle.rules.specs.declared.Row.{Row}
use Rattle.rules.specs.declared.Move.{Move}
use Rattle.rules.specs.declared.Pair.{Pair}

abbrev pub row : ℕ → ℕ → ℕ → Row
row from target set = record { from = from; target = target; set = set }

abbrev pub move : ℕ → ℕ → ℕ → Move
move number set target = record { row = number; set = set; target = target }

abbrev pub pair : ℕ → ℕ → Pair
pair demand supply = record { demand = demand; supply = supply }

-- 01, 'Tables': FIN has "one move: the empty set, back to FIN. Its idle row has the number 65,535."
abbrev pub idle : Move
idle = move 65535 0 0

-- 01, 'Operations' (Run): what stands for a row where there is none has the number "65,534". The rest of it means nothing.
abbrev pub no_move : Move
no_move = move 65534 0 0

-- a is below b, or they are equal and the rest decides
abbrev pub before : ℕ → ℕ → Bool → Bool
before a b rest = ltb a b || (eqb a b && rest)

-- 01, 'The file': "Rows rise strictly by from, then set, then target."
unfoldable pub rises : Row → Row → Bool
rises a b = before a.from b.from (before a.set b.set (ltb a.target b.target))

abbrev pub RisesTo : Row → Row → Type 0
RisesTo a b = rises a b ≡ true
