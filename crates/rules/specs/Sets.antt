-- Sets of resources, of any width.
-- Document 01, 'Tables': "A set is 16 bits, resource r being the bit worth 2 to the power r." Here a set is any number; the sets of
-- 16 bits are the numbers below 2 ^ 16.
use Rattle.std.specs.Prelude.{ℕ, ◌-◌, ◌/◌, ◌%◌, ◌^◌, Bool, not, ◌&&◌, List, eqb}
use Rattle.std.specs.Int.Bits.{bit_and, bit_or}
use Rattle.rules.specs.Lists.{any}

-- resource r is in the set a
unfoldable pub has : ℕ → ℕ → Bool
has r a = eqb (a / 2 ^ r % 2) 1

-- the resources that are in both
unfoldable pub intersection : ℕ → ℕ → ℕ
intersection a b = bit_and a b

-- the resources that are in one or in both
unfoldable pub union : ℕ → ℕ → ℕ
union a b = bit_or a b

-- the resources of a that are not in b
unfoldable pub difference : ℕ → ℕ → ℕ
difference a b = a - bit_and a b

-- 01, 'Operations' (Join): two sets "share no resource"
unfoldable pub disjoint : ℕ → ℕ → Bool
disjoint a b = eqb (intersection a b) 0

-- 01, 'Moves': "left = G without B, consumed = B and G, unmet = B without G", of a requested set B and a granted set G
abbrev pub left : ℕ → ℕ → ℕ
left B G = difference G B

abbrev pub consumed : ℕ → ℕ → ℕ
consumed B G = intersection B G

abbrev pub unmet : ℕ → ℕ → ℕ
unmet B G = difference B G

-- every resource of a is in b
unfoldable pub inside : ℕ → ℕ → Bool
inside a b = eqb (bit_and a b) a

-- 02, L4: two sets "share a resource outside that set", the set of common resources
unfoldable pub shares_outside : ℕ → ℕ → ℕ → Bool
shares_outside common a b = not (inside (intersection a b) common)

-- 01, 'Moves': a is "strictly larger" than b, "by inclusion"
unfoldable pub larger : ℕ → ℕ → Bool
larger a b = inside b a && not (eqb a b)

-- 01, 'Moves': a response to G "is maximal if no other response to G has a strictly larger set". Here B is inside G, and none of the
-- sets that are inside G is strictly larger. B is meant to be one of the sets.
unfoldable pub maximal : List ℕ → ℕ → ℕ → Bool
maximal sets G B = inside B G && not (any (λ C. inside C G && larger C B) sets)
