-- Text as bytes.
use Rattle.std.specs.Prelude.{ℕ, zero, suc, ◌+◌, ◌-◌, ◌*◌, ◌/◌, ◌%◌, cond, List, [], ◌∷◌, ◌++◌, ltb}
use Prim.Native.Char.{code}
use Prim.Native.String.{String, [] as none, ◌∷◌ as ◌before◌}

-- the bytes of a text in ASCII
abbrev pub ascii : String → List ℕ
ascii none = []
ascii (c before cs) = code c ∷ ascii cs

-- the byte of a digit, 0 to 9
abbrev pub digit : ℕ → ℕ
digit d = 48 + d

-- the digits of a number in decimal, the last k at most
unfoldable pub digits_in : ℕ → ℕ → List ℕ
digits_in zero n = []
digits_in (suc k) n = cond (ltb n 10) (digit n ∷ []) (digits_in k (n / 10) ++ (digit (n % 10) ∷ []))

-- a number of 64 bits in decimal, without leading zeros; 20 digits hold every such number
unfoldable pub decimal : ℕ → List ℕ
decimal n = digits_in 20 n

-- the byte of a hexadecimal digit: 0 to 9, then the capitals from A, which is 65
abbrev pub hex_digit : ℕ → ℕ
hex_digit d = cond (ltb d 10) (digit d) (55 + d)

-- "four hexadecimal digits, capitals" (document 02, L1), of a number of 16 bits, the highest digit first
unfoldable pub hex : ℕ → List ℕ
hex n = hex_digit (n / 4096) ∷ hex_digit (n / 256 % 16) ∷ hex_digit (n / 16 % 16) ∷ hex_digit (n % 16) ∷ []

-- the digit, decimal or hexadecimal, that a byte stands for
abbrev pub digit_of : ℕ → ℕ
digit_of b = cond (ltb b 65) (b - 48) (b - 55)

-- the number that digits hold in a base, behind digits that hold v
unfoldable pub read_from : ℕ → ℕ → List ℕ → ℕ
read_from base v [] = v
read_from base v (b ∷ bs) = read_from base (base * v + digit_of b) bs
