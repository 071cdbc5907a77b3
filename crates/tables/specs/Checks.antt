-- Checks made one after the other: the first number that applies is the answer.
use Rattle.std.specs.Prelude.{ℕ, zero, suc, Bool, true, false, Result, Ok, Err}
use Rattle.tables.specs.declared.Refusal.{Refusal}
use Rattle.tables.specs.declared.Reason.{Reason}

-- what a check finds: nothing that turns a call back, or why it is turned back
abbrev pub Checked : Type 0
Checked = Result (Unit {0}) Refusal

abbrev pub refuse : Reason → ℕ → Refusal
refuse r p = record { reason = r; place = p }

-- a reason at place p applies where the test passes
unfoldable pub fault : Bool → Reason → ℕ → Checked
fault true r p = Err (refuse r p)
fault false r p = Ok tt

infixr 20 ◌then◌
-- the first check's fault, or else what the second finds
unfoldable pub ◌then◌ : Checked → Checked → Checked
(Ok u) then c = c
(Err r) then c = Err r

-- the checks f 0, f 1, .., f (n - 1), in this order
unfoldable pub scan : (ℕ → Checked) → ℕ → Checked
scan f zero = Ok tt
scan f (suc n) = scan f n then f n
