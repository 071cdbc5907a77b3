-- The lines of a run: step by step, and of its slots.
use Rattle.std.proofs.Common.{ℕ, ◌≡◌, ◌<◌, List, [], ◌∷◌, ◌++◌, length, get_or, refl, ap, arith}
use mathlib.Core.List.{flat_map}
use Rattle.rules.specs.declared.Candidate.{Candidate}
use Rattle.rules.specs.Steps.{step_rows}
use Rattle.lines.specs.Lines.{step_line, step_lines}

-- a step, and those behind it
pub next_step : (l step rest : List ℕ) → l ≡ step ++ rest → length step ≡ 2
    → step_lines l ≡ step_line (get_or step 0 0) (get_or step 1 0) ++ step_lines rest
next_step l [] rest e h = absurd (omega arith)
next_step l (a ∷ []) rest e h = absurd (omega arith)
next_step l (a ∷ b ∷ []) rest e h = ap step_lines e
next_step l (a ∷ b ∷ x ∷ xs) rest e h = absurd (omega arith)

-- fewer than two numbers are no step
pub no_step : (l : List ℕ) (n : ℕ) → length l < n → n ≡ 2 → step_lines l ≡ []
no_step [] n h e = refl
no_step (a ∷ []) n h e = refl
no_step (a ∷ b ∷ l) n h e = absurd (omega arith)

-- the steps of a run as its slots give them
pub slots_lines : (cs : List Candidate) → step_lines (flat_map step_rows cs) ≡ flat_map (λ c. step_line c.supply.row c.task.row) cs
unfolding flat_map
slots_lines [] = refl
slots_lines (c ∷ cs) = ap (λ (l : List ℕ). step_line c.supply.row c.task.row ++ l) (slots_lines cs)
