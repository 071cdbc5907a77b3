-- `task` meets its contract.
use Rattle.std.proofs.Common.{◌≡◌, ◌<◌, List, ◌∷◌, ◌⊎◌, inl, inr, sym, subst, arith}
use mathlib.Core.List.Memᴰ
use mathlib.Core.List.{Memᴰ}
use Rattle.rules.specs.declared.Move.{Move}
use Rattle.machines.specs.Targets.{Low}
use Rattle.machines.proofs.StoredLaws.{low_none}
use Rattle.responses_test.proofs.task.Goals as goal

low_more : (m : Move) (ms : List Move) → m.target < 64 → Low ms → Low (m ∷ ms)
low_more m ms l h = record { low = λ b i. go b (Memᴰ.cases_cons i) }
  where
    go : (b : Move) → (b ≡ m) ⊎ Memᴰ b ms → b.target < 64
    go b (inl e) = subst (λ (x : Move). x.target < 64) (sym e) l
    go b (inr i) = h.low b i

pub returns : goal.returns
returns c =
    low_more _ _ (rw c.new.ensures (omega arith)) (low_more _ _ (rw c.new-2.ensures (omega arith))
    (low_more _ _ (rw c.new-3.ensures (omega arith)) (low_more _ _ (rw c.new-4.ensures (omega arith)) low_none)))
