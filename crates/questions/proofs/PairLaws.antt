-- Laws of questions about a pair that nothing turns back: the two tables, and their machines, of which the supply is widened. Relies on what Open
-- guarantees and on the laws of standing sets.
use Prim.Native.Nat.{ℕ, ◌+◌, ◌*◌, ◌≤◌, ◌<◌}
use mathlib.Core.Path.{◌≡◌, ap, ap₂, ◌∙◌}
use mathlib.Core.List.{List}
use native.Mathlib.Nat.{mul-le-mul}
use native.Mathlib.Omega.{arith}
use lib.ListN.{length}
use borrow.Author.Tests.{leb-false}
use Rattle.rules.specs.Machines.{Machine, Sound, Rises, widen}
use Rattle.rules.proofs.MachineLaws.{moves_rise}
use Rattle.rules.proofs.WideningLaws.{widen_sound, widen_rises, widen_none}
use Rattle.tables.specs.File.{tables_of, entry_of, body_length, body_of}
use Rattle.tables.specs.Accepted.{TableBody, Accepted}
use Rattle.tables.specs.Tables.{table_of, machine_of}
use Rattle.tables.proofs.CheckLaws.{fault_passed, then_left, then_right}
use Rattle.tables.proofs.AcceptedLaws.{passed_accepted, accepted_laid}
use Rattle.tables.proofs.TableLaws.{body_sound}
use Rattle.std.proofs.Common.{Ok}
use Rattle.machines.specs.declared.machine.Machine.{Machine as Memory}
use Rattle.machines.specs.Machine.{machine_in}
use Rattle.machines.specs.Stored.{HasTable}
use Rattle.questions.specs.declared.Loaded.{Loaded}
use Rattle.questions.specs.declared.Question.{Question}
use Rattle.questions.specs.declared.named.Named.{Named}
use Rattle.questions.specs.Named.{named_checks, as_demand, as_supply}
use Rattle.questions.proofs.NamedLaws.{IsThere, first_there, second_there}
use Rattle.questions.specs.Pairs.{pair_checks, demand_of, supply_of, PairLoaded}

-- ---- a table that was asked about

-- table i is in the file, and q is one of its states
pub record TableAt (s : List ℕ) (i q : ℕ) : Type 0 where
  pub within : (entry_of s i).offset + body_length (entry_of s i) ≤ length s
  pub table : TableBody (entry_of s i).states (entry_of s i).rows (body_of s i)
  pub state : q < (table_of s i).n

pub table_at : (s : List ℕ) (x : Named) (q : ℕ) → IsThere s x → q < (table_of s x.table).n → TableAt s x.table q
table_at s x q there h =
    let a : Accepted s (tables_of s) = passed_accepted s there.accepted in
    record { within = (accepted_laid s (tables_of s) a).within x.table there.below; table = a.table x.table there.below; state = h }

pub table_at_sound : (s : List ℕ) (i q : ℕ) → TableAt s i q → Sound (machine_of s i)
table_at_sound s i q t = body_sound (entry_of s i).states (entry_of s i).rows (body_of s i) t.table

module _ (s : List ℕ) (q : Question) (a : pair_checks s q ≡ Ok tt) where
  pub tables_named : named_checks s (as_demand q.demand.table) (as_supply q.supply.table) ≡ Ok tt
  unfolding pair_checks
  tables_named = then_left _ _ a

  pub asked_demand : TableAt s q.demand.table q.demand.state
  unfolding pair_checks
  asked_demand =
      table_at s (as_demand q.demand.table) q.demand.state (first_there s _ _ tables_named)
      (leb-false _ _ (fault_passed _ _ _ (then_left _ _ (then_right _ _ a))))

  pub asked_supply : TableAt s q.supply.table q.supply.state
  unfolding pair_checks
  asked_supply =
      table_at s (as_supply q.supply.table) q.supply.state (second_there s _ _ tables_named)
      (leb-false _ _ (fault_passed _ _ _ (then_right _ _ (then_right _ _ a))))

  -- no table has more than 64 states
  pub few_pairs : (demand_of s q).n * (supply_of s q).n ≤ 4096
  few_pairs = mul-le-mul asked_demand.table.few_states asked_supply.table.few_states

  -- ---- the two machines

  pub demand_sound : Sound (demand_of s q)
  demand_sound = table_at_sound s q.demand.table q.demand.state asked_demand

  pub supply_sound : Sound (supply_of s q)
  supply_sound = widen_sound q.standing (machine_of s q.supply.table) (table_at_sound s q.supply.table q.supply.state asked_supply)

module _ (s : List ℕ) (q : Question) where
  pub demand_rises : Rises (demand_of s q)
  demand_rises = moves_rise (table_of s q.demand.table).rows

  pub supply_rises : Rises (supply_of s q)
  supply_rises = widen_rises q.standing (machine_of s q.supply.table) (moves_rise (table_of s q.supply.table).rows)

  -- with the empty set the supply is the table's, as in document 01
  pub plain_supply : q.standing ≡ 0 → supply_of s q ≡ machine_of s q.supply.table
  plain_supply e = ap (λ (x : ℕ). widen x (machine_of s q.supply.table)) e ∙ widen_none (machine_of s q.supply.table)

-- ---- its machine, loaded

module _ (s : List ℕ) (i q : ℕ) (t : TableAt s i q) where
  pub state_narrow : q < 256
  state_narrow = let state = t.state in let few = t.table.few_states in omega arith

  pub table_loads : HasTable s i
  table_loads = record { table = t.table; within = t.within }

-- widened by what it was loaded with
pub loaded_with : (s : List ℕ) (i given standing : ℕ) (m : Memory) → machine_in m ≡ widen given (machine_of s i) → given ≡ standing
    → machine_in m ≡ widen standing (machine_of s i)
loaded_with s i given standing m e same = e ∙ ap (λ (x : ℕ). widen x (machine_of s i)) same

-- as many pairs as the machines have
module _ {s : List ℕ} {q : Question} {l : Loaded} (x : PairLoaded s q l) {pairs : ℕ} (e : pairs ≡ (machine_in l.demand).n * (machine_in l.supply).n) where
  pub pairs_are : pairs ≡ (demand_of s q).n * (supply_of s q).n
  pairs_are = e ∙ ap₂ (λ (D S : Machine). D.n * S.n) x.demand_is x.supply_is
