-- Questions about a pair of states of two tables. Document 01, 'Operations and what they turn back', and document 02, L5, by which a question has a
-- standing set too; with the empty set it is document 01's.
use Rattle.std.specs.Prelude.{ℕ, ◌≡◌, List, leb}
use Rattle.rules.specs.declared.Pair.{Pair}
use Rattle.rules.specs.Rows.{pair}
use Rattle.rules.specs.Machines.{Machine, widen}
use Rattle.tables.specs.Checks.{Checked, fault, ◌then◌}
use Rattle.tables.specs.Tables.{table_of, machine_of}
use Rattle.tables.specs.declared.Reason.TheVariants.{NoState}
use Rattle.machines.specs.Machine.{machine_in}
use Rattle.questions.specs.declared.Question.{Question}
use Rattle.questions.specs.declared.Loaded.{Loaded}
use Rattle.questions.specs.Named.{named_checks, as_demand, as_supply}

-- after Open's numbers "11 for demand, then supply; 12 wrong kind, demand then supply; 13 state not below n, demand then supply"
unfoldable pub pair_checks : List ℕ → Question → Checked
pair_checks s q =
    named_checks s (as_demand q.demand.table) (as_supply q.supply.table)
    then fault (leb (table_of s q.demand.table).n q.demand.state) NoState 0
    then fault (leb (table_of s q.supply.table).n q.supply.state) NoState 0

-- the two machines
abbrev pub demand_of : List ℕ → Question → Machine
demand_of s q = machine_of s q.demand.table

-- "Both definitions, the rounds and the pruning now read the widened grant. One set holds for a whole call, and the rival has it too."
abbrev pub supply_of : List ℕ → Question → Machine
supply_of s q = widen q.standing (machine_of s q.supply.table)

-- the pair that is asked about
abbrev pub pair_of : Question → Pair
pair_of q = pair q.demand.state q.supply.state

-- the two tables, loaded, and the pair
pub record PairLoaded (s : List ℕ) (q : Question) (l : Loaded) : Type 0 where
  pub demand_is : machine_in l.demand ≡ demand_of s q
  pub supply_is : machine_in l.supply ≡ supply_of s q
  pub start_is : l.start ≡ pair_of q
