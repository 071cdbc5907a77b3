-- Reach: what Decide says in full mode, found by the pairs alone that runs from the start can reach. Document 02, L8.
use Rattle.std.specs.Prelude.{ℕ, ◌*◌, ◌≤◌, ◌<◌, ◌≡◌, Bool, ◌↔◌, T, take, Ok}
use mathlib.Core.List.{List, [], ◌∷◌}
use Rattle.rules.specs.Below.{one}
use Rattle.rules.specs.Machines.{Machine}
use Rattle.rules.specs.Actions.{beside}
use Rattle.rules.specs.Rounds.{count_pairs}
use Rattle.rules.specs.Runs.{Run, Free, Schedulable}
use Rattle.rules.specs.Reach.{is_free, count_on_yes}
use Rattle.tables.specs.Answers.{Answer, answer, carried_out}
use Rattle.questions.specs.declared.Question.{Question}
use Rattle.questions.specs.Pairs.{pair_checks, demand_of, supply_of}
use Rattle.checker.specs.Decide.{decide_answer}

-- "Answers: Open's, 11, 12, 13.", as for a question about a pair; returned are yes as 1 or no as 0, and the count
unfoldable pub reach_answer : List ℕ → Question → Answer
reach_answer s q =
    answer (pair_checks s q)
    (one (is_free (demand_of s q) (supply_of s q) q.demand.state q.supply.state)
    ∷ count_on_yes (demand_of s q) (supply_of s q) q.demand.state q.supply.state ∷ [])

-- what an answer of Decide or of Reach says: the verdict, which stands first; or the number and the place, where the call is turned back
abbrev pub verdict_of : Answer → Answer
verdict_of a = record { number = a.number; place = a.place; values = take 1 a.values }

-- The count is that of the pairs (u, v) to which "runs of surviving moves" lead from (t, s); the run of no slot leads to (t, s) itself.
pub record CountsReached (D S : Machine) (t s count : ℕ) : Type 0 where
  pub pairs : ℕ → ℕ → Bool
  pub by_runs : (u v : ℕ) → T (pairs u v) ↔ Run D S u v t s
  pub counted : count ≡ count_pairs D S pairs
  -- runs lead to pairs of states only, so that none is left out of the count
  pub below : (u v : ℕ) → T (pairs u v) → (u < D.n) × (v < S.n)

-- What a call that is carried out says of its start pair (t, s): the verdict, 1 for yes and 0 for no, and the count.
pub record ReachDemand (D S : Machine) (t s verdict count : ℕ) : Type 0 where
  -- "A full yes is said exactly if no run of these moves reaches a stuck pair or an unmet request."
  pub full_yes : (verdict ≡ 1) ↔ Free D S t s
  -- the same of PADS itself: 000, definition 1
  pub schedulable : (verdict ≡ 1) ↔ Schedulable (beside D S) (t, s)
  -- "On a yes it returns the count of pairs that runs of surviving moves can reach, the start included."
  pub on_yes : verdict ≡ 1 → CountsReached D S t s count
  -- "On a no it returns 0."
  pub on_no : (verdict ≡ 1 → ⊥) → (verdict ≡ 0) × (count ≡ 0)

-- what a call of Reach promises of its answer
pub record ReachDemands (file : List ℕ) (q : Question) (a : Answer) : Type 0 where
  -- "on every input its verdict equals that of Decide in full mode, lent room for its marks"; and what turns back the one turns back the other
  pub as_decide : (room : ℕ) → (pair_checks file q ≡ Ok tt → (demand_of file q).n * (supply_of file q).n ≤ room)
      → verdict_of a ≡ verdict_of (decide_answer file q 0 room)
  pub shown : (verdict count : ℕ) → a ≡ carried_out (verdict ∷ count ∷ [])
      → ReachDemand (demand_of file q) (supply_of file q) q.demand.state q.supply.state verdict count
