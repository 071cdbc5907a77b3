-- Laws of Reach: the answer, by what the checks find; its verdict is Decide's; and what it says holds of runs from the start pair. Relies on the laws of
-- reaching, of questions about a pair and of Decide.
use Prim.Native.Nat.{ℕ, ◌*◌, ◌≤◌}
use mathlib.Core.Path.{◌≡◌, refl, sym, ap, ◌∙◌}
use mathlib.Core.Bool.{Bool, true, false, cond}
use mathlib.Core.Logic.{◌↔◌}
use mathlib.Core.List.{List, [], ◌∷◌}
use lib.Dec.{T}
use lib.ListN.{get_or}
use native.Mathlib.Omega.{arith}
use Rattle.std.proofs.Common.{Result, Ok, Err, Option, Some, None}
use Rattle.std.specs.Option.{is_some, unwrap_or}
use Rattle.rules.specs.Below.{one}
use Rattle.rules.specs.Machines.{Machine}
use Rattle.rules.specs.Runs.{Run, Free}
use Rattle.rules.specs.Reach.{reaches, reached_count, is_free, count_on_yes}
use Rattle.rules.proofs.Booleans.{T_true, T_false, true-T}
use Rattle.rules.proofs.BelowLaws.{one_same}
use Rattle.rules.proofs.PadsLaws.{schedulable_free}
use Rattle.rules.proofs.ReachLaws.{run_states, reaches_exactly, free_exactly, free_kept}
use Rattle.tables.specs.declared.Refusal.{Refusal}
use Rattle.tables.specs.Checks.{Checked}
use Rattle.tables.specs.Answers.{answer, carried_out}
use Rattle.tables.proofs.CheckLaws.{then_fault, passed}
use Rattle.machines.specs.Machine.{machine_in}
use Rattle.reachability.specs.Reached.{CountStarts, reached_from}
use Rattle.questions.specs.declared.Loaded.{Loaded}
use Rattle.questions.specs.declared.Question.{Question}
use Rattle.questions.specs.Pairs.{pair_checks, demand_of, supply_of, pair_of, PairLoaded}
use Rattle.questions.specs.Modes.{mode_of, mode_checks}
use Rattle.questions.proofs.PairLaws.{asked_demand, asked_supply, demand_sound, supply_sound}
use Rattle.questions.proofs.ModeLaws.{known_mode}
use Rattle.checker.specs.declared.Reached.{Reached}
use Rattle.checker.specs.Calls.{reached}
use Rattle.checker.specs.Decide.{decide_checks, decide_answer}
use Rattle.checker.specs.Reach.{reach_answer, verdict_of, ReachDemand, ReachDemands}
use Rattle.checker.proofs.DecideLaws.{none_fault}

-- ---- carried out

module _ (s : List ℕ) (q : Question) (a : pair_checks s q ≡ Ok tt) {l : Loaded} (x : PairLoaded s q l) where
  pub reach_starts : CountStarts (machine_in l.demand) (machine_in l.supply) l.start
  reach_starts = record {
    demand_state = rw (x.start_is, ap (λ (M : Machine). M.n) x.demand_is) (asked_demand s q a).state;
    supply_state = rw (x.start_is, ap (λ (M : Machine). M.n) x.supply_is) (asked_supply s q a).state;
  }

  pub reach_told : {found : Option ℕ} → found ≡ reached_from (machine_in l.demand) (machine_in l.supply) l.start
      → found ≡ reached_from (demand_of s q) (supply_of s q) (pair_of q)
  reach_told e = e ∙ (λ i. reached_from (x.demand_is i) (x.supply_is i) (x.start_is i))

-- a yes with the count, or a no with 0
told_as : (b : Bool) (n : ℕ) → carried_out (one (is_some (cond b (Some n) None)) ∷ unwrap_or (cond b (Some n) None) 0 ∷ []) ≡ carried_out (one b ∷ cond b n 0 ∷ [])
told_as true n = refl
told_as false n = refl

pub reach_carried_out : (s : List ℕ) (q : Question) → pair_checks s q ≡ Ok tt → {found : Option ℕ} {none : ℕ} → none ≡ 0
    → found ≡ reached_from (demand_of s q) (supply_of s q) (pair_of q) → carried_out (one (is_some found) ∷ unwrap_or found none ∷ []) ≡ reach_answer s q
unfolding reach_answer answer count_on_yes
reach_carried_out s q a z told = rw (a, told, z) (told_as (is_free (demand_of s q) (supply_of s q) q.demand.state q.supply.state) _)

-- ---- the verdict

pair_fault : (s : List ℕ) (q : Question) (mode room : ℕ) (r : Refusal) → pair_checks s q ≡ Err r → decide_checks s q mode room ≡ Err r
unfolding decide_checks mode_checks
pair_fault s q mode room r e = then_fault _ _ r (then_fault _ _ r e)

decide_too : (s : List ℕ) (q : Question) (room : ℕ) (c : Checked) → pair_checks s q ≡ c → (pair_checks s q ≡ Ok tt → (demand_of s q).n * (supply_of s q).n ≤ room)
    → verdict_of (reach_answer s q) ≡ verdict_of (decide_answer s q 0 room)
unfolding reach_answer decide_answer answer mode_of
decide_too s q room (Err r) e long = rw (e, pair_fault s q 0 room r e) refl
decide_too s q room (Ok u) e long =
    rw (e, none_fault s q 0 (known_mode s q 0 e (omega arith)) room (long e))
    (ap (λ (b : Bool). carried_out (one b ∷ []))
    (free_kept (demand_of s q) (supply_of s q) (demand_sound s q e) (supply_sound s q e) q.demand.state q.supply.state (asked_demand s q e).state (asked_supply s q e).state))

-- Decide's, lent room for its marks
pub as_decide : (s : List ℕ) (q : Question) (room : ℕ) → (pair_checks s q ≡ Ok tt → (demand_of s q).n * (supply_of s q).n ≤ room)
    → verdict_of (reach_answer s q) ≡ verdict_of (decide_answer s q 0 room)
as_decide s q room long = decide_too s q room (pair_checks s q) refl long

-- ---- what is said of the start pair

module _ (file : List ℕ) (q : Question) (verdict count : ℕ) (told : reach_answer file q ≡ carried_out (verdict ∷ count ∷ [])) where
  abbrev D : Machine
  D = demand_of file q

  abbrev S : Machine
  S = supply_of file q

  abbrev t : ℕ
  t = q.demand.state

  abbrev s : ℕ
  s = q.supply.state

  outcome : (pair_checks file q ≡ Ok tt) × (one (is_free D S t s) ∷ count_on_yes D S t s ∷ [] ≡ verdict ∷ count ∷ [])
  unfolding reach_answer
  outcome = passed (pair_checks file q) _ _ _ told

  yes : one (is_free D S t s) ≡ verdict
  yes = ap (λ (l : List ℕ). get_or l 0 0) outcome.1

  counted : cond (is_free D S t s) (reached_count D S t s) 0 ≡ count
  unfolding count_on_yes
  counted = ap (λ (l : List ℕ). get_or l 1 0) outcome.1

  is_yes : verdict ≡ 1 → is_free D S t s ≡ true
  is_yes e = one_same (is_free D S t s) true (yes ∙ e)

  yes_is : is_free D S t s ≡ true → verdict ≡ 1
  yes_is e = sym yes ∙ ap one e

  free : T (is_free D S t s) ↔ Free D S t s
  free = free_exactly D S (demand_sound file q outcome.0) (supply_sound file q outcome.0) t s (asked_demand file q outcome.0).state (asked_supply file q outcome.0).state

  full_yes : (verdict ≡ 1) ↔ Free D S t s
  full_yes = (λ e. free.0 (true-T (is_free D S t s) (is_yes e)), λ f. yes_is (T_true (is_free D S t s) (free.1 f)))

  by_runs : (u v : ℕ) → T (reaches D S t s u v) ↔ Run D S u v t s
  by_runs =
      reaches_exactly D S (demand_sound file q outcome.0) (supply_sound file q outcome.0) t s (asked_demand file q outcome.0).state (asked_supply file q outcome.0).state

  pub reach_demand : ReachDemand D S t s verdict count
  unfolding reached_count
  reach_demand = record {
    full_yes = full_yes;
    schedulable = (λ e. (schedulable_free D S t s).1 (full_yes.0 e), λ h. full_yes.1 ((schedulable_free D S t s).0 h));
    on_yes = λ e. record {
      pairs = reaches D S t s;
      by_runs = by_runs;
      counted = sym counted ∙ ap (λ (b : Bool). cond b (reached_count D S t s) 0) (is_yes e);
      below = λ u v x.
          run_states D S (demand_sound file q outcome.0) (supply_sound file q outcome.0) u v ((by_runs u v).0 x) (asked_demand file q outcome.0).state (asked_supply file q outcome.0).state;
    };
    on_no = λ n. let no : is_free D S t s ≡ false = T_false (is_free D S t s) (λ x. n (yes_is (T_true (is_free D S t s) x))) in
        (sym yes ∙ ap one no, sym counted ∙ ap (λ (b : Bool). cond b (reached_count D S t s) 0) no);
  }

-- what Reach ensures, from its answer
pub reach_shown : (file : List ℕ) (q : Question) (r : Result Reached Refusal) → reached r ≡ reach_answer file q
    → (reached r ≡ reach_answer file q) × ReachDemands file q (reached r)
reach_shown file q r e = (
  e,
  record {
    as_decide = λ room long. ap verdict_of e ∙ as_decide file q room long;
    shown = λ verdict count told. reach_demand file q verdict count (sym e ∙ told);
  },
)
