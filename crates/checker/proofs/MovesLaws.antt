-- Laws of Moves of a pair: the answer and the slice, by what the checks find; and the moves written are those of PADS. Relies on the laws of PADS
-- and of surviving moves.
use Prim.Native.Nat.{ℕ, ◌*◌, ◌/◌, ◌≤◌, ◌<◌}
use mathlib.Core.Path.{◌≡◌, refl, sym, ap, ap₂, ◌∙◌, subst}
use mathlib.Core.List.{List, [], ◌∷◌, flat_map}
use mathlib.Core.Logic.{◌↔◌}
use native.Mathlib.Omega.{arith}
use lib.ListN.{length, get_or, take, drop}
use lib.Seq.{take_at}
use borrow.Author.Tests.{lt-ltb, le-ltb}
use Rattle.rules.specs.declared.Pair.{Pair}
use Rattle.rules.specs.Rows.{idle}
use Rattle.rules.specs.Machines.{Machine, Rises}
use Rattle.rules.specs.Slices.{overwrite}
use Rattle.rules.specs.Actions.{Action, beside}
use Rattle.rules.specs.declared.Candidate.{Candidate}
use Rattle.rules.specs.Moves.{pairing, action, survivors, numbers}
use Rattle.rules.proofs.ListLaws.{mem_get_or, get_or-mem, length-flat_map, flat_map-part}
use Rattle.rules.proofs.MoveLaws.{survivors_iff, rising_survivors}
use Rattle.rules.proofs.PadsLaws.{beside_survivors}
use Rattle.tables.specs.declared.Refusal.{Refusal}
use Rattle.tables.specs.Checks.{Checked, refuse, fault, ◌then◌}
use Rattle.tables.specs.Answers.{answer, carried_out, slice_after}
use Rattle.tables.proofs.CheckLaws.{passed}
use Rattle.machines.specs.Machine.{machine_in}
use Rattle.questions.specs.declared.Loaded.{Loaded}
use Rattle.questions.specs.declared.Question.{Question}
use Rattle.questions.specs.Pairs.{pair_checks, demand_of, supply_of, PairLoaded}
use Rattle.questions.proofs.PairLaws.{demand_rises, supply_rises}
use Rattle.tables.specs.Answers.{counted}
use Rattle.tables.specs.declared.Reason.TheVariants.{NoRoom}
use Rattle.std.proofs.Common.{Result, Ok, Err}
use Rattle.checker.specs.Moves.{survivors_at, moves_checks, moves_answer, moves_slice}
use Rattle.checker.specs.Demands.{step_numbers, move_at, MovesDemand, MovesDemands}

module _ (s : List ℕ) (q : Question) (a : pair_checks s q ≡ Ok tt) (cs : List Candidate) (same : cs ≡ survivors_at s q) (count : ℕ) (counted : count ≡ length cs) where
  -- by 14: 5 × count do not fit into room
  pub short_fault : (room : ℕ) → room / 5 < count → moves_checks s q room ≡ Err (refuse NoRoom 0)
  unfolding moves_checks ◌then◌ fault
  short_fault room l =
      let short : room < 5 * length (survivors_at s q) = omega (arith, ap length same) in
      rw (a, lt-ltb room (5 * length (survivors_at s q)) short) refl

  none_fault : (room : ℕ) → count ≤ room / 5 → moves_checks s q room ≡ Ok tt
  unfolding moves_checks ◌then◌ fault
  none_fault room l =
      let long : 5 * length (survivors_at s q) ≤ room = omega (arith, ap length same) in
      rw (a, le-ltb room (5 * length (survivors_at s q)) long) refl

  -- carried out: the count is the answer, and the moves stand before the rest of the slice
  pub moves_written : (entry exit : List ℕ) → count ≤ length entry / 5 → exit ≡ overwrite (flat_map numbers cs) entry → {returned : ℕ} → returned ≡ count
      → (carried_out (returned ∷ []) ≡ moves_answer s q (length entry)) × (exit ≡ moves_slice s q entry)
  unfolding moves_answer moves_slice answer slice_after
  moves_written entry exit l w e = (rw (none_fault (length entry) l, e, counted, same) refl, rw (none_fault (length entry) l, ← same) w)

-- the survivors of the pair, by the two machines
pub survivors_found : (s : List ℕ) (q : Question) {l : Loaded} → PairLoaded s q l
    → survivors (machine_in l.demand) (machine_in l.supply) l.start.demand l.start.supply ≡ survivors_at s q
survivors_found s q {l} x =
    ap (λ (p : Pair). survivors (machine_in l.demand) (machine_in l.supply) p.demand p.supply) x.start_is
    ∙ ap₂ (λ (D S : Machine). survivors D S q.demand.state q.supply.state) x.demand_is x.supply_is

-- ---- the moves written are those of PADS

-- a list of five numbers tells each of them
step_numbers_eq : (a b : Action) (u v x y : ℕ) → step_numbers a u v ≡ step_numbers b x y → (a ≡ b) × (u ≡ x) × (v ≡ y)
step_numbers_eq a b u v x y e =
    let at : ℕ → List ℕ → ℕ = λ i l. get_or l i 0 in
    (λ i. record { requests = ap (at 2) e i; grants = ap (at 0) e i; consumptions = ap (at 1) e i }, ap (at 3) e, ap (at 4) e)

five_numbers : (c : Candidate) → length (numbers c) ≡ 5
unfolding numbers
five_numbers c = refl

-- of machines whose moves rise, and a slice that begins with the numbers of their survivors
module _ (D S : Machine) (rd : Rises D) (rs : Rises S) (t s : ℕ) (entry slice : List ℕ) (left : slice ≡ overwrite (flat_map numbers (survivors D S t s)) entry) where
  abbrev cs : List Candidate
  cs = survivors D S t s

  -- the i-th five entries are the i-th survivor's
  move_is : (i : ℕ) → i < length cs → move_at slice i ≡ numbers (get_or cs i (pairing idle idle))
  unfolding overwrite
  move_is i l = ap (λ (x : List ℕ). move_at x i) left ∙ flat_map-part numbers 5 five_numbers (pairing idle idle) cs (drop (length (flat_map numbers cs)) entry) i l

  steps_are : (a : Action) (u v : ℕ) → (beside D S).Step (t, s) a (u, v) ↔ ((i : ℕ) × (i < length cs) × (move_at slice i ≡ step_numbers a u v))
  unfolding numbers
  steps_are a u v = (
    λ w. let (c, m, ea, eu, ev) = (beside_survivors D S t s u v a).0 w in
        let (i, l, e) = mem_get_or (pairing idle idle) m in
        (i, l, move_is i l ∙ ap numbers e ∙ sym (λ k. step_numbers (ea k) (eu k) (ev k))),
    λ (i, l, e).
        let c : Candidate = get_or cs i (pairing idle idle) in
        let (ea, eu, ev) = step_numbers_eq a (action c) u v c.task.target c.supply.target (sym e ∙ move_is i l) in
        (beside_survivors D S t s u v a).1 (c, get_or-mem (pairing idle idle) cs i l, ea, eu, ev),
  )

  first_are : take (5 * length cs) slice ≡ flat_map numbers cs
  unfolding overwrite
  first_are = ap (take (5 * length cs)) left ∙ take_at (flat_map numbers cs) (drop (length (flat_map numbers cs)) entry) (5 * length cs) (length-flat_map numbers 5 five_numbers cs)

  pub moves_demand : MovesDemand D S t s (length cs) slice
  moves_demand = record {
    are_steps = steps_are;
    moves = cs;
    many = refl;
    written = first_are;
    survive = survivors_iff D S t s;
    rising = (rising_survivors D S rd rs t s).0;
    once = (rising_survivors D S rd rs t s).1;
  }

-- what Moves of a pair ensures, from its answer and the slice
module _ (file : List ℕ) (q : Question) (entry exit : List ℕ) (left : exit ≡ moves_slice file q entry) (count : ℕ)
    (told : moves_answer file q (length entry) ≡ carried_out (count ∷ [])) where
  outcome : (moves_checks file q (length entry) ≡ Ok tt) × (length (survivors_at file q) ∷ [] ≡ count ∷ [])
  unfolding moves_answer
  outcome = passed (moves_checks file q (length entry)) _ _ _ told

  written : exit ≡ overwrite (flat_map numbers (survivors_at file q)) entry
  unfolding moves_slice slice_after
  written = left ∙ ap (λ (c : Checked). slice_after c (overwrite (flat_map numbers (survivors_at file q)) entry) entry) outcome.0

  demanded : MovesDemand (demand_of file q) (supply_of file q) q.demand.state q.supply.state count exit
  demanded =
      subst (λ (n : ℕ). MovesDemand (demand_of file q) (supply_of file q) q.demand.state q.supply.state n exit) (ap (λ (l : List ℕ). get_or l 0 0) outcome.1)
      (moves_demand (demand_of file q) (supply_of file q) (demand_rises file q) (supply_rises file q)
      q.demand.state q.supply.state entry exit written)

pub moves_shown : (file : List ℕ) (q : Question) (entry exit : List ℕ) (r : Result ℕ Refusal)
    → (counted r ≡ moves_answer file q (length entry)) × (exit ≡ moves_slice file q entry)
    → (counted r ≡ moves_answer file q (length entry)) × ((exit ≡ moves_slice file q entry) × MovesDemands file q (counted r) exit)
moves_shown file q entry exit r (told, left) = (told, (left, record { second = λ count e. demanded file q entry exit left count (sym told ∙ e) }))
