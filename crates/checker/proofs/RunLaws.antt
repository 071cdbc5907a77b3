-- Laws of Run: the answer and the two slices, by what the checks find; and the run that they show. Relies on the laws of Decide and of runs.
use Prim.Native.Nat.{ℕ, ◌*◌, ◌≤◌, ◌<◌}
use mathlib.Core.Path.{◌≡◌, refl, sym, ap, ◌∙◌}
use mathlib.Core.List.{List, [], ◌∷◌}
use lib.ListN.{length, get_or, take, drop}
use lib.Seq.{take_at}
use borrow.Author.Tests.{lt-ltb, le-ltb}
use Rattle.rules.specs.declared.Mode.{Mode}
use Rattle.rules.specs.Slices.{overwrite}
use Rattle.rules.specs.Machines.{Machine}
use Rattle.rules.specs.Rounds.{mark, marks}
use Rattle.rules.specs.Steps.{IsRun, slots, steps}
use Rattle.rules.proofs.StepLaws.{run_is, run_length, run_blocked, length-steps}
use Rattle.tables.specs.declared.Refusal.{Refusal}
use Rattle.tables.specs.Checks.{Checked, refuse, fault, ◌then◌}
use Rattle.tables.specs.Answers.{answer, carried_out, slice_after}
use Rattle.tables.proofs.CheckLaws.{then_left, then_fault, passed}
use Rattle.machines.specs.Machine.{machine_in}
use Rattle.questions.specs.declared.Loaded.{Loaded}
use Rattle.marks.proofs.RoundLaws.{has-marks}
use Rattle.runs.specs.Starts.{RunStarts, mark_from, steps_from}
use Rattle.questions.specs.declared.Question.{Question}
use Rattle.questions.specs.Pairs.{pair_checks, demand_of, supply_of, PairLoaded}
use Rattle.questions.specs.Modes.{mode_of, mode_checks}
use Rattle.questions.proofs.PairLaws.{asked_demand, asked_supply, demand_sound, supply_sound, demand_rises, supply_rises, pairs_are}
use Rattle.questions.proofs.ModeLaws.{mode_asked}
use Rattle.tables.specs.Answers.{counted}
use Rattle.tables.specs.declared.Reason.TheVariants.{NoRoom}
use Rattle.std.proofs.Common.{Result, Ok, Err}
use Rattle.checker.specs.Decide.{decide_checks}
use Rattle.checker.specs.Run.{run_checks, run_answer, run_marks, run_steps}
use Rattle.checker.specs.Demands.{RunDemand, RunDemands}
use Rattle.checker.proofs.DecideLaws.{decide_asked, none_fault}
use Rattle.checker.proofs.DemandLaws.{marks_demand}

-- as Decide
pub decide_fault : (s : List ℕ) (q : Question) (mode : ℕ) (r : Refusal) (room more : ℕ) → decide_checks s q mode room ≡ Err r → run_checks s q mode room more ≡ Err r
unfolding run_checks
decide_fault s q mode r room more e = then_fault _ _ r e

module _ (s : List ℕ) (q : Question) (mode : ℕ) (a : mode_checks s q mode ≡ Ok tt) (room : ℕ) (long : (demand_of s q).n * (supply_of s q).n ≤ room) where
  pub steps_fault : (more : ℕ) → more < 2 * ((demand_of s q).n * (supply_of s q).n) → run_checks s q mode room more ≡ Err (refuse NoRoom 0)
  unfolding run_checks ◌then◌ fault
  steps_fault more l = rw (none_fault s q mode a room long, lt-ltb more (2 * ((demand_of s q).n * (supply_of s q).n)) l) refl

  pub no_fault : (more : ℕ) → 2 * ((demand_of s q).n * (supply_of s q).n) ≤ more → run_checks s q mode room more ≡ Ok tt
  unfolding run_checks ◌then◌ fault
  no_fault more l = rw (none_fault s q mode a room long, le-ltb more (2 * ((demand_of s q).n * (supply_of s q).n)) l) refl

-- ---- carried out

module _ (s : List ℕ) (q : Question) (mode : ℕ) (a : mode_checks s q mode ≡ Ok tt) {l : Loaded} (x : PairLoaded s q l) (m : Mode)
    (same : m ≡ mode_of mode) where
  -- the run starts from the pair, and there is room
  pub run_starts : {first second : List ℕ} → (demand_of s q).n * (supply_of s q).n ≤ length first → 2 * ((demand_of s q).n * (supply_of s q).n) ≤ length second
      → RunStarts (machine_in l.demand) (machine_in l.supply) l.start first second
  run_starts long room = record {
    demand_state = rw (x.start_is, ap (λ (M : Machine). M.n) x.demand_is) (asked_demand s q (mode_asked s q mode a)).state;
    supply_state = rw (x.start_is, ap (λ (M : Machine). M.n) x.supply_is) (asked_supply s q (mode_asked s q mode a)).state;
    marks_room = rw (pairs_are x refl) long;
    steps_room = rw (pairs_are x refl) room;
  }

  pub run_carried_out : (first second : List ℕ) → (demand_of s q).n * (supply_of s q).n ≤ length first → 2 * ((demand_of s q).n * (supply_of s q).n) ≤ length second
      → {count : ℕ} {marked stepped : List ℕ}
      → marked ≡ overwrite (marks m (machine_in l.demand) (machine_in l.supply)) first
      → count ≡ mark_from m (machine_in l.demand) (machine_in l.supply) l.start
      → stepped ≡ overwrite (steps_from m (machine_in l.demand) (machine_in l.supply) l.start) second
      → (carried_out (count ∷ []) ≡ run_answer s q mode (length first) (length second)) × ((marked ≡ run_marks s q mode first (length second)) × (stepped ≡ run_steps s q mode (length first) second))
  unfolding run_answer run_marks run_steps answer slice_after
  run_carried_out first second long room u v w =
      let none = no_fault s q mode a (length first) long (length second) room in (
        rw none (ap (λ (n : ℕ). carried_out (n ∷ [])) (v ∙ rw (same, x.start_is, x.demand_is, x.supply_is) refl)),
        (rw none (u ∙ rw (same, x.demand_is, x.supply_is) refl), rw none (w ∙ rw (same, x.start_is, x.demand_is, x.supply_is) refl)),
      )

-- ---- the run that is shown

module _ (file : List ℕ) (q : Question) (mode : ℕ) (first second : List ℕ) {marked stepped : List ℕ} (left : marked ≡ run_marks file q mode first (length second))
    (gone : stepped ≡ run_steps file q mode (length first) second) (count : ℕ) (told : run_answer file q mode (length first) (length second) ≡ carried_out (count ∷ [])) where
  abbrev D : Machine
  D = demand_of file q

  abbrev S : Machine
  S = supply_of file q

  abbrev t : ℕ
  t = q.demand.state

  abbrev w : ℕ
  w = q.supply.state

  outcome : (run_checks file q mode (length first) (length second) ≡ Ok tt) × (mark (mode_of mode) D S t w ∷ [] ≡ count ∷ [])
  unfolding run_answer
  outcome = passed (run_checks file q mode (length first) (length second)) _ _ _ told

  asked : pair_checks file q ≡ Ok tt
  unfolding run_checks
  asked = decide_asked file q mode (length first) (then_left _ _ outcome.0)

  start_mark : mark (mode_of mode) D S t w ≡ count
  start_mark = ap (λ (l : List ℕ). get_or l 0 0) outcome.1

  marks_written : marked ≡ overwrite (marks (mode_of mode) D S) first
  unfolding run_marks slice_after
  marks_written = left ∙ ap (λ (c : Checked). slice_after c (overwrite (marks (mode_of mode) D S) first) first) outcome.0

  steps_written : stepped ≡ overwrite (steps (mode_of mode) D S t w) second
  unfolding run_steps slice_after
  steps_written = gone ∙ ap (λ (c : Checked). slice_after c (overwrite (steps (mode_of mode) D S t w) second) second) outcome.0

  steps_first : take (2 * count) stepped ≡ steps (mode_of mode) D S t w
  unfolding overwrite
  steps_first =
      ap (take (2 * count)) steps_written
      ∙ take_at (steps (mode_of mode) D S t w) (drop (length (steps (mode_of mode) D S t w)) second) (2 * count) (length-steps (mode_of mode) D S t w ∙ ap (λ (k : ℕ). 2 * k) start_mark)

  run : IsRun (mode_of mode) D S t w (slots (mode_of mode) D S (mark (mode_of mode) D S t w) t w)
  run =
      run_is D S (demand_sound file q asked) (supply_sound file q asked) (demand_rises file q) (supply_rises file q) (mode_of mode) t w (asked_demand file q asked).state (asked_supply file q asked).state

  pub run_demand : RunDemand (mode_of mode) D S t w count marked stepped
  unfolding steps
  run_demand = record {
    slots = slots (mode_of mode) D S (mark (mode_of mode) D S t w) t w;
    rows = steps_first;
    many = run_length (mode_of mode) D S run ∙ start_mark;
    start = sym start_mark ∙ sym ((has-marks (mode_of mode) D S first marks_written).each t w (asked_demand file q asked).state (asked_supply file q asked).state);
    marks_are = marks_demand (mode_of mode) D S marked (has-marks (mode_of mode) D S first marks_written);
    is_run = run;
    blocked = λ f. run_blocked (mode_of mode) D S run (λ z. f (sym start_mark ∙ z));
  }

-- what Run ensures, from its answer and the two slices
pub run_shown : (file : List ℕ) (q : Question) (mode : ℕ) (first second : List ℕ) {marked stepped : List ℕ} (r : Result ℕ Refusal)
    → (counted r ≡ run_answer file q mode (length first) (length second)) × ((marked ≡ run_marks file q mode first (length second)) × (stepped ≡ run_steps file q mode (length first) second))
    → (counted r ≡ run_answer file q mode (length first) (length second)) × ((marked ≡ run_marks file q mode first (length second)) × ((stepped ≡ run_steps file q mode (length first) second)
    × RunDemands file q mode (counted r) marked stepped))
run_shown file q mode first second r (told, (left, gone)) =
    (told, (left, (gone, record { second = λ count e. run_demand file q mode first second left gone count (sym told ∙ e) })))
