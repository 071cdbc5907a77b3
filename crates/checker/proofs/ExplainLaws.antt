-- Laws of Explain: the answer and the two slices, by what the checks find; and what the triples show. Relies on the laws of Decide, of marks and of
-- explanations.
use Prim.Native.Nat.{ℕ, ◌*◌, ◌≤◌, ◌<◌}
use mathlib.Core.Path.{◌≡◌, refl, sym, ap, ap₂, ◌∙◌}
use mathlib.Core.List.{List, [], ◌∷◌, ◌++◌, flat_map}
use native.Mathlib.Omega.{arith}
use native.Mathlib.Nat.{mul-le-mul}
use lib.ListN.{length, get_or, take, drop}
use lib.Seq.{take_at}
use borrow.Author.Tests.{lt-ltb, le-ltb}
use Rattle.rules.specs.declared.Mode.{Mode}
use Rattle.rules.specs.Slices.{write_at, overwrite}
use Rattle.rules.specs.Machines.{Machine}
use Rattle.rules.specs.Rounds.{mark, mark_at, marks}
use Rattle.rules.specs.Explanations.{AreTriples, Explains, triples_at, triple_numbers, triple_entries}
use Rattle.rules.proofs.MarkLaws.{length-marks}
use Rattle.rules.proofs.SliceLaws.{write_at-overwrite}
use Rattle.rules.proofs.ExplanationLaws.{triples_are, triples_same, triples_explain, length-triple_numbers}
use Rattle.tables.specs.declared.Refusal.{Refusal}
use Rattle.tables.specs.declared.Reason.TheVariants.{NoRoom}
use Rattle.tables.specs.Checks.{Checked, refuse, fault, ◌then◌}
use Rattle.tables.specs.Answers.{answer, carried_out, slice_after, counted}
use Rattle.tables.proofs.CheckLaws.{then_left, then_fault, passed}
use Rattle.std.proofs.Common.{Result, Ok, Err}
use Rattle.machines.specs.declared.machine.Machine.{Machine as Memory}
use Rattle.machines.specs.Machine.{machine_in}
use Rattle.machines.proofs.StoredLaws.{few_states}
use Rattle.marks.specs.Rounds.{HasMarks}
use Rattle.marks.proofs.RoundLaws.{has-marks}
use Rattle.runs.specs.Starts.{WalkStarts}
use Rattle.explanations.specs.Writing.{entries_from}
use Rattle.questions.specs.declared.Loaded.{Loaded}
use Rattle.questions.specs.declared.Question.{Question}
use Rattle.questions.specs.Pairs.{pair_checks, demand_of, supply_of, PairLoaded}
use Rattle.questions.specs.Modes.{mode_of, mode_checks}
use Rattle.questions.proofs.PairLaws.{asked_demand, asked_supply, demand_sound, supply_sound, demand_rises, supply_rises}
use Rattle.questions.proofs.ModeLaws.{mode_asked}
use Rattle.checker.specs.Decide.{decide_checks}
use Rattle.checker.specs.Explain.{triples_asked, explain_checks, explain_answer, explain_marks, explain_triples}
use Rattle.checker.specs.Demands.{ExplainDemand, ExplainDemands}
use Rattle.checker.proofs.DecideLaws.{decide_asked, none_fault}
use Rattle.checker.proofs.DemandLaws.{marks_demand}

-- two machines in memory have at most 64 × 64 pairs of states
pub few_pairs : (d s : Memory) → (machine_in d).n * (machine_in s).n ≤ 4096
few_pairs d s = omega (arith, mul-le-mul (few_states d) (few_states s))

-- marks that are made have an entry for each pair
pub made_long : (D S : Machine) (m : Mode) (blank : List ℕ) {made : List ℕ} {pairs : ℕ} → made ≡ overwrite (marks m D S) blank → pairs ≡ D.n * S.n → pairs ≤ length made
made_long D S m blank e f = omega (arith, (has-marks m D S blank e).room, f)

-- as Decide
pub marks_fault : (s : List ℕ) (q : Question) (mode : ℕ) (r : Refusal) (room more : ℕ) → decide_checks s q mode room ≡ Err r → explain_checks s q mode room more ≡ Err r
unfolding explain_checks
marks_fault s q mode r room more e = then_fault _ _ r e

module _ (s : List ℕ) (q : Question) (mode : ℕ) (a : mode_checks s q mode ≡ Ok tt) {l : Loaded} (x : PairLoaded s q l) (m : Mode)
    (same : m ≡ mode_of mode) where
  -- the walk starts at the pair, by marks that are made
  pub explain_starts : (blank : List ℕ) {made : List ℕ} → made ≡ overwrite (marks m (machine_in l.demand) (machine_in l.supply)) blank
      → WalkStarts m (machine_in l.demand) (machine_in l.supply) l.start made
  explain_starts blank e = record {
    marks = has-marks m (machine_in l.demand) (machine_in l.supply) blank e;
    demand_state = rw (x.start_is, ap (λ (M : Machine). M.n) x.demand_is) (asked_demand s q (mode_asked s q mode a)).state;
    supply_state = rw (x.start_is, ap (λ (M : Machine). M.n) x.supply_is) (asked_supply s q (mode_asked s q mode a)).state;
  }

  entries_asked : entries_from m (machine_in l.demand) (machine_in l.supply) l.start ≡ flat_map triple_numbers (triples_asked s q mode)
  unfolding triple_entries
  entries_asked = rw (same, x.start_is, x.demand_is, x.supply_is) refl

  module _ {entries : ℕ} (many : entries ≡ length (entries_from m (machine_in l.demand) (machine_in l.supply) l.start)) where
    pub three_each : entries ≡ 3 * length (triples_asked s q mode)
    three_each = many ∙ ap length entries_asked ∙ length-triple_numbers (triples_asked s q mode)

    module _ (first second : List ℕ) (long : (demand_of s q).n * (supply_of s q).n ≤ length first) where
      pub triples_fault : length second < entries → explain_checks s q mode (length first) (length second) ≡ Err (refuse NoRoom 0)
      unfolding explain_checks ◌then◌ fault
      triples_fault h =
          rw (none_fault s q mode a (length first) long, lt-ltb (length second) (3 * length (triples_asked s q mode)) (omega (arith, three_each))) refl

      no_fault : entries ≤ length second → explain_checks s q mode (length first) (length second) ≡ Ok tt
      unfolding explain_checks ◌then◌ fault
      no_fault h =
          rw (none_fault s q mode a (length first) long, le-ltb (length second) (3 * length (triples_asked s q mode)) (omega (arith, three_each))) refl

      -- carried out: the marks that were made are copied, and the triples are written
      pub explain_carried_out : entries ≤ length second → {count : ℕ} → 3 * count ≡ entries → (blank : List ℕ) {pairs : ℕ} {made marked exit : List ℕ}
          → made ≡ overwrite (marks m (machine_in l.demand) (machine_in l.supply)) blank → pairs ≡ (demand_of s q).n * (supply_of s q).n
          → marked ≡ take pairs made ++ drop pairs first → exit ≡ write_at 0 (entries_from m (machine_in l.demand) (machine_in l.supply) l.start) second
          → (carried_out (count ∷ []) ≡ explain_answer s q mode (length first) (length second))
          × ((marked ≡ explain_marks s q mode first (length second)) × (exit ≡ explain_triples s q mode (length first) second))
      unfolding explain_answer explain_marks explain_triples answer slice_after overwrite
      explain_carried_out h {count} each blank {pairs} e p u w =
          let none = no_fault h in
          let listed : count ≡ length (triples_asked s q mode) = omega (arith, each, three_each) in
          let all = marks (mode_of mode) (demand_of s q) (supply_of s q) in
          let here : length all ≡ pairs = length-marks (mode_of mode) (demand_of s q) (supply_of s q) ∙ sym p in
          let made : _ ≡ overwrite all blank = e ∙ rw (same, x.demand_is, x.supply_is) refl in (
            rw none (ap (λ (n : ℕ). carried_out (n ∷ [])) listed),
            (
              rw none (u ∙ ap₂ (λ (z : List ℕ) (k : ℕ). z ++ drop k first) (ap (take pairs) made ∙ take_at all (drop (length all) blank) pairs here) (sym here)),
              rw none (w ∙ write_at-overwrite (entries_from m (machine_in l.demand) (machine_in l.supply) l.start) second (omega (arith, many)) ∙ ap (λ (z : List ℕ). overwrite z second) entries_asked),
            ),
          )

-- ---- what the triples show

module _ (file : List ℕ) (q : Question) (mode : ℕ) (first second : List ℕ) {marked exit : List ℕ} (left : marked ≡ explain_marks file q mode first (length second))
    (gone : exit ≡ explain_triples file q mode (length first) second) (count : ℕ) (told : explain_answer file q mode (length first) (length second) ≡ carried_out (count ∷ [])) where
  abbrev D : Machine
  D = demand_of file q

  abbrev S : Machine
  S = supply_of file q

  abbrev t : ℕ
  t = q.demand.state

  abbrev w : ℕ
  w = q.supply.state

  outcome : (explain_checks file q mode (length first) (length second) ≡ Ok tt) × (length (triples_asked file q mode) ∷ [] ≡ count ∷ [])
  unfolding explain_answer
  outcome = passed (explain_checks file q mode (length first) (length second)) _ _ _ told

  asked : pair_checks file q ≡ Ok tt
  unfolding explain_checks
  asked = decide_asked file q mode (length first) (then_left _ _ outcome.0)

  many : length (triples_asked file q mode) ≡ count
  many = ap (λ (l : List ℕ). get_or l 0 0) outcome.1

  demand_state : t < D.n
  demand_state = (asked_demand file q asked).state

  supply_state : w < S.n
  supply_state = (asked_supply file q asked).state

  marks_written : marked ≡ overwrite (marks (mode_of mode) D S) first
  unfolding explain_marks slice_after
  marks_written = left ∙ ap (λ (c : Checked). slice_after c (overwrite (marks (mode_of mode) D S) first) first) outcome.0

  abbrev written : List ℕ
  written = flat_map triple_numbers (triples_asked file q mode)

  triples_written : exit ≡ overwrite written second
  unfolding explain_triples slice_after
  triples_written = gone ∙ ap (λ (c : Checked). slice_after c (overwrite written second) second) outcome.0

  triples_first : take (3 * count) exit ≡ written
  unfolding overwrite
  triples_first =
      ap (take (3 * count)) triples_written
      ∙ take_at written (drop (length written) second) (3 * count) (length-triple_numbers (triples_asked file q mode) ∙ ap (λ (k : ℕ). 3 * k) many)

  are : AreTriples (mode_of mode) D S t w (triples_asked file q mode)
  are =
      triples_are D S (demand_sound file q asked) (supply_sound file q asked) (demand_rises file q) (supply_rises file q) (mode_of mode) t w demand_state supply_state

  explain : Explains (mode_of mode) S w (mark (mode_of mode) D S t w) (triples_asked file q mode)
  explain =
      triples_explain D S (demand_sound file q asked) (supply_sound file q asked) (demand_rises file q) (supply_rises file q) (mode_of mode) t w demand_state supply_state
      are (mark (mode_of mode) D S t w) refl

  have_marks : HasMarks (mode_of mode) D S marked
  have_marks = has-marks (mode_of mode) D S first marks_written

  own_mark : mark_at S.n marked t w ≡ mark (mode_of mode) D S t w
  own_mark = have_marks.each t w demand_state supply_state

  pub explain_demand : ExplainDemand (mode_of mode) D S t w count marked exit
  explain_demand = record {
    listed = triples_asked file q mode;
    entries = triples_first;
    many = many;
    are_triples = are;
    by_marks =
        sym (triples_same D S (demand_sound file q asked) (supply_sound file q asked) (demand_rises file q) (supply_rises file q) (mode_of mode) t w demand_state supply_state
        (mark_at S.n marked) have_marks.each)
        ∙ ap (triples_at (mode_of mode) (D.moves t) (S.moves w) (mark_at S.n marked)) (sym own_mark);
    explains = rw own_mark explain;
    marks_are = marks_demand (mode_of mode) D S marked have_marks;
  }

-- what Explain ensures, from its answer and the two slices
pub explain_shown : (file : List ℕ) (q : Question) (mode : ℕ) (first second : List ℕ) {marked exit : List ℕ} (r : Result ℕ Refusal)
    → (counted r ≡ explain_answer file q mode (length first) (length second))
    × ((marked ≡ explain_marks file q mode first (length second)) × (exit ≡ explain_triples file q mode (length first) second))
    → (counted r ≡ explain_answer file q mode (length first) (length second)) × ((marked ≡ explain_marks file q mode first (length second))
    × ((exit ≡ explain_triples file q mode (length first) second) × ExplainDemands file q mode (counted r) marked exit))
explain_shown file q mode first second r (told, (left, gone)) =
    (told, (left, (gone, record { explained = λ count e. explain_demand file q mode first second left gone count (sym told ∙ e) })))
