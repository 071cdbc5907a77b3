-- Laws of slices of bytes that are lent for marks or steps: what a covered call writes to entries goes to the bytes. Relies on the laws of such bytes, of room,
-- and of `checker`.
use Rattle.std.proofs.Common.{◌≡◌, ℕ, suc, ◌*◌, ◌≤◌, min, List, [], ◌∷◌, length, get_or, take, drop, refl, sym, ap, ◌∙◌, Ok, Err, arith}
use lib.Seq.{take_at}
use borrow.Author.Tests.{ltb-false}
use Rattle.rules.specs.Slices.{overwrite}
use Rattle.rules.specs.Rounds.{mark, marks}
use Rattle.rules.specs.Steps.{steps}
use Rattle.rules.specs.Machines.{Machine}
use Rattle.rules.proofs.MarkLaws.{length-marks, mark_within}
use Rattle.rules.proofs.StepLaws.{length-steps}
use Rattle.tables.specs.declared.Refusal.{Refusal}
use Rattle.tables.specs.Checks.{Checked}
use Rattle.tables.specs.Answers.{Answer, answer, turned_back, carried_out, slice_after}
use Rattle.tables.proofs.CheckLaws.{fault_passed, then_left, then_right, passed}
use Rattle.questions.specs.declared.Question.{Question}
use Rattle.questions.specs.Pairs.{demand_of, supply_of}
use Rattle.questions.specs.Modes.{mode_of}
use Rattle.checker.specs.Decide.{decide_checks, decide_answer, decide_slice}
use Rattle.checker.specs.Run.{run_checks, run_answer, run_marks, run_steps}
use Rattle.exports.specs.Bytes.{word_bytes, words_in}
use Rattle.checker.specs.Demands.{DecideDemands, RunDemands}
use Rattle.checker.proofs.DemandLaws.{second_demand, third_demand}
use Rattle.checker.proofs.RunLaws.{run_demand}
use Rattle.exports.specs.Calls.{decide_lent, decide_lent_marks, run_lent, run_lent_marks, run_lent_steps}
use Rattle.exports.specs.Lent.{Holds, AllBelow}
use Rattle.exports.proofs.ByteLaws.{length-words, holds_same, holds_written}
use Rattle.exports.proofs.RoomLaws.{decide_room, run_room}

-- what a slice of bytes holds after a call that makes checks, and then writes xs
module _ (bytes : List ℕ) (small : AllBelow 256 bytes) (xs : List ℕ) where
  -- turned back, what it held
  pub lent_back : (c : Checked) (r : Refusal) (v : ℕ) (vs : List ℕ) → turned_back r ≡ answer c (v ∷ vs)
      → Holds (slice_after c (overwrite xs (words_in bytes)) (words_in bytes)) bytes bytes
  unfolding answer slice_after
  lent_back (Ok u) r v vs e = let none : 0 ≡ suc (length vs) = ap (λ (a : Answer). length a.values) e in absurd (omega arith)
  lent_back (Err q) r v vs e = holds_same bytes small

  -- carried out, what was written to entries
  pub lent_put : (c : Checked) (cut exit : List ℕ) (n : ℕ) {after : List ℕ} → c ≡ Ok tt → exit ≡ slice_after c (overwrite xs cut) cut → length xs ≡ n
      → 2 * n ≤ length bytes → AllBelow 65536 (take n exit) → after ≡ overwrite (word_bytes (take n exit)) bytes
      → Holds (slice_after c (overwrite xs (words_in bytes)) (words_in bytes)) bytes after
  unfolding slice_after overwrite
  lent_put c cut exit n p e long room few w =
      let first : take n exit ≡ xs = ap (take n) e ∙ rw p (take_at xs (drop (length xs) cut) n long) in
      rw p (holds_written xs bytes (omega arith) (rw first at few) small (rw first at w))

-- ---- Decide

-- a call that is carried out has room for the marks
decide_fits : (s : List ℕ) (q : Question) (mode room : ℕ) → decide_checks s q mode room ≡ Ok tt → (demand_of s q).n * (supply_of s q).n ≤ room
unfolding decide_checks
decide_fits s q mode room e = ltb-false _ _ (fault_passed _ _ _ (then_right _ _ e))

module _ (s : List ℕ) (q : Question) (mode : ℕ) (bytes cut : List ℕ) (long : length cut ≡ min 4096 (length (words_in bytes))) where
  abbrev D : Machine
  D = demand_of s q

  abbrev S : Machine
  S = supply_of s q

  same_checks : decide_checks s q mode (length cut) ≡ decide_checks s q mode (length (words_in bytes))
  same_checks = decide_room s q mode _ _ long

  pub decide_same : decide_answer s q mode (length cut) ≡ decide_lent s q mode bytes
  unfolding decide_answer
  decide_same = rw same_checks refl

  -- carried out, there is room for the marks in the entries and in the bytes
  pub decide_reach : (v : ℕ) (vs : List ℕ) → carried_out (v ∷ vs) ≡ decide_answer s q mode (length cut)
      → (D.n * S.n ≤ length cut) × (2 * (D.n * S.n) ≤ length bytes)
  unfolding decide_answer
  decide_reach v vs told =
      let fits = decide_fits s q mode _ (passed (decide_checks s q mode (length cut)) v vs _ (sym told)).0 in (fits, omega (arith, length-words bytes))

  module _ (small : AllBelow 256 bytes) where
    pub decide_back : (r : Refusal) → turned_back r ≡ decide_answer s q mode (length cut) → Holds (decide_slice s q mode (words_in bytes)) bytes bytes
    unfolding decide_answer decide_slice
    decide_back r e = lent_back bytes small _ _ r _ _ (e ∙ decide_same)

    pub decide_put : (v : ℕ) (vs exit : List ℕ) (n : ℕ) {after : List ℕ} → carried_out (v ∷ vs) ≡ decide_answer s q mode (length cut) → exit ≡ decide_slice s q mode cut
        → n ≡ D.n * S.n → AllBelow 65536 (take n exit) → after ≡ overwrite (word_bytes (take n exit)) bytes → Holds (decide_slice s q mode (words_in bytes)) bytes after
    unfolding decide_answer decide_slice
    decide_put v vs exit n told e many few w =
        let room = (decide_reach v vs told).1 in
        lent_put bytes small (marks (mode_of mode) D S) _ cut exit n ((passed _ v vs _ (sym (told ∙ decide_same))).0) (e ∙ rw same_checks refl)
        (length-marks (mode_of mode) D S ∙ sym many) (omega arith) few w

-- what Decide leaves meets the demands
pub decide_meets : (s : List ℕ) (q : Question) (mode : ℕ) (bytes words : List ℕ) → words ≡ decide_lent_marks s q mode bytes
    → DecideDemands s q mode (decide_lent s q mode bytes) words
decide_meets s q mode bytes words e = record {
  second = λ v k n told. second_demand s q mode (words_in bytes) words e v k n told;
  third = λ v k n told. third_demand s q mode (words_in bytes) words e v k n told;
}

-- ---- Run

-- a call that is carried out has room for the steps
run_fits : (s : List ℕ) (q : Question) (mode marks_room steps_room : ℕ) → run_checks s q mode marks_room steps_room ≡ Ok tt
    → 2 * ((demand_of s q).n * (supply_of s q).n) ≤ steps_room
unfolding run_checks
run_fits s q mode marks_room steps_room e = ltb-false _ _ (fault_passed _ _ _ (then_right _ _ e))

module _ (s : List ℕ) (q : Question) (mode : ℕ) (bytes cut : List ℕ) (long : length cut ≡ min 4096 (length (words_in bytes)))
    (more second : List ℕ) (wide : length second ≡ min 8192 (length (words_in more))) where
  abbrev D' : Machine
  D' = demand_of s q

  abbrev S' : Machine
  S' = supply_of s q

  same_run : run_checks s q mode (length cut) (length second) ≡ run_checks s q mode (length (words_in bytes)) (length (words_in more))
  same_run = run_room s q mode _ _ _ _ long wide

  pub run_same : run_answer s q mode (length cut) (length second) ≡ run_lent s q mode bytes more
  unfolding run_answer
  run_same = rw same_run refl

  module _ (count : ℕ) (told : carried_out (count ∷ []) ≡ run_answer s q mode (length cut) (length second)) where
    outcome : (run_checks s q mode (length cut) (length second) ≡ Ok tt) × (mark (mode_of mode) D' S' q.demand.state q.supply.state ∷ [] ≡ count ∷ [])
    unfolding run_answer
    outcome = passed _ count [] _ (sym told)

    long_run : length (steps (mode_of mode) D' S' q.demand.state q.supply.state) ≡ 2 * count
    long_run = length-steps (mode_of mode) D' S' q.demand.state q.supply.state ∙ ap (λ (l : List ℕ). 2 * get_or l 0 0) outcome.1

    -- carried out, there is room for the marks and for the steps
    pub marks_reach : (D'.n * S'.n ≤ length cut) × (2 * (D'.n * S'.n) ≤ length bytes)
    unfolding run_checks
    marks_reach = let fits = decide_fits s q mode _ (then_left _ _ outcome.0) in (fits, omega (arith, length-words bytes))

    pub steps_reach : (2 * count ≤ length second) × (2 * (2 * count) ≤ length more)
    steps_reach =
        let fits = run_fits s q mode _ _ outcome.0 in
        let within = mark_within (mode_of mode) D' S' q.demand.state q.supply.state in
        let many = ap (λ (l : List ℕ). get_or l 0 0) outcome.1 in
        (omega arith, omega (arith, length-words more))

  module _ (small : AllBelow 256 bytes) (fine : AllBelow 256 more) where
    pub run_back : (r : Refusal) → turned_back r ≡ run_answer s q mode (length cut) (length second)
        → Holds (run_marks s q mode (words_in bytes) (length (words_in more))) bytes bytes
        × Holds (run_steps s q mode (length (words_in bytes)) (words_in more)) more more
    unfolding run_answer run_marks run_steps
    run_back r e = (lent_back bytes small _ _ r _ _ (e ∙ run_same), lent_back more fine _ _ r _ _ (e ∙ run_same))

    module _ (count : ℕ) (told : carried_out (count ∷ []) ≡ run_answer s q mode (length cut) (length second)) where
      pub marks_put : (exit : List ℕ) (n : ℕ) {after : List ℕ} → exit ≡ run_marks s q mode cut (length second) → n ≡ D'.n * S'.n
          → AllBelow 65536 (take n exit) → after ≡ overwrite (word_bytes (take n exit)) bytes
          → Holds (run_marks s q mode (words_in bytes) (length (words_in more))) bytes after
      unfolding run_marks
      marks_put exit n e many few w =
          let room = (marks_reach count told).1 in
          lent_put bytes small (marks (mode_of mode) D' S') _ cut exit n (sym same_run ∙ (outcome count told).0) (e ∙ rw same_run refl)
          (length-marks (mode_of mode) D' S' ∙ sym many) (omega arith) few w

      pub steps_put : (exit : List ℕ) (n : ℕ) {after : List ℕ} → exit ≡ run_steps s q mode (length cut) second → n ≡ 2 * count
          → AllBelow 65536 (take n exit) → after ≡ overwrite (word_bytes (take n exit)) more
          → Holds (run_steps s q mode (length (words_in bytes)) (words_in more)) more after
      unfolding run_steps
      steps_put exit n e many few w =
          let room = (steps_reach count told).1 in
          lent_put more fine (steps (mode_of mode) D' S' q.demand.state q.supply.state) _ second exit n (sym same_run ∙ (outcome count told).0)
          (e ∙ rw same_run refl) (long_run count told ∙ sym many) (omega arith) few w

-- what Run leaves meets the demand
pub run_meets : (s : List ℕ) (q : Question) (mode : ℕ) (bytes more words steps_after : List ℕ) → words ≡ run_lent_marks s q mode bytes more
    → steps_after ≡ run_lent_steps s q mode bytes more → RunDemands s q mode (run_lent s q mode bytes more) words steps_after
run_meets s q mode bytes more words steps_after e f = record {
  second = λ count told. run_demand s q mode (words_in bytes) (words_in more) e f count told;
}
