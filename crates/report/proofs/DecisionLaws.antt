-- What Decide and Run answer about a pair that was asked about, with room for the most pairs there can be. Relies on the laws of `checker`.
use Prim.Native.Nat.{ℕ, suc, ◌*◌, ◌≤◌}
use mathlib.Core.Path.{◌≡◌, refl, ap, ◌∙◌}
use mathlib.Core.List.{List, [], ◌∷◌}
use native.Mathlib.Omega.{arith}
use lib.Dec.{eqb}
use lib.ListN.{length, get_or, take, drop}
use lib.Seq.{take_at}
use Rattle.rules.specs.Below.{one}
use Rattle.rules.specs.Slices.{overwrite}
use Rattle.rules.specs.Machines.{Machine}
use Rattle.rules.specs.Rounds.{mark, kept_count, rounds}
use Rattle.rules.proofs.BelowLaws.{one_same}
use Rattle.rules.proofs.MarkLaws.{mark_within}
use Rattle.rules.proofs.StepLaws.{length-steps}
use Rattle.tables.specs.declared.Refusal.{Refusal}
use Rattle.tables.specs.Answers.{Answer, answer, counted, carried_out, turned_back, slice_after}
use Rattle.std.proofs.Common.{Result, Ok, Err, IsOk}
use Rattle.questions.specs.declared.Question.{Question}
use Rattle.questions.specs.Pairs.{pair_checks, demand_of, supply_of}
use Rattle.questions.specs.Modes.{mode_of}
use Rattle.questions.proofs.PairLaws.{few_pairs}
use Rattle.questions.proofs.ModeLaws.{known_mode}
use Rattle.checker.specs.declared.Verdict.{Verdict}
use Rattle.checker.specs.Calls.{decided}
use Rattle.checker.specs.Decide.{decide_answer}
use Rattle.checker.specs.Run.{run_checks, run_answer, run_steps}
use Rattle.checker.proofs.DecideLaws.{none_fault}
use Rattle.checker.proofs.RunLaws.{no_fault}
use Rattle.report.specs.Pages.{verdict_at, steps_at}

-- values that are returned are no refusal
values_refused : (r : Refusal) (x : ℕ) (xs : List ℕ) → turned_back r ≡ carried_out (x ∷ xs) → ⊥
values_refused r x xs e = let none : 0 ≡ suc (length xs) = ap (λ (a : Answer). length a.values) e in omega arith

module _ (s : List ℕ) (q : Question) (a : pair_checks s q ≡ Ok tt) where
  module _ (mode : ℕ) (known : mode ≤ 1) (room : ℕ) (enough : 4096 ≤ room) where
    abbrev D : Machine
    D = demand_of s q

    abbrev S : Machine
    S = supply_of s q

    abbrev start : ℕ
    start = mark (mode_of mode) D S q.demand.state q.supply.state

    long : D.n * S.n ≤ room
    long = let few = few_pairs s q a in omega arith

    decided_is : decide_answer s q mode room ≡ carried_out (one (eqb start 0) ∷ kept_count (mode_of mode) D S ∷ rounds (mode_of mode) D S ∷ [])
    unfolding decide_answer answer
    decided_is = rw (none_fault s q mode (known_mode s q mode a known) room long) refl

    pub decide_ok : (d : Result Verdict Refusal) → decided d ≡ decide_answer s q mode room → IsOk d
    decide_ok (Ok v) e = refl
    decide_ok (Err r) e = absurd (values_refused r _ _ (e ∙ decided_is))

    pub decide_answered : (v : Verdict) → carried_out (one v.yes ∷ v.kept ∷ v.rounds ∷ []) ≡ decide_answer s q mode room
        → v ≡ verdict_at (mode_of mode) s q
    decide_answered v e =
        let values = ap (λ (x : Answer). x.values) (e ∙ decided_is) in
        let p : v.yes ≡ eqb start 0 = one_same _ _ (ap (λ (l : List ℕ). get_or l 0 0) values) in
        let k : v.kept ≡ kept_count (mode_of mode) D S = ap (λ (l : List ℕ). get_or l 1 0) values in
        let n : v.rounds ≡ rounds (mode_of mode) D S = ap (λ (l : List ℕ). get_or l 2 0) values in
        λ i. record { yes = p i; kept = k i; rounds = n i }

    module _ (more : ℕ) (wide : 8192 ≤ more) where
      passes : run_checks s q mode room more ≡ Ok tt
      passes = no_fault s q mode (known_mode s q mode a known) room long more (let few = few_pairs s q a in omega arith)

      run_is : run_answer s q mode room more ≡ carried_out (start ∷ [])
      unfolding run_answer answer
      run_is = rw passes refl

      pub run_ok : (n : Result ℕ Refusal) → counted n ≡ run_answer s q mode room more → IsOk n
      run_ok (Ok v) e = refl
      run_ok (Err r) e = absurd (values_refused r _ _ (e ∙ run_is))

      run_counted : (count : ℕ) → carried_out (count ∷ []) ≡ run_answer s q mode room more → count ≡ start
      run_counted count e = ap (λ (x : Answer). get_or x.values 0 0) (e ∙ run_is)

      pub steps_fit_in : (count : ℕ) → carried_out (count ∷ []) ≡ run_answer s q mode room more → 2 * count ≤ 8192
      steps_fit_in count e =
          let most = mark_within (mode_of mode) D S q.demand.state q.supply.state in
          let few = few_pairs s q a in
          let many = run_counted count e in
          omega arith

    run_steps_lem : (entry : List ℕ) → 8192 ≤ length entry
        → run_steps s q mode room entry ≡ overwrite (steps_at (mode_of mode) s q) entry
    unfolding run_steps slice_after
    run_steps_lem entry wide = rw (passes (length entry) wide) refl

    -- as many entries as the count says hold them
    pub steps_written : (entry exit : List ℕ) (count : ℕ) → 8192 ≤ length entry → exit ≡ run_steps s q mode room entry
        → carried_out (count ∷ []) ≡ run_answer s q mode room (length entry) → take (2 * count) exit ≡ steps_at (mode_of mode) s q
    unfolding overwrite
    steps_written entry exit count wide e told =
        let run : List ℕ = steps_at (mode_of mode) s q in
        let many = run_counted (length entry) wide count told in
        (λ i. take (2 * many i) ((e ∙ run_steps_lem entry wide) i))
        ∙ take_at run (drop (length run) entry) (2 * start) (length-steps (mode_of mode) D S q.demand.state q.supply.state)
