-- Laws of Decide: the answer and the slice, by what the checks find. Relies on the laws of questions about a pair and of marks.
use Prim.Native.Nat.{ℕ, ◌*◌, ◌≤◌, ◌<◌, suc}
use mathlib.Core.Path.{◌≡◌, refl, ap, ap₂, ◌∙◌}
use mathlib.Core.List.{List, [], ◌∷◌}
use native.Mathlib.Omega.{arith}
use lib.Dec.{eqb}
use lib.ListN.{length, get_or}
use borrow.Author.Tests.{lt-ltb, le-ltb}
use Rattle.rules.specs.declared.Mode.{Mode}
use Rattle.rules.specs.declared.Pair.{Pair}
use Rattle.rules.specs.Below.{one}
use Rattle.rules.specs.Slices.{overwrite}
use Rattle.rules.specs.Machines.{Machine}
use Rattle.rules.specs.Rounds.{mark, mark_at, marks, kept_count, rounds}
use Rattle.tables.specs.Checks.{refuse, fault, ◌then◌, Checked}
use Rattle.tables.specs.Answers.{answer, carried_out, slice_after}
use Rattle.tables.proofs.CheckLaws.{then_left}
use Rattle.tables.specs.declared.Reason.TheVariants.{NoRoom}
use Rattle.std.proofs.Common.{Ok, Err, Bool}
use Rattle.machines.specs.Machine.{machine_in}
use Rattle.questions.specs.declared.Loaded.{Loaded}
use Rattle.marks.specs.declared.Summary.{Summary}
use Rattle.marks.specs.Rounds.{summary_of}
use Rattle.marks.proofs.RoundLaws.{has-marks}
use Rattle.questions.specs.declared.Question.{Question}
use Rattle.questions.specs.Pairs.{pair_checks, demand_of, supply_of, PairLoaded}
use Rattle.questions.specs.Modes.{mode_of, mode_checks}
use Rattle.questions.proofs.PairLaws.{asked_demand, asked_supply}
use Rattle.questions.proofs.ModeLaws.{mode_asked}
use Rattle.checker.specs.Decide.{decide_checks, decide_answer, decide_slice}

-- where no number applies, the pair was asked about
pub decide_asked : (s : List ℕ) (q : Question) (mode room : ℕ) → decide_checks s q mode room ≡ Ok tt → pair_checks s q ≡ Ok tt
unfolding decide_checks
decide_asked s q mode room e = mode_asked s q mode (then_left _ _ e)

-- where the first value is above 0, too
pub value_asked : (s : List ℕ) (q : Question) (mode room v : ℕ) → get_or (decide_answer s q mode room).values 0 0 ≡ suc v → mode_checks s q mode ≡ Ok tt
unfolding decide_answer decide_checks answer
value_asked s q mode room v e = go _ (decide_checks s q mode room) refl e
  where
    go : (values : List ℕ) (c : Checked) → decide_checks s q mode room ≡ c → get_or (answer c values).values 0 0 ≡ suc v → mode_checks s q mode ≡ Ok tt
    go values (Ok u) p e = then_left _ _ p
    go values (Err r) p e = let none : 0 ≡ suc v = e in absurd (omega arith)

module _ (s : List ℕ) (q : Question) (mode : ℕ) (a : mode_checks s q mode ≡ Ok tt) where
  pub short_fault : (room : ℕ) → room < (demand_of s q).n * (supply_of s q).n → decide_checks s q mode room ≡ Err (refuse NoRoom 0)
  unfolding decide_checks ◌then◌ fault
  short_fault room l = rw (a, lt-ltb room ((demand_of s q).n * (supply_of s q).n) l) refl

  pub none_fault : (room : ℕ) → (demand_of s q).n * (supply_of s q).n ≤ room → decide_checks s q mode room ≡ Ok tt
  unfolding decide_checks ◌then◌ fault
  none_fault room l = rw (a, le-ltb room ((demand_of s q).n * (supply_of s q).n) l) refl

  -- with room for the pairs it says yes or no, and the same whatever the room
  pub decide_says : (yes : Bool) × (kept : ℕ) × (highest : ℕ)
      × ((room : ℕ) → (demand_of s q).n * (supply_of s q).n ≤ room → decide_answer s q mode room ≡ carried_out (one yes ∷ kept ∷ highest ∷ []))
  unfolding decide_answer answer
  decide_says =
      let D : Machine = demand_of s q in
      let S : Machine = supply_of s q in (
        eqb (mark (mode_of mode) D S q.demand.state q.supply.state) 0,
        kept_count (mode_of mode) D S,
        rounds (mode_of mode) D S,
        λ room l. rw (none_fault room l) refl,
      )

  asked : pair_checks s q ≡ Ok tt
  asked = mode_asked s q mode a

  -- carried out: the start's mark tells yes or no, and the marks stand before the rest of the slice
  module _ {l : Loaded} (x : PairLoaded s q l) (m : Mode) (same : m ≡ mode_of mode) (entry exit : List ℕ)
      (left : exit ≡ overwrite (marks m (machine_in l.demand) (machine_in l.supply)) entry) where
    pub marks_written : exit ≡ overwrite (marks (mode_of mode) (demand_of s q) (supply_of s q)) entry
    marks_written = left ∙ rw (same, x.demand_is, x.supply_is) refl

    -- the mark that is read
    start_mark : {v n : ℕ} → v ≡ mark_at n exit l.start.demand l.start.supply → n ≡ (machine_in l.supply).n
        → v ≡ mark (mode_of mode) (demand_of s q) (supply_of s q) q.demand.state q.supply.state
    start_mark f e =
        f ∙ ap (λ (k : ℕ). mark_at k exit l.start.demand l.start.supply) e
        ∙ ap (λ (z : Pair). mark_at (machine_in l.supply).n exit z.demand z.supply) x.start_is
        ∙ ap₂ (λ (n : ℕ) (l : List ℕ). mark_at n l q.demand.state q.supply.state) (ap (λ (M : Machine). M.n) x.supply_is) marks_written
        ∙ (has-marks (mode_of mode) (demand_of s q) (supply_of s q) entry refl).each q.demand.state q.supply.state (asked_demand s q asked).state (asked_supply s q asked).state

    pub decide_written : {v n : ℕ} → (demand_of s q).n * (supply_of s q).n ≤ length entry → v ≡ mark_at n exit l.start.demand l.start.supply
        → n ≡ (machine_in l.supply).n → (sum : Summary) → sum ≡ summary_of m (machine_in l.demand) (machine_in l.supply)
        → (carried_out (one (eqb v 0) ∷ sum.kept ∷ sum.rounds ∷ []) ≡ decide_answer s q mode (length entry)) × (exit ≡ decide_slice s q mode entry)
    unfolding decide_answer decide_slice answer slice_after
    decide_written room f e sum told = (
      rw (none_fault (length entry) room, start_mark f e, told, same, x.demand_is, x.supply_is) refl,
      rw (none_fault (length entry) room) marks_written,
    )
