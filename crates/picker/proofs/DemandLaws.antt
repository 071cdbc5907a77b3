-- What is listed is what document 02 wants shown of it. Relies on the laws of Decide and of the third demand, and on the laws of lists.
use Prim.Native.Nat.{ℕ, ◌*◌, ◌≤◌, ◌<◌}
use mathlib.Core.Path.{◌≡◌, refl, sym, ap, ◌∙◌, subst}
use mathlib.Core.Bool.{Bool, true, false}
use mathlib.Core.List.{List, [], ◌∷◌, ◌++◌, Memᴰ}
use native.Mathlib.Omega.{arith}
use lib.ListN.{length, get_or, take, drop, length-append}
use lib.Seq.{take_at}
use borrow.Author.Tests.{eqb-true}
use Rattle.std.proofs.Common.{Result, Ok}
use Rattle.rules.specs.Below.{one, list_below}
use Rattle.rules.specs.Slices.{overwrite}
use Rattle.rules.proofs.Booleans.{T_true, true-T}
use Rattle.rules.proofs.BelowLaws.{list_below-mem, pairwise-list_below}
use Rattle.rules.proofs.ListLaws.{keep_if-mem, mem_keep_if, pairwise-keep_if}
use Rattle.tables.specs.declared.Refusal.{Refusal}
use Rattle.tables.specs.Checks.{Checked}
use Rattle.tables.specs.Answers.{Answer, answer, counted, carried_out, slice_after}
use Rattle.tables.specs.File.{tables_of}
use Rattle.tables.proofs.CheckLaws.{passed, then_both}
use Rattle.questions.specs.declared.Question.{Question}
use Rattle.questions.specs.Named.{table_checks, as_demand}
use Rattle.questions.specs.Pairs.{pair_checks, demand_of, supply_of}
use Rattle.questions.specs.Modes.{mode_fault, mode_checks}
use Rattle.questions.specs.Starts.{from_starts}
use Rattle.questions.proofs.NamedLaws.{table_there, second_there, both_there}
use Rattle.questions.proofs.PairLaws.{tables_named, few_pairs}
use Rattle.questions.proofs.StartLaws.{starts_pass}
use Rattle.questions.proofs.ModeLaws.{mode_asked}
use Rattle.checker.specs.Decide.{decide_answer}
use Rattle.checker.proofs.DecideLaws.{value_asked, decide_says}
use Rattle.checker.proofs.DemandLaws.{yes_exactly}
use Rattle.picker.specs.Pick.{gets_yes, picked, pick_checks, pick_answer, pick_slice}
use Rattle.picker.specs.Demands.{IsSupply, SaysYes, InSomeSet, IsPicked, PickDemands}
use Rattle.picker.proofs.PickLaws.{none_stops, table_found, mode_found}

-- ---- a yes

module _ (s : List ℕ) (q : Question) (mode : ℕ) where
  first_value : gets_yes s q mode ≡ true → get_or (decide_answer s q mode 4096).values 0 0 ≡ 1
  unfolding gets_yes
  first_value e = eqb-true _ _ e

  yes_asked : gets_yes s q mode ≡ true → mode_checks s q mode ≡ Ok tt
  yes_asked e = value_asked s q mode 4096 0 (first_value e)

  -- a yes with room for the marks of any two tables is one with any room that is enough
  yes_says : gets_yes s q mode ≡ true → SaysYes s q mode
  yes_says e = go (decide_says s q mode (yes_asked e))
    where
      go : ((yes : Bool) × (kept : ℕ) × (highest : ℕ)
          × ((room : ℕ) → (demand_of s q).n * (supply_of s q).n ≤ room → decide_answer s q mode room ≡ carried_out (one yes ∷ kept ∷ highest ∷ [])))
          → SaysYes s q mode
      go (true, kept, highest, h) = record { kept = kept; rounds = highest; answers = h }
      go (false, kept, highest, h) =
          let told = h 4096 (few_pairs s q (mode_asked s q mode (yes_asked e))) in
          let none : ◌≡◌ {A = ℕ} 0 1 = sym (ap (λ (a : Answer). get_or a.values 0 0) told) ∙ first_value e in
          absurd (omega arith)

  says_yes : pair_checks s q ≡ Ok tt → SaysYes s q mode → gets_yes s q mode ≡ true
  unfolding gets_yes
  says_yes asked y = rw (y.answers 4096 (few_pairs s q asked)) refl

  -- by the third demand
  module _ (asked : pair_checks s q ≡ Ok tt) where
    yes_set : SaysYes s q mode → InSomeSet s q mode
    yes_set y =
        let (R, m, h) = (yes_exactly s q mode 4096 1 y.kept y.rounds (y.answers 4096 (few_pairs s q asked))).0 (λ e. let none : ◌≡◌ {A = ℕ} 1 0 = e in absurd (omega arith)) in
        record { R = R; meets = m; holds = h }

    set_yes : mode_fault mode ≡ Ok tt → InSomeSet s q mode → SaysYes s q mode
    unfolding mode_checks
    set_yes known x = go (decide_says s q mode (then_both _ _ asked known))
      where
        go : ((yes : Bool) × (kept : ℕ) × (highest : ℕ)
            × ((room : ℕ) → (demand_of s q).n * (supply_of s q).n ≤ room → decide_answer s q mode room ≡ carried_out (one yes ∷ kept ∷ highest ∷ [])))
            → SaysYes s q mode
        go (true, kept, highest, h) = record { kept = kept; rounds = highest; answers = h }
        go (false, kept, highest, h) = absurd ((yes_exactly s q mode 4096 0 kept highest (h 4096 (few_pairs s q asked))).1 (x.R, x.meets, x.holds) refl)

-- ---- what is listed

module _ (s : List ℕ) (demand mode standing : ℕ) (there : table_checks s (as_demand demand) ≡ Ok tt) (known : mode_fault mode ≡ Ok tt) where
  abbrev q : ℕ → Question
  q i = from_starts s demand i standing

  abbrev numbers : List ℕ
  numbers = picked s demand mode standing

  asked : (i : ℕ) → IsSupply s i → pair_checks s (q i) ≡ Ok tt
  asked i (l, k) =
      let d = table_there s _ there in
      starts_pass s demand i standing (both_there s _ _ d (record { accepted = d.accepted; below = l; kind = k }))

  is_supply : (i : ℕ) → pair_checks s (q i) ≡ Ok tt → IsSupply s i
  is_supply i a = let t = second_there s _ _ (tables_named s (q i) a) in (t.below, t.kind)

  listed_yes : (i : ℕ) → Memᴰ i numbers → gets_yes s (q i) mode ≡ true
  unfolding picked
  listed_yes i m = T_true _ (mem_keep_if (λ i. gets_yes s (q i) mode) (list_below (tables_of s) (λ i. i)) m).1

  yes_listed : (i : ℕ) → IsSupply s i → gets_yes s (q i) mode ≡ true → Memᴰ i numbers
  unfolding picked
  yes_listed i h e = keep_if-mem (λ i. gets_yes s (q i) mode) (list_below-mem (λ i. i) (tables_of s) i h.0) (true-T _ e)

  listed_supply : (i : ℕ) → Memᴰ i numbers → IsSupply s i
  listed_supply i m = is_supply i (mode_asked s (q i) mode (yes_asked s (q i) mode (listed_yes i m)))

  listed_says : (i : ℕ) → Memᴰ i numbers → SaysYes s (q i) mode
  listed_says i m = yes_says s (q i) mode (listed_yes i m)

  says_listed : (i : ℕ) → IsSupply s i → SaysYes s (q i) mode → Memᴰ i numbers
  says_listed i h y = yes_listed i h (says_yes s (q i) mode (asked i h) y)

  pub numbers_picked : IsPicked s demand mode standing numbers
  unfolding picked
  numbers_picked = record {
    says_yes = λ i. (λ m. (listed_supply i m, listed_says i m), λ (h, y). says_listed i h y);
    some_set = λ i. (
      λ m. (listed_supply i m, yes_set s (q i) mode (asked i (listed_supply i m)) (listed_says i m)),
      λ (h, x). says_listed i h (set_yes s (q i) mode (asked i h) known x),
    );
    rising = pairwise-keep_if ◌<◌ _ _ (pairwise-list_below (λ i. i) ◌<◌ (λ i j l. l) (tables_of s));
  }

-- ---- of a call

module _ (file : List ℕ) (demand mode standing : ℕ) (entry exit : List ℕ) (left : exit ≡ pick_slice file demand mode standing entry)
    (count : ℕ) (told : pick_answer file demand mode standing (length entry) ≡ carried_out (count ∷ [])) where
  abbrev listed : List ℕ
  listed = picked file demand mode standing

  outcome : (pick_checks file demand mode standing (length entry) ≡ Ok tt) × (length listed ∷ [] ≡ count ∷ [])
  unfolding pick_answer
  outcome = passed (pick_checks file demand mode standing (length entry)) _ _ _ told

  many : length listed ≡ count
  many = ap (λ (l : List ℕ). get_or l 0 0) outcome.1

  written : exit ≡ listed ++ drop (length listed) entry
  unfolding pick_slice slice_after overwrite
  written = left ∙ ap (λ (c : Checked). slice_after c (overwrite listed entry) entry) outcome.0

  has_room : count ≤ length exit
  has_room = rw written (omega (arith, many, length-append listed (drop (length listed) entry)))

  first_are : take count exit ≡ listed
  first_are = ap (take count) written ∙ take_at listed (drop (length listed) entry) count many

  call_picked : IsPicked file demand mode standing (take count exit)
  call_picked =
      subst (IsPicked file demand mode standing) (sym first_are)
      (numbers_picked file demand mode standing (table_found _ _ _ _ _ outcome.0) (mode_found _ _ _ _ _ outcome.0))

-- what a call ensures, from its answer and the bytes
pub pick_shown : (file : List ℕ) (demand mode standing : ℕ) (entry exit : List ℕ) (r : Result ℕ Refusal)
    → (counted r ≡ pick_answer file demand mode standing (length entry)) × (exit ≡ pick_slice file demand mode standing entry)
    → (counted r ≡ pick_answer file demand mode standing (length entry))
    × ((exit ≡ pick_slice file demand mode standing entry) × PickDemands file demand mode standing (counted r) exit)
pick_shown file demand mode standing entry exit r (told, left) = (
  told,
  (
    left,
    record {
      room = λ count e. has_room file demand mode standing entry exit left count (sym told ∙ e);
      listed = λ count e. call_picked file demand mode standing entry exit left count (sym told ∙ e);
    },
  ),
)

-- carried out: the numbers stand before the rest of the bytes
pub pick_written : (file : List ℕ) (demand mode standing : ℕ) → table_checks file (as_demand demand) ≡ Ok tt → mode_fault mode ≡ Ok tt
    → (entry exit numbers : List ℕ) (count : ℕ) {returned : ℕ} → numbers ≡ picked file demand mode standing → returned ≡ length (picked file demand mode standing)
    → length (picked file demand mode standing) ≤ length entry → count ≡ returned → exit ≡ numbers ++ drop count entry
    → (carried_out (returned ∷ []) ≡ pick_answer file demand mode standing (length entry)) × (exit ≡ pick_slice file demand mode standing entry)
unfolding pick_answer pick_slice answer slice_after overwrite
pick_written file demand mode standing there known entry exit numbers count same many long of left =
    let none = none_stops file demand mode standing (length entry) there known long in
    (rw (none, many) refl, rw none (left ∙ rw (of, many, same) refl))
