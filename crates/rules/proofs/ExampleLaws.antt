-- The worked examples hold, by computation from the definitions alone: a wrong reading that an example tells apart is refused here, and another
-- wording of the right one is not.
use Prim.Native.Nat.{ℕ, ◌<◌}
use mathlib.Core.Path.{◌≡◌, refl, ap₂}
use mathlib.Core.Bool.{Bool, true, false, not, ◌&&◌}
use mathlib.Core.List.{List, [], ◌∷◌, flat_map, Memᴰ}
use lib.Dec.{T, T_not, eqb, eqb→eq, ltb, ltb→lt}
use lib.ListN.{length}
use Rattle.rules.specs.declared.Row.{Row}
use Rattle.rules.specs.Lists.{all, is_empty}
use Rattle.rules.specs.Sets.{intersection, union, disjoint, shares_outside, difference, inside, larger, maximal}
use Rattle.rules.specs.Rows.{rises}
use Rattle.rules.specs.Machines.{Table, row_moves, state_moves, machine}
use Rattle.rules.specs.Moves.{left_of, consumed_of, unmet_of, candidates, prunes, survivors_of, survivors, numbers}
use Rattle.rules.specs.Below.{list_below, lists_below, one}
use Rattle.rules.specs.Rounds.{has_response, slot_holds, pair_holds, is_pair, keeps, losing, mark_by, mark, marks, count_pairs, running_count}
use Rattle.rules.specs.Reach.{reaches_by, reaches, reached_count, is_blocked, is_free, count_on_yes}
use Rattle.rules.specs.Steps.{follows, struck_by, lacks_response, step_to, last_slot, slots, steps}
use Rattle.rules.specs.Explanations.{responses_to, last_triple, triples, triple_entries}
use Rattle.rules.specs.Products.{insert_row, insert_rows, product_rows, product}
use Rattle.rules.specs.Join.{join}
use Rattle.rules.specs.Merge.{live_by, live, merge}
use Rattle.rules.specs.Examples.{demand_e, supply_e, fin_only, demand_fifth, demand_sixth, then_fin, once, at_most_once, repeated, two_slots, ends_or_repeats, one_or_two, stuck_supply, nothing_or_one, six_or_seven, repeats_or_ends, uneven_demand, uneven_supply, other_last, first_or_last, two_in_turn, three_in_turn, goes_on_with_zero, zero_each_third, ends_stuck, turns_or_ends_stuck, for_ever, crossed_first, crossed_second, zero_thrice, zero_last, in_turn, each_second, each_fifth, none_or_high, low_or_high, supply_with, examples}
use Rattle.rules.specs.Examples.{Example, Means, MeansWith, with_standing, moves_are, marks_are, counts_are, says_yes, says_no, run_is, triples_are, reach_is, join_is, join_count, merge_is, live_are, is_stuck}
use Rattle.rules.proofs.Booleans.{eq-T, and_l, and_r}
use Rattle.rules.proofs.ListLaws.{all-each}

-- ---- equality as a test

module _ {A : Type 0} (same : A → A → Bool) (equal : (x y : A) → T (same x y) → x ≡ y) where
  same_list : List A → List A → Bool
  same_list [] [] = true
  same_list [] (y ∷ ys) = false
  same_list (x ∷ xs) [] = false
  same_list (x ∷ xs) (y ∷ ys) = same x y && same_list xs ys

  equal_list : (l r : List A) → T (same_list l r) → l ≡ r
  unfolding same_list
  equal_list [] [] t = refl
  equal_list [] (y ∷ ys) t = absurd t
  equal_list (x ∷ xs) [] t = absurd t
  equal_list (x ∷ xs) (y ∷ ys) t =
      ap₂ (λ (a : A) (l : List A). a ∷ l) (equal x y (and_l (same x y) (same_list xs ys) t)) (equal_list xs ys (and_r (same x y) (same_list xs ys) t))

same_row : Row → Row → Bool
same_row x y = eqb x.from y.from && (eqb x.target y.target && eqb x.set y.set)

equal_row : (x y : Row) → T (same_row x y) → x ≡ y
unfolding same_row
equal_row x y t =
    let from = eqb→eq x.from y.from (and_l (eqb x.from y.from) (eqb x.target y.target && eqb x.set y.set) t) in
    let rest = and_r (eqb x.from y.from) (eqb x.target y.target && eqb x.set y.set) t in
    let target = eqb→eq x.target y.target (and_l (eqb x.target y.target) (eqb x.set y.set) rest) in
    let set = eqb→eq x.set y.set (and_r (eqb x.target y.target) (eqb x.set y.set) rest) in
    λ i. record { from = from i; target = target i; set = set i }

same_table : Table → Table → Bool
same_table A B = eqb A.n B.n && same_list same_row equal_row A.rows B.rows

equal_table : (A B : Table) → T (same_table A B) → A ≡ B
unfolding same_table
equal_table A B t =
    let n = eqb→eq A.n B.n (and_l (eqb A.n B.n) (same_list same_row equal_row A.rows B.rows) t) in
    let rows = equal_list same_row equal_row A.rows B.rows (and_r (eqb A.n B.n) (same_list same_row equal_row A.rows B.rows) t) in
    λ i. record { n = n i; rows = rows i }

same_numbers : List ℕ → List ℕ → Bool
same_numbers = same_list eqb eqb→eq

-- ---- an example as a test

test : ℕ → Example → Bool
test standing (moves_are D S t s l) = same_numbers (flat_map numbers (survivors (machine D) (supply_with standing S) t s)) l
test standing (marks_are mode D S l) = same_numbers (marks mode (machine D) (supply_with standing S)) l
test standing (counts_are mode D S l) = same_numbers (list_below (length l) (running_count mode (machine D) (supply_with standing S))) l
test standing (says_yes mode D S t s) = ltb t D.n && (ltb s S.n && eqb (mark mode (machine D) (supply_with standing S) t s) 0)
test standing (says_no mode D S t s) = ltb t D.n && (ltb s S.n && not (eqb (mark mode (machine D) (supply_with standing S) t s) 0))
test standing (run_is mode D S t s l) = same_numbers (steps mode (machine D) (supply_with standing S) t s) l
test standing (triples_are mode D S t s l) = same_numbers (triple_entries mode (machine D) (supply_with standing S) t s) l
test standing (reach_is D S t s l) =
    same_numbers (one (is_free (machine D) (supply_with standing S) t s) ∷ count_on_yes (machine D) (supply_with standing S) t s ∷ []) l
test standing (join_is common A B J) = same_table (join common (machine A) (machine B)) J
test standing (join_count common A B m) = eqb (length (join common (machine A) (machine B)).rows) m
test standing (merge_is A B J) = same_table (merge (machine A) (machine B)) J
test standing (live_are A B l) = same_numbers (lists_below A.n (λ a. list_below B.n (λ b. one (live (machine A) (machine B) a b)))) l
test standing (is_stuck A q) = ltb q A.n && is_empty (state_moves A.rows q)
test standing (with_standing more e) = test (union standing more) e

empty_list : {A : Type 0} (l : List A) → T (is_empty l) → l ≡ []
empty_list [] t = refl
empty_list (x ∷ xs) t = absurd t

-- two states, and a test that tells a fact about them
states : {P : Type 0} (t s n m : ℕ) (b : Bool) → (T b → P) → T (ltb t n && (ltb s m && b)) → (t < n) × (s < m) × P
states t s n m b f h =
    let rest : T (ltb s m && b) = and_r (ltb t n) (ltb s m && b) h in
    (ltb→lt t n (and_l (ltb t n) (ltb s m && b) h), ltb→lt s m (and_l (ltb s m) b rest), f (and_r (ltb s m) b rest))

tested : (standing : ℕ) (e : Example) → T (test standing e) → MeansWith standing e
unfolding test MeansWith same_numbers
tested standing (moves_are D S t s l) h = equal_list eqb eqb→eq (flat_map numbers (survivors (machine D) (supply_with standing S) t s)) l h
tested standing (marks_are mode D S l) h = equal_list eqb eqb→eq (marks mode (machine D) (supply_with standing S)) l h
tested standing (counts_are mode D S l) h = equal_list eqb eqb→eq (list_below (length l) (running_count mode (machine D) (supply_with standing S))) l h
tested standing (says_yes mode D S t s) h = states t s D.n S.n (eqb (mark mode (machine D) (supply_with standing S) t s) 0) (eqb→eq (mark mode (machine D) (supply_with standing S) t s) 0) h
tested standing (says_no mode D S t s) h =
    states t s D.n S.n (not (eqb (mark mode (machine D) (supply_with standing S) t s) 0))
    (λ h e. T_not (eqb (mark mode (machine D) (supply_with standing S) t s) 0) h (eq-T (mark mode (machine D) (supply_with standing S) t s) 0 e)) h
tested standing (run_is mode D S t s l) h = equal_list eqb eqb→eq (steps mode (machine D) (supply_with standing S) t s) l h
tested standing (triples_are mode D S t s l) h = equal_list eqb eqb→eq (triple_entries mode (machine D) (supply_with standing S) t s) l h
tested standing (reach_is D S t s l) h =
    equal_list eqb eqb→eq (one (is_free (machine D) (supply_with standing S) t s) ∷ count_on_yes (machine D) (supply_with standing S) t s ∷ []) l h
tested standing (join_is common A B J) h = equal_table (join common (machine A) (machine B)) J h
tested standing (join_count common A B m) h = eqb→eq (length (join common (machine A) (machine B)).rows) m h
tested standing (merge_is A B J) h = equal_table (merge (machine A) (machine B)) J h
tested standing (live_are A B l) h = equal_list eqb eqb→eq (lists_below A.n (λ a. list_below B.n (λ b. one (live (machine A) (machine B) a b)))) l h
tested standing (is_stuck A q) h =
    let empty : Bool = is_empty (state_moves A.rows q) in
    (ltb→lt q A.n (and_l (ltb q A.n) empty h), empty_list (state_moves A.rows q) (and_r (ltb q A.n) empty h))
tested standing (with_standing more e) h = tested (union standing more) e h

passed : T (all (test 0) examples)
unfolding examples test same_numbers same_list same_table same_row flat_map demand_e supply_e fin_only demand_fifth demand_sixth then_fin once at_most_once repeated two_slots ends_or_repeats one_or_two stuck_supply nothing_or_one six_or_seven repeats_or_ends uneven_demand uneven_supply other_last first_or_last two_in_turn three_in_turn goes_on_with_zero zero_each_third ends_stuck turns_or_ends_stuck for_ever crossed_first crossed_second zero_thrice zero_last in_turn each_second each_fifth none_or_high low_or_high intersection union difference disjoint inside larger maximal rises row_moves state_moves left_of consumed_of unmet_of candidates prunes survivors_of numbers has_response slot_holds pair_holds is_pair keeps losing mark_by mark marks count_pairs running_count follows struck_by lacks_response step_to last_slot slots steps responses_to last_triple triples triple_entries reaches_by reaches reached_count is_blocked is_free count_on_yes shares_outside insert_row insert_rows product_rows product join live_by live merge
passed = tt

-- every example of the table holds
pub examples_hold : (e : Example) → Memᴰ e examples → Means e
examples_hold e m = tested 0 e (all-each (test 0) passed m)
