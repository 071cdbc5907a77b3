-- Laws of Merge: what is written is a body of the merged table, by the live pairs; and every set of pairs that has both properties, any predicate on pairs, is
-- inside. Relies on the laws of merging, and on those of Join and Merge together.
use Prim.Native.Nat.{ℕ}
use mathlib.Core.Path.{◌≡◌, refl, sym, ◌∙◌, subst}
use mathlib.Core.Bool.{◌||◌}
use mathlib.Core.List.{List, [], ◌∷◌}
use mathlib.Core.Logic.{◌↔◌}
use lib.Dec.{T}
use lib.ListN.{length}
use Rattle.rules.specs.Machines.{Machine, Stuck}
use Rattle.rules.specs.Actions.{supplies, ◌∥◌}
use Rattle.rules.specs.Relations.{Pairs, Passing}
use Rattle.rules.specs.Products.{join_state}
use Rattle.rules.specs.Merge.{LiveSet, beside_fin, merge_rule, live, merge}
use Rattle.rules.proofs.MachineLaws.{fin_moves}
use Rattle.rules.proofs.MergeLaws.{live_set, live_largest, merge_rows_lem, merge_moves_lem, live_unstuck, live_solves, solution_set, merge_steps}
use Rattle.tables.specs.declared.Refusal.{Refusal}
use Rattle.tables.specs.declared.kinds.Kind.TheVariants.{Supply}
use Rattle.checker.specs.declared.TableSize.{TableSize}
use Rattle.tables.specs.Answers.{carried_out}
use Rattle.tables.specs.Tables.{machine_of}
use Rattle.std.proofs.Common.{Result}
use Rattle.checker.specs.Calls.{sized}
use Rattle.checker.specs.Merge.{merge_answer, merge_slice, IsMerge, MergeDemands}
use Rattle.checker.proofs.ProductLaws.{first_sound, second_sound, asked, machine_is, is_product}

module _ (s : List ℕ) (i j : ℕ) (entry exit : List ℕ) (left : exit ≡ merge_slice s i j entry)
    (n m : ℕ) (told : merge_answer s i j (length entry) ≡ carried_out (n ∷ m ∷ [])) where
  is_merge : IsMerge (machine_of s i) (machine_of s j) n m exit
  unfolding merge_answer merge_slice merge
  is_merge =
      let A = machine_of s i in
      let B = machine_of s j in
      let rule = merge_rule (live A B) in
      let sizes = asked Supply rule s i j n m (length entry) told in
      let d = first_sound Supply s i j sizes in
      let e = second_sound Supply s i j sizes in
      let same = machine_is Supply rule s i j n m (length entry) told entry exit refl left in
      record {
        live = live A B;
        properties = live_set A B (fin_moves _) (fin_moves _) d e;
        largest = λ R h. live_largest A B (fin_moves _) (fin_moves _) (Passing R) h;
        table =
            is_product Supply rule s i j n m (length entry) told entry exit refl left (merge_rows_lem A B (fin_moves _) (fin_moves _))
            (merge_moves_lem A B (fin_moves _) (fin_moves _));
        stuck = λ a b p q.
            subst (λ (M : Machine). T (live A B a b) ↔ (Stuck M (join_state B.n a b) → ⊥)) (sym same) (live_unstuck A B (fin_moves _) (fin_moves _) a b p q);
        solves = live_solves A B (fin_moves _) (fin_moves _) d e;
        maximal = λ R h. live_largest A B (fin_moves _) (fin_moves _) (Passing R) (solution_set A B (Passing R) h);
        steps = λ a b u v x p q l.
            subst (λ (M : Machine). (supplies M).Step (join_state B.n a b) x (join_state B.n u v)
            ↔ ((supplies A ∥ supplies B).Step (a, b) x (u, v) × T (beside_fin a b || live A B u v))) (sym same)
            (merge_steps A B (fin_moves _) (fin_moves _) e a b u v x p q l);
      }

-- of a call, all three
pub merged_table : (s : List ℕ) (i j : ℕ) (entry exit : List ℕ) (r : Result TableSize Refusal)
    → (sized r ≡ merge_answer s i j (length entry)) × (exit ≡ merge_slice s i j entry)
    → (sized r ≡ merge_answer s i j (length entry)) × ((exit ≡ merge_slice s i j entry) × MergeDemands s i j (sized r) exit)
merged_table s i j entry exit r (a, l) = (a, (l, record { table = λ n m told. is_merge s i j entry exit l n m (sym a ∙ told) }))

-- the set by which a call that is carried out writes its rows holds every set of pairs that has both properties, be it given by no test
pub largest_all : (s : List ℕ) (i j room n m : ℕ) {bytes : List ℕ} → merge_answer s i j room ≡ carried_out (n ∷ m ∷ [])
    → (w : IsMerge (machine_of s i) (machine_of s j) n m bytes) (R : Pairs) → LiveSet (machine_of s i) (machine_of s j) R → (a b : ℕ) → R a b → T (w.live a b)
unfolding merge_answer merge
largest_all s i j room n m told w R h a b r =
    let A = machine_of s i in
    let B = machine_of s j in
    let sizes = asked Supply (merge_rule (live A B)) s i j n m room told in
    w.largest (live A B) (live_set A B (fin_moves _) (fin_moves _) (first_sound Supply s i j sizes) (second_sound Supply s i j sizes)) a b
    (live_largest A B (fin_moves _) (fin_moves _) R h a b r)
