-- Laws of Join: what is written is a body of the joined table. Relies on the laws of joining, and on those of Join and Merge together.
use Prim.Native.Nat.{ℕ}
use mathlib.Core.Path.{◌≡◌, refl, sym, ap, ◌∙◌, subst}
use mathlib.Core.List.{List, [], ◌∷◌}
use mathlib.Core.Logic.{◌↔◌}
use lib.ListN.{length}
use Rattle.rules.specs.Machines.{Machine, machine}
use Rattle.rules.specs.Actions.{tasks, ◌∥◌}
use Rattle.rules.specs.Products.{join_state}
use Rattle.rules.specs.Join.{join_rule, join}
use Rattle.rules.proofs.MachineLaws.{fin_moves}
use Rattle.rules.proofs.JoinLaws.{join_rows_lem, join_moves_lem, join_parallel}
use Rattle.tables.specs.declared.Refusal.{Refusal}
use Rattle.tables.specs.declared.kinds.Kind.TheVariants.{Demand}
use Rattle.checker.specs.declared.TableSize.{TableSize}
use Rattle.tables.specs.Answers.{carried_out}
use Rattle.tables.specs.Tables.{machine_of}
use Rattle.std.proofs.Common.{Result}
use Rattle.checker.specs.Calls.{sized}
use Rattle.checker.specs.Join.{join_of, join_answer, join_slice, IsJoin, JoinDemands}
use Rattle.checker.proofs.ProductLaws.{second_sound, asked, machine_is, is_product}

module _ (s : List ℕ) (i j common : ℕ) (entry exit : List ℕ) (left : exit ≡ join_slice s i j common entry)
    (n m : ℕ) (told : join_answer s i j common (length entry) ≡ carried_out (n ∷ m ∷ [])) where
  is_join : IsJoin common (machine_of s i) (machine_of s j) n m exit
  unfolding join_answer join_slice join
  is_join =
      let D = machine_of s i in
      let E = machine_of s j in
      let sound = second_sound Demand s i j (asked Demand (join_rule common) s i j n m (length entry) told) in
      let same = machine_is Demand (join_rule common) s i j n m (length entry) told entry exit refl left in
      record {
        table =
            is_product Demand (join_rule common) s i j n m (length entry) told entry exit refl left (join_rows_lem common D E)
            (join_moves_lem common D E (fin_moves _) (fin_moves _));
        parallel = λ none a b u v x p q l.
            subst (λ (M : Machine). (tasks D ∥ tasks E).Step (a, b) x (u, v) ↔ (tasks M).Step (join_state E.n a b) x (join_state E.n u v))
            (sym (same ∙ ap (λ (k : ℕ). machine (join_of s i j k)) none)) (join_parallel D E (fin_moves _) (fin_moves _) sound a b u v x p q l);
      }

-- of a call, all three
pub joined_table : (s : List ℕ) (i j common : ℕ) (entry exit : List ℕ) (r : Result TableSize Refusal)
    → (sized r ≡ join_answer s i j common (length entry)) × (exit ≡ join_slice s i j common entry)
    → (sized r ≡ join_answer s i j common (length entry)) × ((exit ≡ join_slice s i j common entry) × JoinDemands s i j common (sized r) exit)
joined_table s i j common entry exit r (a, l) = (a, (l, record { table = λ n m told. is_join s i j common entry exit l n m (sym a ∙ told) }))
