-- Laws of Graph: the answer and the bytes, by what the checks find; and the move rule covers the text. Relies on the laws of the graph and of questions
-- about a pair.
use Prim.Native.Nat.{ℕ, ◌≤◌, ◌<◌}
use mathlib.Core.Path.{◌≡◌, refl, sym, ap, ◌∙◌, subst₂}
use mathlib.Core.List.{List, [], ◌∷◌}
use native.Mathlib.Omega.{arith}
use lib.ListN.{length, get_or}
use borrow.Author.Tests.{lt-ltb, le-ltb}
use Rattle.rules.specs.Slices.{overwrite}
use Rattle.tables.specs.declared.Refusal.{Refusal}
use Rattle.tables.specs.Checks.{Checked, refuse, fault, ◌then◌}
use Rattle.tables.specs.Answers.{answer, carried_out, slice_after}
use Rattle.tables.proofs.CheckLaws.{then_left, passed}
use Rattle.graphs.specs.Graph.{graph_text, IsGraph}
use Rattle.machines.specs.Machine.{machine_in}
use Rattle.questions.specs.declared.Loaded.{Loaded}
use Rattle.graphs.proofs.GraphLaws.{is_graph}
use Rattle.questions.specs.declared.Question.{Question}
use Rattle.questions.specs.Pairs.{pair_checks, demand_of, supply_of, pair_of, PairLoaded}
use Rattle.questions.proofs.PairLaws.{asked_demand, asked_supply, demand_sound, supply_sound, demand_rises, supply_rises}
use Rattle.tables.specs.Answers.{counted}
use Rattle.tables.specs.declared.Reason.TheVariants.{NoRoom}
use Rattle.std.proofs.Common.{Result, Ok, Err}
use Rattle.checker.specs.Graph.{graph_text_at, graph_checks, graph_answer, graph_slice, GraphDemands}

-- the text, by the two machines
pub text_found : (s : List ℕ) (q : Question) {l : Loaded} → PairLoaded s q l
    → graph_text (machine_in l.demand) (machine_in l.supply) l.start ≡ graph_text_at s q
text_found s q x = λ i. graph_text (x.demand_is i) (x.supply_is i) (x.start_is i)

module _ (s : List ℕ) (q : Question) (a : pair_checks s q ≡ Ok tt) (text : List ℕ) (same : text ≡ graph_text_at s q) (count : ℕ) (long : count ≡ length text) where
  -- by 14: the text does not fit into room
  pub text_short : (room : ℕ) → room < count → graph_checks s q room ≡ Err (refuse NoRoom 0)
  unfolding graph_checks ◌then◌ fault
  text_short room l =
      let short : room < length (graph_text_at s q) = omega (arith, long, ap length same) in
      rw (a, lt-ltb room (length (graph_text_at s q)) short) refl

  none_fault : (room : ℕ) → count ≤ room → graph_checks s q room ≡ Ok tt
  unfolding graph_checks ◌then◌ fault
  none_fault room l =
      let enough : length (graph_text_at s q) ≤ room = omega (arith, long, ap length same) in
      rw (a, le-ltb room (length (graph_text_at s q)) enough) refl

  -- carried out: its length is the answer, and the text stands before the rest of the bytes
  pub graph_written : (entry exit : List ℕ) → count ≤ length entry → exit ≡ overwrite text entry → {returned : ℕ} → returned ≡ count
      → (carried_out (returned ∷ []) ≡ graph_answer s q (length entry)) × (exit ≡ graph_slice s q entry)
  unfolding graph_answer graph_slice answer slice_after
  graph_written entry exit l w e = (rw (none_fault (length entry) l, e, long, same) refl, rw (none_fault (length entry) l, ← same) w)

-- ---- "The move rule now covers this text."

module _ (s : List ℕ) (q : Question) (entry exit : List ℕ) (left : exit ≡ graph_slice s q entry) (count : ℕ)
    (told : graph_answer s q (length entry) ≡ carried_out (count ∷ [])) where
  outcome : (graph_checks s q (length entry) ≡ Ok tt) × (length (graph_text_at s q) ∷ [] ≡ count ∷ [])
  unfolding graph_answer
  outcome = passed (graph_checks s q (length entry)) _ _ _ told

  asked : pair_checks s q ≡ Ok tt
  unfolding graph_checks
  asked = then_left _ _ outcome.0

  written : exit ≡ overwrite (graph_text_at s q) entry
  unfolding graph_slice slice_after
  written = left ∙ ap (λ (c : Checked). slice_after c (overwrite (graph_text_at s q) entry) entry) outcome.0

  covered : IsGraph (demand_of s q) (supply_of s q) (pair_of q) count exit
  covered =
      let d = asked_demand s q asked in
      let g = asked_supply s q asked in
      subst₂ (λ (k : ℕ) (l : List ℕ). IsGraph (demand_of s q) (supply_of s q) (pair_of q) k l) (ap (λ (l : List ℕ). get_or l 0 0) outcome.1) (sym written)
      (is_graph (demand_of s q) (supply_of s q) d.table.few_states g.table.few_states (demand_sound s q asked) (supply_sound s q asked)
      (demand_rises s q) (supply_rises s q) (pair_of q) entry)

-- what Graph ensures, from its answer and the bytes
pub graph_shown : (s : List ℕ) (q : Question) (entry exit : List ℕ) (r : Result ℕ Refusal)
    → (counted r ≡ graph_answer s q (length entry)) × (exit ≡ graph_slice s q entry)
    → (counted r ≡ graph_answer s q (length entry)) × ((exit ≡ graph_slice s q entry) × GraphDemands s q (counted r) exit)
graph_shown s q entry exit r (told, left) = (told, (left, record { second = λ count e. covered s q entry exit left count (sym told ∙ e) }))
