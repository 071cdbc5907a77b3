-- Graph. Document 02, L1, 'Graphs for the viewer.'
use Rattle.std.specs.Prelude.{ℕ, ◌≡◌, List, [], ◌∷◌, ltb, length}
use Rattle.rules.specs.Slices.{overwrite}
use Rattle.tables.specs.Checks.{Checked, fault, ◌then◌}
use Rattle.tables.specs.Answers.{Answer, answer, carried_out, slice_after}
use Rattle.tables.specs.declared.Reason.TheVariants.{NoRoom}
use Rattle.graphs.specs.Graph.{graph_text, IsGraph}
use Rattle.questions.specs.declared.Question.{Question}
use Rattle.questions.specs.Pairs.{pair_checks, demand_of, supply_of, pair_of}

-- the text; the start is the pair that is asked about
abbrev pub graph_text_at : List ℕ → Question → List ℕ
graph_text_at s q = graph_text (demand_of s q) (supply_of s q) (pair_of q)

-- "Answers: as Moves of a pair, with 14 when the lent bytes are fewer than the text."; room is how many are lent
unfoldable pub graph_checks : List ℕ → Question → ℕ → Checked
graph_checks s q room = pair_checks s q then fault (ltb room (length (graph_text_at s q))) NoRoom 0

-- "Its length is returned"
unfoldable pub graph_answer : List ℕ → Question → ℕ → Answer
graph_answer s q room = answer (graph_checks s q room) (length (graph_text_at s q) ∷ [])

-- "later bytes unchanged"
unfoldable pub graph_slice : List ℕ → Question → List ℕ → List ℕ
graph_slice s q entry = slice_after (graph_checks s q (length entry)) (overwrite (graph_text_at s q) entry) entry

-- what a call of Graph that is carried out promises, of its answer and of the lent bytes at exit: "The move rule now covers this text."
pub record GraphDemands (file : List ℕ) (q : Question) (a : Answer) (bytes : List ℕ) : Type 0 where
  pub second : (count : ℕ) → a ≡ carried_out (count ∷ []) → IsGraph (demand_of file q) (supply_of file q) (pair_of q) count bytes
