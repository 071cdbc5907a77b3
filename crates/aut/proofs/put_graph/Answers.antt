-- `aut::put_graph` meets its contract. The call has written the text, or changed nothing.
use Rattle.aut.proofs.AutLaws.{graph_count, graph_refusal}
use Rattle.aut.proofs.put_graph.Goals as goal

pub returns-in-Ok : goal.returns-in-Ok
returns-in-Ok c = graph_count _ _ _ (rw c.in-Ok.is at c.graph.ensures.answer) c.graph.ensures.slice

pub returns-in-Err : goal.returns-in-Err
returns-in-Err c = graph_refusal _ _ _ _ (rw c.in-Err.is at c.graph.ensures.answer) c.graph.ensures.slice (c.put_refusal.ensures.count, c.put_refusal.ensures.bytes)
