-- `aut::put_text` meets its contract. What turns back the file is printed, or the graph of what is asked.
use mathlib.Core.Path.{sym, ◌∙◌}
use Rattle.aut.proofs.AutLaws.{text_refused, text_asked}
use Rattle.aut.proofs.put_text.Goals as goal

pub returns-in-Ok : goal.returns-in-Ok
returns-in-Ok c = text_asked _ _ _ (sym c.ask.ensures ∙ c.in-Ok.is) c.put_graph.ensures

pub returns-in-Err : goal.returns-in-Err
returns-in-Err c = text_refused _ _ _ (sym c.ask.ensures ∙ c.in-Err.is) (c.put_refusal.ensures.count, c.put_refusal.ensures.bytes)
