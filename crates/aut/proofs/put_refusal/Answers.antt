-- `aut::put_refusal` meets its contract. The line is short.
use Rattle.std.proofs.Common.{◌∙◌, arith, rules}
use Rattle.rules.proofs.SliceLaws.{write_at-overwrite}
use Rattle.text.proofs.TextLaws.{wrote_whole}
use Rattle.lines.proofs.LineLaws.{refused_short}
use Rattle.aut.proofs.put_refusal.Goals as goal

pub returns : goal.returns
returns c =
    let short = refused_short c.number.result c.args.refusal.place in
    let room = c.requires in
    let (place, bytes) = wrote_whole c.new-w.ensures.at c.new-w.ensures.bytes (omega arith) c.put_refused.ensures in
    let all = rw c.number.ensures at (bytes ∙ write_at-overwrite _ _ (omega arith)) in
    record { count = c.at.ensures ∙ rw c.number.ensures at place; bytes = search rules }
