-- `report::write` meets its contract. The text is counted first, and written where there is room.
use Rattle.std.proofs.Common.{◌∙◌, arith, rules}
use Rattle.text.proofs.TextLaws.{wrote_whole}
use Rattle.report.proofs.ReportLaws.{text_short, room_short, text_written}
use Rattle.rules.proofs.ClauseLaws.{as_answer_bytes}
use Rattle.report.proofs.write.Goals as goal

pub returns-then-out-at : goal.returns-then-out-at
returns-then-out-at c =
    let counted = (wrote_whole c.new-counted.ensures.at c.new-counted.ensures.bytes (text_short _) (rw c.compose-page.ensures at c.put_page.ensures)).0 in
    let count = c.at.ensures in
    let less = c.if-out-at.true in
    rw c.new.ensures (as_answer_bytes (room_short _ _ (omega arith)))

pub returns : goal.returns
returns c =
    let counted = (wrote_whole c.new-counted.ensures.at c.new-counted.ensures.bytes (text_short _) (rw c.compose-page.ensures at c.put_page.ensures)).0 in
    let (place, bytes) = wrote_whole c.new-written.ensures.at c.new-written.ensures.bytes (text_short _) (rw c.compose-page.ensures at c.put_page-2.ensures) in
    let count = c.at.ensures in
    let enough = c.if-out-at.false in
    let (answer, all) = text_written _ _ _ _ (omega arith) (c.at-2.ensures ∙ place) bytes in
    record { answer = answer; bytes = search rules }
