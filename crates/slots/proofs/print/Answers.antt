-- `slots::print` meets its contract. No call is turned back, and the count is within the buffer.
use mathlib.Core.Path.{sym, ◌∙◌}
use native.Mathlib.Omega.{arith}
use lib.Seq.{length-take-le}
use Rattle.report.proofs.ReportLaws.{count_within, never_refused, whole_count, bytes_written}
use Rattle.slots.proofs.print.Goals as goal

pub unwrap-count-requires : goal.unwrap-count-requires
unwrap-count-requires c = never_refused _ _ c.requires _ c.write.ensures.answer

pub slice_bounds-write_all-end : goal.slice_bounds-write_all-end
slice_bounds-write_all-end c = let most = count_within _ _ _ (rw c.unwrap-count.ensures at c.write.ensures.answer) in let same = c.write.auto.out in omega arith

pub slice_bounds-write_all-end-2 : goal.slice_bounds-write_all-end-2
slice_bounds-write_all-end-2 c = sym (length-take-le _ _ (let most = count_within _ _ _ (rw c.unwrap-count.ensures at c.write.ensures.answer) in let same = c.write.auto.out in omega arith))

pub returns-clause-count : goal.returns-clause-count
returns-clause-count c = whole_count _ _ c.requires _ (rw c.unwrap-count.ensures at c.write.ensures.answer)

pub returns-clause-bytes : goal.returns-clause-bytes
returns-clause-bytes c = c.write.ensures.bytes ∙ bytes_written _ _ c.requires
