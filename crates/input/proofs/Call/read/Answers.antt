-- `input::Call::read` meets its contract.
use Rattle.std.proofs.Common.{ℕ, ◌<◌, refl, sym, ap, ◌∙◌, arith}
use borrow.Author.Tests.{lt-ltb, le-ltb}
use Rattle.input.specs.Calls.{number, low_set, side, asked_of, told}
use Rattle.input.proofs.CallLaws.{field_of, asked_none, asked_some, asked_by}
use Rattle.input.proofs.Call.read.Goals as goal

pub returns-in_err-head : goal.returns-in_err-head
unfolding asked_of
returns-in_err-head c = ap told c.from_residual.ensures ∙ sym (rw (lt-ltb _ _ c.in_err-head.ensures.cases) refl)

pub returns-in_err-ok : goal.returns-in_err-ok
unfolding asked_of
returns-in_err-ok c =
    let (long, head, file, size, all) = c.in_ok-head.ensures.cases in
    let first = field_of _ _ 0 size c.as_chunks.ensures.front (omega arith) in
    ap told c.from_residual-in_err-ok.ensures
    ∙ sym (rw (le-ltb _ _ long, ← head, ← file, ← first, ← c.number.ensures, ← c.try_from.ensures) (asked_none _ _ _ (sym c.ok.ensures.value ∙ c.in_err-ok.was)))

pub returns : goal.returns
unfolding asked_of
returns c =
    let (long, head, file, size, all) = c.in_ok-head.ensures.cases in
    let at = λ (i : ℕ) (h : i < 9). field_of c.in_ok-head.head.now c.as_chunks.result.0.now i size c.as_chunks.ensures.front h in
    asked_by c.in_ok-ok.field-0 c.in_ok-head.head.now c.in_ok-head.file.now (c.number-2.ensures ∙ ap number (at 1 (omega arith)))
    (c.side.ensures ∙ (λ i. side (at 2 (omega arith) i) (at 3 (omega arith) i)))
    (c.side-2.ensures ∙ (λ i. side (at 4 (omega arith) i) (at 5 (omega arith) i)))
    (c.number-3.ensures ∙ ap number (at 6 (omega arith))) (c.number-4.ensures ∙ ap number (at 7 (omega arith)))
    (c.low_set.ensures ∙ ap low_set (at 8 (omega arith)))
    ∙ sym
    (rw (le-ltb _ _ long, ← head, ← file) (rw (← at 0 (omega arith)) (rw (← c.number.ensures, ← c.try_from.ensures)
    (asked_some _ _ _ _ (sym c.ok.ensures.value ∙ c.in_ok-ok.was)))))
