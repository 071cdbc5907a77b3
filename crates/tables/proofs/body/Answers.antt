-- `tables::body` meets its contract. By what the checks find: a fault, or a body which the entry tells of, and which lies in an accepted file.
use mathlib.Core.Path.{◌≡◌, refl, sym, ap, ◌∙◌}
use native.Mathlib.Omega.{arith}
use Rattle.std.proofs.Common.{ℕ}
use Rattle.tables.specs.File.{entry_of}
use Rattle.tables.specs.Body.{body_span}
use Rattle.tables.proofs.FileLaws.{span_within}
use Rattle.tables.proofs.BodyLaws.{body_within, found_fault, found_none}
use Rattle.tables.proofs.body.Goals as goal

pub returns-then-is_err : goal.returns-then-is_err
unfolding body_span
returns-then-is_err c =
    let (r, fault) = found_fault _ (sym c.is_err.ensures.value ∙ c.if-is_err.true) in
    rw (sym c.check_body.ensures.checks ∙ fault) (record { block = refl; start = omega arith; bytes = refl })

pub returns : goal.returns
unfolding body_span
returns c =
    let none = sym c.check_body.ensures.checks ∙ found_none _ (sym c.is_err.ensures.value ∙ c.if-is_err.false) in
    let entry : c.entry_at.result ≡ entry_of c.args.file.now c.args.table = c.entry_at.ensures ∙ ap (λ (i : ℕ). entry_of c.args.file.now i) (omega arith) in
    rw (none, ← entry) (rw (span_within c.args.file.now c.entry_at.result (rw entry (body_within _ _ none))) at c.entry_body.ensures)
