-- `joins::row_set::RowSet::rises_to` meets its contract: where the last row rises to a row, so do the others.
use Rattle.std.proofs.Common.{◌≡◌, ◌-◌, Some, None, sym, ap, ◌∙◌, subst, length, arith}
use Rattle.std.specs.List.{slice_get}
use Rattle.std.specs.Option.{option_copied}
use Rattle.std.proofs.lemmas.Option.{slice_get_within}
use Rattle.joins.proofs.OrderLaws.{goes_last, goes_alone}
use Rattle.joins.proofs.row_set.RowSet.rises_to.Goals as goal

pub returns-in-Some : goal.returns-in-Some
returns-in-Some c s =
    let items = c.args.self.now.rows.items in
    let last : slice_get items (length items - 1) ≡ Some c.in-Some.last.now
    = subst (λ z. slice_get z (length z - 1) ≡ Some c.in-Some.last.now) c.deref.ensures.0 (sym c.last.ensures.value ∙ ap option_copied c.in-Some.is) in
    let within = slice_get_within items (length items - 1) _ last in
    goes_last c.args.row items c.args.self.now.rising (length items - 1) (omega (arith, within)) c.in-Some.last.now last (sym c.rises_to.ensures ∙ s)

pub returns-in-None : goal.returns-in-None
returns-in-None c s =
    goes_alone c.args.row _
    (subst (λ z. slice_get z (length z - 1) ≡ None) c.deref.ensures.0 (sym c.last.ensures.value ∙ ap option_copied c.in-None.is))
