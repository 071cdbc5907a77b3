-- `joins::row_set::RowSet::insert` meets its contract. The row goes after the last one, or stands where a binary search finds it, or is put where the search
-- says.
use Rattle.std.proofs.Common.{◌∷◌, [], arith, rules}
use Rattle.std.specs.List.{insert}
use Rattle.std.proofs.lemmas.List.{length-append}
use Rattle.std.proofs.lemmas.List.Edits.{length-insert}
use Rattle.joins.proofs.OrderLaws.{stands, goes}
use Rattle.joins.proofs.InsertLaws.{inserts_present, inserts_put, put_rising}
use Rattle.joins.proofs.row_set.RowSet.insert.Goals as goal

pub invariant_of-self : goal.invariant_of-self
invariant_of-self c = record {
  rising = put_rising c.args.self.now c.args.row _ (c.rises_to.ensures c.if-rises_to.true) _ c.try_push.result c.try_push.ensures.ok (search rules);
}

pub invariant_of-self-in-Err : goal.invariant_of-self-in-Err
invariant_of-self-in-Err c = record {
  rising =
      put_rising c.args.self.now c.args.row _
      (goes _ c.args.self.now.rising c.deref.ensures.0 c.in-Err.ensures.bound c.in-Err.ensures.position)
      _ c.try_insert.result c.try_insert.ensures.ok (search rules);
}

pub returns-then-rises_to : goal.returns-then-rises_to
returns-then-rises_to c =
    inserts_put c.args.self.now c.args.row _ (c.rises_to.ensures c.if-rises_to.true) (length-append c.args.self.now.rows.items (c.args.row ∷ [])) c.try_push.result
    c.try_push.ensures.ok c.try_push.ensures.full

pub returns-in-Ok : goal.returns-in-Ok
returns-in-Ok c = inserts_present (stands _ c.args.self.now.rising c.deref.ensures.0 c.in-Ok.ensures.bound c.in-Ok.ensures.position)

pub returns-in-Err : goal.returns-in-Err
returns-in-Err c =
    let within = rw c.deref.ensures.0 at c.in-Err.ensures.bound in
    inserts_put c.args.self.now c.args.row (insert c.args.self.now.rows.items c.in-Err.at c.args.row)
    (goes _ c.args.self.now.rising c.deref.ensures.0 c.in-Err.ensures.bound c.in-Err.ensures.position)
    (let l = length-insert c.args.self.now.rows.items c.in-Err.at c.args.row within in omega (arith, l)) c.try_insert.result c.try_insert.ensures.ok c.try_insert.ensures.full
