-- The derived order is the one by from, then set, then target.
use Rattle.std.proofs.Common.{◌∙◌, nat_lt, ◌==◌}
use Rattle.rules.specs.Rows.{rises}
use Rattle.rules.proofs.RowLaws.{by_order}
use Rattle.rules.proofs.Row.rises_to.Goals as goal

pub returns : goal.returns
unfolding rises
returns c =
    c.lt.ensures
    ∙ by_order (nat_lt c.args.self.from c.args.next.from) (c.args.self.from == c.args.next.from) (nat_lt c.args.self.set c.args.next.set)
    (c.args.self.set == c.args.next.set) (nat_lt c.args.self.target c.args.next.target) (c.args.self.target == c.args.next.target)
