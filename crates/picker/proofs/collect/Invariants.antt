-- `picker::collect` meets its contract. The invariant: those of the tables so far that get a yes are collected.
use Rattle.std.proofs.Common.{◌≡◌}
use Rattle.picker.proofs.PickLaws.{among}
use Rattle.picker.proofs.collect.Given as goal

abbrev pub invariant-loop-supply : goal.invariant-loop-supply
invariant-loop-supply l = l.numbers.items ≡ among l.file l.demand l.mode l.standing l.supply
