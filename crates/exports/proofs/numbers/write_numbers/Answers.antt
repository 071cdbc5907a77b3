-- `exports::numbers::write_numbers` meets its contract.
use Rattle.std.proofs.Common.{◌+◌, ◌-◌, ◌*◌, ◌∙◌, drop, arith}
use Rattle.std.specs.Int.{w64, to_le_bytes}
use Rattle.std.proofs.lemmas.List.{drop_all, drop_more, length-take, length-drop}
use Rattle.rules.proofs.SliceLaws.{written_next, written_all}
use Rattle.exports.proofs.ByteLaws.{length-number_bytes}
use Rattle.exports.proofs.numbers.write_numbers.Goals as goal

pub loop-i-preserved : goal.loop-i-preserved
loop-i-preserved c =
    let i = c.loop-i.i in
    let count = 8 * i + 8 - 8 * i in
    written_next (to_le_bytes w64) (8 * i) _ count c.loop-i.out (drop_more c.args.numbers.now i 0 c.loop-i-test.true)
    (c.copy_from_slice.ensures.after ∙ c.to_le_bytes.ensures) (omega arith) (omega arith)
    (omega (arith, length-take count (drop (8 * i) c.loop-i.out), length-drop (8 * i) c.loop-i.out)) c.loop-i.invariant

pub returns : goal.returns
returns c = record {
  out =
      written_all (to_le_bytes w64) _ _ _ _ (drop_all c.loop-i.i c.args.numbers.now (omega arith))
      (omega (arith, length-number_bytes c.args.numbers.now)) c.loop-i.invariant;
  numbers = λ i. let number = c.type_inv.numbers i in omega arith;
}
