-- `exports::numbers::write_words` meets its contract.
use Rattle.std.proofs.Common.{◌+◌, ◌-◌, ◌*◌, ◌∙◌, drop, arith}
use Rattle.std.specs.Int.{w16, to_le_bytes}
use Rattle.std.proofs.lemmas.List.{drop_all, drop_more, length-take, length-drop}
use Rattle.rules.proofs.SliceLaws.{written_next, written_all}
use Rattle.exports.proofs.ByteLaws.{length-word_bytes}
use Rattle.exports.proofs.numbers.write_words.Goals as goal

pub loop-i-preserved : goal.loop-i-preserved
loop-i-preserved c =
    let i = c.loop-i.i in
    let count = 2 * i + 2 - 2 * i in
    written_next (to_le_bytes w16) (2 * i) _ count c.loop-i.out (drop_more c.args.words.now i 0 c.loop-i-test.true)
    (c.copy_from_slice.ensures.after ∙ c.to_le_bytes.ensures) (omega arith) (omega arith)
    (omega (arith, length-take count (drop (2 * i) c.loop-i.out), length-drop (2 * i) c.loop-i.out)) c.loop-i.invariant

pub returns : goal.returns
returns c = record {
  out =
      written_all (to_le_bytes w16) _ _ _ _ (drop_all c.loop-i.i c.args.words.now (omega arith)) (omega (arith, length-word_bytes c.args.words.now))
      c.loop-i.invariant;
  words = λ i. let narrow = c.type_inv.words i in omega arith;
}
