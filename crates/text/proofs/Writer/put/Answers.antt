-- `text::Writer::put` meets its contract. The part of the piece that fits is written.
use Rattle.std.proofs.Common.{◌≡◌, ◌+◌, ℕ, List, length, take, set, get_or, length-set, length-take-le, refl, sym, ap, ◌∙◌, arith}
use Rattle.rules.specs.Slices.{write_at}
use Rattle.rules.proofs.SliceLaws.{part_written, piece_written}
use Rattle.text.proofs.TextLaws.{byte_written}
use Rattle.text.proofs.Writer.put.Goals as goal

pub loop-i-init : goal.loop-i-init
unfolding write_at
loop-i-init c = record { buffer = refl; at = refl; long = refl; bytes = refl }

pub loop-i-preserved : goal.loop-i-preserved
loop-i-preserved c = record {
  buffer = c.loop-i.invariant.buffer;
  at = c.loop-i.invariant.at;
  long = length-set c.loop-i.self.out.now (c.min-start.result + c.loop-i.i) _ ∙ c.loop-i.invariant.long;
  bytes =
      ap (λ (l : List ℕ). set l (c.min-start.result + c.loop-i.i) (get_or c.args.piece.now c.loop-i.i 0)) c.loop-i.invariant.bytes
      ∙ byte_written c.min-start.result c.loop-i.i c.args.piece.now c.args.self.now.out.now (omega arith);
}

pub returns : goal.returns
returns c =
    let all : c.loop-i.i ≡ c.min-count.result = omega arith in
    let long : c.min-count.result ≡ length (take c.min-count.result c.args.piece.now) = omega (arith, length-take-le c.min-count.result c.args.piece.now) in
    record {
      buffer = c.loop-i.invariant.buffer;
      place = λ fits. let at = c.loop-i.invariant.at in omega arith;
      bytes =
          λ fits.
          c.loop-i.invariant.bytes
          ∙ ap (λ (k : ℕ). write_at c.min-start.result (take k c.args.piece.now) c.args.self.now.out.now) all
          ∙ sym (piece_written c.min-start.result c.min-count.result (take c.min-count.result c.args.piece.now) c.args.self.now.out.now long (omega arith))
          ∙ part_written c.args.self.now.at c.min-start.result c.min-count.result c.args.piece.now c.args.self.now.out.now c.min-start.ensures c.min-count.ensures;
    }
