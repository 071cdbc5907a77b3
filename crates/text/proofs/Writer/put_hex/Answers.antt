-- `text::Writer::put_hex` meets its contract. The four digits are written.
use Rattle.text.specs.Text.{hex}
use Rattle.text.proofs.Writer.put_hex.Goals as goal

pub returns : goal.returns
unfolding hex
returns c = simp (← c.hex_digit.ensures, ← c.hex_digit-2.ensures, ← c.hex_digit-3.ensures, ← c.hex_digit-4.ensures) c.put.ensures
