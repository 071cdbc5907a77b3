-- `aut::print` meets its contract. The text lies within the buffer.
use native.Mathlib.Omega.{arith}
use Rattle.aut.proofs.AutLaws.{printed_within}
use Rattle.aut.proofs.print.Goals as goal

pub shared_ref_as_front-write_all : goal.shared_ref_as_front-write_all
shared_ref_as_front-write_all c = let most = printed_within c.put_text-count.ensures in omega arith
