-- By the number: that of an operation, or another.
use Rattle.std.proofs.Common.{sym, arith}
use Rattle.input.specs.Operations.{operations, operation_of}
use Rattle.input.proofs.CallLaws.{no_operation}
use Rattle.input.proofs.operations.OperationTryFromUsize.try_from.Goals as goal

pub returns-in_default : goal.returns-in_default
unfolding operation_of
returns-in_default c = sym (no_operation operations c.args.number (omega arith))
