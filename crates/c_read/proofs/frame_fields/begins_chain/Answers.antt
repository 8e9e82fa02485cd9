use Rattle.std.proofs.Common.{arith}
use Rattle.c_read.proofs.Transports.{bit-found}
use Rattle.c_read.proofs.frame_fields.begins_chain.Goals as goal

pub returns-then-protocol-le-LAST_EXTENSION : goal.returns-then-protocol-le-LAST_EXTENSION
returns-then-protocol-le-LAST_EXTENSION c = bit-found c.args.protocol (omega (arith, c.if-protocol-le-LAST_EXTENSION.true))
