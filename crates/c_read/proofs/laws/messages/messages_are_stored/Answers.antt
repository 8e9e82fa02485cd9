use Rattle.c_read.proofs.Messages.{frame-stores, packet-stores}
use Rattle.c_read.proofs.laws.messages.messages_are_stored.Goals as goal

pub returns : goal.returns
returns c = let bytes = c.args.bytes.now in record { frame = frame-stores bytes; packet = packet-stores bytes }
