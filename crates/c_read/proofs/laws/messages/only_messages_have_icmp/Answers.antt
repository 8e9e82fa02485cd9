use Rattle.std.proofs.Common.{replicate, subst}
use Rattle.c_read.proofs.Messages.{captured-packet-tells, captured-tells, linked-tells, padding-len}
use Rattle.c_read.specs.Captured.{captured_of, captured_packet_of}
use Rattle.c_read.specs.Messages.{IsNamed}
use Rattle.c_read.proofs.laws.messages.only_messages_have_icmp.Goals as goal

pub returns : goal.returns
returns c =
    let bytes = c.args.bytes.now in
    record {
      captured = λ missing. subst (λ n. IsNamed (captured_of bytes n)) (padding-len missing) (captured-tells bytes (replicate missing 0)).none;
      captured_packet = λ missing. subst (λ n. IsNamed (captured_packet_of bytes n)) (padding-len missing) (captured-packet-tells bytes (replicate missing 0)).none;
      linked = λ number len. (linked-tells number bytes len).none;
    }
