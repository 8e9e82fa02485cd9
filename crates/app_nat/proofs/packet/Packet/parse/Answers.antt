use Rattle.std.proofs.Common.{◌≡◌, ◌∙◌, ap, drop, sym}
use Rattle.std.proofs.lemmas.List.{take_rest}
use Rattle.std.proofs.lemmas.Result.{IfErr-weaker}
use Rattle.ip_wire.specs.Field.{field}
use Rattle.ip_wire.specs.Protocol.{protocol_of}
use Rattle.app_nat.proofs.Faults.{payload-fault}
use Rattle.app_nat.specs.Nat.{transport_fault}
use Rattle.app_nat.proofs.packet.Packet.parse.Goals as goal

pub parse_transport-requires : goal.parse_transport-requires
parse_transport-requires c =
    let number : c.protocol_number-number.result ≡ field (drop 14 c.args.frame.now) 72 8 = rw (take_rest c.args.frame.now 14) at c.protocol_number-number.ensures in
    c.in-Ok.ensures.whole.reads.0.next_header ∙ ap protocol_of (sym number)

pub returns-in-Ok-clause-rejected : goal.returns-in-Ok-clause-rejected
returns-in-Ok-clause-rejected c =
    let same = payload-fault transport_fault c.args.frame.now c.in-Ok.payload.now c.in-Ok.header c.in-Ok.ensures.whole in
    IfErr-weaker c.parse_transport.result _ _ (λ reason why. same ∙ why) c.parse_transport.ensures.rejected
