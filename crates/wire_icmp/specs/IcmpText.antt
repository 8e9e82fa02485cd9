-- The printed texts of ICMP messages.
-- Pinned by: `wire/icmp`
use Rattle.std.specs.Prelude.{ℕ, ◌++◌, if◌then◌else◌, List, codes, decimal, length}
use Rattle.wire_icmp.specs.Icmp.{has_header, msg_code_of, msg_type_of, payload_of}
use Rattle.wire_icmp.specs.declared.icmp.repr.IcmpRepr.{IcmpRepr}
use Rattle.wire_icmp.specs.declared.icmp.repr.IcmpRepr.TheVariants.{EchoRequest, EchoReply, DstUnreachable, PktTooBig, TimeExceeded, ParamProblem}
use Rattle.wire_icmp.specs.declared.icmp.reason.Unreachable.{Unreachable}
use Rattle.wire_icmp.specs.declared.icmp.reason.Unreachable.TheVariants as unreachable
use Rattle.wire_icmp.specs.declared.icmp.reason.Exceeded.{Exceeded}
use Rattle.wire_icmp.specs.declared.icmp.reason.Exceeded.TheVariants as exceeded

-- the printed text of a message: its type, its code and its payload length, or that it has no whole header
abbrev pub packet_text : List ℕ → List ℕ
packet_text bytes =
    if has_header bytes
    then codes "ICMP type=" ++ decimal (msg_type_of bytes) ++ codes " code=" ++ decimal (msg_code_of bytes) ++ codes " len=" ++ decimal (length (payload_of bytes))
    else codes "ICMP (wire::Error)"

-- the printed text of the reason of "destination unreachable"
abbrev pub unreachable_text : Unreachable → List ℕ
unreachable_text unreachable.NoRoute = codes "no route"
unreachable_text unreachable.Host = codes "host"
unreachable_text unreachable.Port = codes "port"
unreachable_text unreachable.Prohibited = codes "prohibited"
unreachable_text (unreachable.Other code) = codes "code " ++ decimal code

-- the printed text of the reason of "time exceeded"
abbrev pub exceeded_text : Exceeded → List ℕ
exceeded_text exceeded.HopLimit = codes "hop limit"
exceeded_text exceeded.Reassembly = codes "reassembly"
exceeded_text (exceeded.Other code) = codes "code " ++ decimal code

-- the printed text of an ICMP value
abbrev pub value_text : IcmpRepr → List ℕ
value_text (EchoRequest ident seq_no) = codes "ICMP echo request id=" ++ decimal ident ++ codes " seq=" ++ decimal seq_no
value_text (EchoReply ident seq_no) = codes "ICMP echo reply id=" ++ decimal ident ++ codes " seq=" ++ decimal seq_no
value_text (DstUnreachable reason) = codes "ICMP destination unreachable (" ++ unreachable_text reason ++ codes ")"
value_text (PktTooBig mtu) = codes "ICMP packet too big mtu=" ++ decimal mtu
value_text (TimeExceeded reason) = codes "ICMP time exceeded (" ++ exceeded_text reason ++ codes ")"
value_text (ParamProblem code pointer) = codes "ICMP parameter problem code=" ++ decimal code ++ codes " pointer=" ++ decimal pointer
