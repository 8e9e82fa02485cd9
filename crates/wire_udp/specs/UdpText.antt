-- The printed texts of UDP packets.
-- Pinned by: `wire/udp`, `cases/udp_shapes`
use Rattle.std.specs.Prelude.{ℕ, ◌-◌, ◌++◌, if◌then◌else◌, List, codes, decimal}
use Rattle.wire_udp.specs.Udp.{has_lengths, header_of, packet_len}
use Rattle.wire_udp.specs.declared.udp.repr.UdpRepr.{UdpRepr}

-- the printed text of a UDP header's values
abbrev pub value_text : UdpRepr → List ℕ
value_text v = codes "UDP src=" ++ decimal v.src_port ++ codes " dst=" ++ decimal v.dst_port

-- the printed text of a packet: its ports and its payload length, or that the lengths are invalid
abbrev pub packet_text : List ℕ → List ℕ
packet_text bytes =
    if has_lengths bytes then value_text (header_of bytes) ++ codes " len=" ++ decimal (packet_len bytes - 8) else codes "UDP (wire::Error)"
