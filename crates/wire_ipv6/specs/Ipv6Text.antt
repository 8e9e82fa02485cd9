-- The printed texts of IPv6 headers.
-- Pinned by: `wire/ipv6`, `cases/ipv6_shapes`
use Rattle.std.specs.Prelude.{ℕ, ◌++◌, List, codes, decimal}
use Rattle.std.specs.Option.{option_map_or}
use Rattle.wire_addr.specs.Printed.{ipv6_text}
use Rattle.wire_ipv6.specs.Ipv6.{ipv6_of}
use Rattle.wire_ipv6.specs.declared.ipv6.repr.Ipv6Repr.{Ipv6Repr}
use Rattle.wire_addr.specs.Protocol.{protocol_text}

-- the printed text of an IPv6 header's values
unfoldable pub value_text : Ipv6Repr → List ℕ
value_text v =
    codes "IPv6 src=" ++ ipv6_text v.src_addr ++ codes " dst=" ++ ipv6_text v.dst_addr ++ codes " nxt_hdr=" ++ protocol_text v.next_header
    ++ codes " hop_limit=" ++ decimal v.hop_limit

-- the printed text of a packet: that of its header, or that the bytes do not parse
unfoldable pub packet_text : List ℕ → List ℕ
packet_text bytes = option_map_or value_text (ipv6_of bytes) (codes "IPv6 (wire::Error)")
