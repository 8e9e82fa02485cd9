-- Where the payload of an IP packet is. All places count from the first byte of the packet.
-- Pinned by: `worked/edit`, `worked/nat`, `worked/route`
use Rattle.std.specs.Prelude.{ℕ, List}
use Rattle.ip_wire.specs.Field.{with_range}
use Rattle.ip_wire.specs.Ipv4 as ipv4
use Rattle.ip_wire.specs.Ipv6 as ipv6
use Rattle.ip_wire.specs.Types.{IpVersion}
use Rattle.ip_wire.specs.declared.IpVersion.TheVariants as version
use Rattle.app_edit.specs.declared.layout.Layout.{Layout}

-- where the payload of a packet of this version begins: after the header; IPv6 extension headers are part of it
abbrev pub payload_start : IpVersion → List ℕ → ℕ
payload_start version.Ipv4 bytes = ipv4.header_len bytes
payload_start version.Ipv6 bytes = 40

-- where the payload ends, and with it the packet; later bytes are padding
abbrev pub payload_end : IpVersion → List ℕ → ℕ
payload_end version.Ipv4 bytes = ipv4.total_len bytes
payload_end version.Ipv6 bytes = ipv6.total_len bytes

-- the layout of a packet of this version
abbrev pub layout_of : IpVersion → List ℕ → Layout
layout_of v bytes = record { start = payload_start v bytes; end = payload_end v bytes }

-- the bytes of a packet of this version with another payload
abbrev pub with_payload : IpVersion → List ℕ → List ℕ → List ℕ
with_payload v bytes payload = with_range bytes (payload_start v bytes) (payload_end v bytes) payload
