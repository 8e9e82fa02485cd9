-- The length of the payload of a packet in a frame.
use Rattle.std.proofs.Common.{ℕ, ◌≡◌, ◌≤◌, false, List, length}
use Rattle.net_base.specs.Checksum.{verifies}
use Rattle.net_base.specs.declared.ChecksumCapabilities.{ChecksumCapabilities}
use Rattle.ip_wire.specs.Frame.{ReadsPacket, packet_payload}
use Rattle.wire_ip.proofs.IpPayload.{payload-fits, payload-len}
use Rattle.wire_ip.specs.Ip.{max_payload_len, payload_len_of}
use Rattle.ip_wire.specs.Types.{IpRepr, Ipv4, Ipv6}

pub packet_payload-len : (caps : ChecksumCapabilities) (bytes : List ℕ) (v : IpRepr) → ReadsPacket caps bytes v → length (packet_payload v bytes) ≡ payload_len_of v
packet_payload-len caps bytes (Ipv4 v) r = payload-len bytes (verifies caps.ipv4) (Ipv4 v) r.0
packet_payload-len caps bytes (Ipv6 v) r = payload-len bytes false (Ipv6 v) r

pub packet_payload-fits : (caps : ChecksumCapabilities) (bytes : List ℕ) (v : IpRepr) → ReadsPacket caps bytes v → payload_len_of v ≤ max_payload_len v
packet_payload-fits caps bytes (Ipv4 v) r = payload-fits bytes (verifies caps.ipv4) (Ipv4 v) r.0
packet_payload-fits caps bytes (Ipv6 v) r = payload-fits bytes false (Ipv6 v) r
