-- Frames and packets with an ICMP message, and what the struct stores of it.
-- Pinned by: `worked/icmp`, `judge`
use Rattle.std.specs.Prelude.{ℕ, ◌≡◌, ◌≢◌, ◌≤◌, ◌+◌, if◌then◌else◌, List, drop, length}
use Rattle.ip_wire.specs.Ethernet as ethernet
use Rattle.ip_wire.specs.Frame.{ReadsPacket, type_of}
use Rattle.ip_wire.specs.Ip.{dst_addr_of, src_addr_of, version_of}
use Rattle.ip_wire.specs.Types.{EthernetRepr, IpRepr}
use Rattle.wire_icmp.specs.Icmp.{protocol_of, verifies}
use Rattle.c_structs.specs.Codes.{transport_code, verdict_code}
use Rattle.c_structs.specs.Nothing.{no_icmp}
use Rattle.c_structs.specs.declared.codes.TransportKind.TheVariants as transport
use Rattle.c_structs.specs.declared.codes.Verdict.TheVariants as verdict
use Rattle.c_structs.specs.declared.types.FrameFields.{FrameFields}
use Rattle.c_read.specs.FrameFields.{icmp_values}
use Rattle.c_read.specs.Stored.{unchecked, upper_payload, upper_protocol}

-- the bytes are a packet with this header, no fragment, whose payload after IPv6 extension headers is a message with a whole
-- header
pub record IsIcmp (bytes : List ℕ) (ip : IpRepr) (message : List ℕ) : Type 0 where
  pub reads : ReadsPacket unchecked bytes ip
  pub protocol : upper_protocol ip bytes ≡ protocol_of (version_of ip)
  pub payload : message ≡ upper_payload ip bytes
  pub header : 8 ≤ length message

-- the frame carries a packet with this ICMP message, of the version that its type names
abbrev pub CarriesIcmp : List ℕ → IpRepr → List ℕ → Type 0
CarriesIcmp frame ip message =
    (header : EthernetRepr) × ethernet.Reads frame header × (header.ethertype ≡ type_of ip) × IsIcmp (drop 14 frame) ip message

-- the fields `f` of the headers before a message, with those of the message: the payload begins after its header, and all
-- other fields are the same
pub record StoresMessage (f : FrameFields) (ip : IpRepr) (message : List ℕ) (g : FrameFields) : Type 0 where
  pub transport : g.transport ≡ transport_code transport.Icmp
  pub transport_offset : g.transport_offset ≡ f.payload_offset
  pub payload_offset : g.payload_offset ≡ f.payload_offset + 8
  pub payload_len : g.payload_len + 8 ≡ length message
  pub checksum : g.transport_checksum
      ≡ verdict_code (if verifies (src_addr_of ip) (dst_addr_of ip) message then verdict.Right else verdict.Wrong)
  pub icmp : g.icmp ≡ icmp_values message
  pub others : g ≡ record f {
    transport_offset = g.transport_offset;
    payload_offset = g.payload_offset;
    payload_len = g.payload_len;
    payload_captured = g.payload_captured;
    transport = g.transport;
    transport_checksum = g.transport_checksum;
    icmp = g.icmp;
  }

-- the struct has no ICMP header, unless its `transport` is that of ICMP
abbrev pub IsNamed : FrameFields → Type 0
IsNamed f = f.transport ≢ transport_code transport.Icmp → f.icmp ≡ no_icmp

-- the struct has no ICMP header
abbrev pub LacksIcmp : FrameFields → Type 0
LacksIcmp f = (f.transport ≢ transport_code transport.Icmp) × (f.icmp ≡ no_icmp)
