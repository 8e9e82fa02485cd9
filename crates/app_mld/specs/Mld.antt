-- Multicast listener discovery, version 1 (RFC 2710): the report of a group, and the queries that ask for it.
-- Pinned by: `worked/mld`, `judge`
use Rattle.std.specs.Prelude.{ℕ, ◌≡◌, ◌≤◌, ◌⊎◌, ◌++◌, List, [], ◌∷◌, MatchOption, Option, drop, length, slice_range, true}
use Rattle.ip_wire.specs.Block.{Block, IsIn}
use Rattle.ip_wire.specs.Class.{ipv6_block, ipv6_unspecified}
use Rattle.ip_wire.specs.Ethernet as ethernet
use Rattle.ip_wire.specs.Field.{field}
use Rattle.ip_wire.specs.Frame.{Carried, IsReadWhole, other, packet}
use Rattle.ip_wire.specs.Ipv6 as ipv6
use Rattle.ip_wire.specs.Protocol.{number_of}
use Rattle.ip_wire.specs.Types.{EthernetAddress, EthernetRepr, Ipv6, Ipv6Repr}
use Rattle.ip_wire.specs.declared.EthernetProtocol.TheVariants as ethertype
use Rattle.ip_wire.specs.declared.IpAddress.TheVariants as address
use Rattle.ip_wire.specs.declared.IpProtocol.TheVariants as protocol
use Rattle.wire_extensions.specs.Chain.{chain_of}
use Rattle.wire_icmp.specs.Icmp.{Verifies, emitted, msg_type_of}
use Rattle.app_host.specs.Neighbour.{group_hardware}

-- ---- reports

-- The hop-by-hop options of a report, 8 bytes before ICMPv6 (58): the router alert (type 5, length 2) with the value 0
-- for MLD (RFC 2711, section 2.1), and PadN without data (type 1, length 0; RFC 8200, section 4.2).
abbrev pub router_alert : List ℕ
router_alert = 58 ∷ 0 ∷ 5 ∷ 2 ∷ 0 ∷ 0 ∷ 1 ∷ 0 ∷ []

-- the message of a report: type 131, code 0, maximum response delay 0, and the group (RFC 2710, section 3); it goes to
-- the group (section 8)
abbrev pub report_message : List ℕ → List ℕ → List ℕ
report_message src group = emitted (record { msg_type = 131; msg_code = 0; word = 0 }) group (address.Ipv6 src) (address.Ipv6 group) true

-- what follows the IPv6 header of a report
abbrev pub report_payload : List ℕ → List ℕ → List ℕ
report_payload src group = router_alert ++ report_message src group

-- the IPv6 header of a report: hop limit 1 (RFC 2710, section 3)
abbrev pub report_ip : List ℕ → List ℕ → Ipv6Repr
report_ip src group = record { src_addr = src; dst_addr = group; next_header = protocol.HopByHop; payload_len = 32; hop_limit = 1 }

-- the Ethernet header of a report
abbrev pub report_link : EthernetAddress → List ℕ → EthernetRepr
report_link hardware group = record { src_addr = hardware; dst_addr = record { 0 = group_hardware group }; ethertype = ethertype.Ipv6 }

-- what the frame of a report carries
abbrev pub report_values : List ℕ → List ℕ → Carried
report_values src group = packet (Ipv6 (report_ip src group)) (other (report_payload src group))

-- the bytes of the frame of a report
abbrev pub report_bytes : EthernetAddress → List ℕ → List ℕ → List ℕ
report_bytes hardware src group =
    ethernet.bytes_of (report_link hardware group) ++ (ipv6.bytes_of (report_ip src group) ++ report_payload src group)

-- ---- queries

-- the prefix of the link-local addresses, fe80::/10 (RFC 4291, section 2.4)
abbrev pub link_local_prefix : Block
link_local_prefix = ipv6_block (0xfe80 ∷ 0 ∷ 0 ∷ 0 ∷ 0 ∷ 0 ∷ 0 ∷ 0 ∷ []) 10

-- The message is a valid query that asks for the group, or for all groups, in a packet with this header (RFC 2710,
-- sections 3 and 5). It has 24 bytes in version 1, and at least 28 in version 2 (RFC 3810, section 8.1). The delay is in
-- milliseconds. The code and the bytes after the first 24 are ignored: a query of version 2 begins as one of version 1
-- (RFC 3810, section 5.1).
pub record IsQueryMessage (ip : Ipv6Repr) (group message : List ℕ) (delay : ℕ) : Type 0 where
  pub len : (length message ≡ 24) ⊎ (28 ≤ length message)
  pub type : msg_type_of message ≡ 130
  pub checksum : Verifies (address.Ipv6 ip.src_addr) (address.Ipv6 ip.dst_addr) message
  pub asks : (slice_range message 8 24 ≡ ipv6_unspecified) ⊎ (slice_range message 8 24 ≡ group)
  pub value : delay ≡ field message 32 16

-- the payload of a packet with this header is a query: its hop limit is 1 (RFC 2710, section 3; RFC 3810, section 6.2), its
-- source is a link-local address, and whole extension headers lead to the message
pub record CarriesQuery (ip : Ipv6Repr) (group payload : List ℕ) (delay : ℕ) : Type 0 where
  pub hop_limit : ip.hop_limit ≡ 1
  pub from_link : IsIn link_local_prefix ip.src_addr
  pub protocol : (chain_of (number_of ip.next_header) (length payload) payload).protocol ≡ 58
  pub message : IsQueryMessage ip group (drop (chain_of (number_of ip.next_header) (length payload) payload).len payload) delay

-- the frame is a query that asks for the group
pub record IsQuery (group frame : List ℕ) (delay : ℕ) : Type 0 where
  pub header : EthernetRepr
  pub ip : Ipv6Repr
  pub payload : List ℕ
  pub reads : IsReadWhole frame header (packet (Ipv6 ip) (other payload))
  pub carries : CarriesQuery ip group payload delay

-- the delay of a query, or nothing if there is none
abbrev pub Delays : (ℕ → Type 0) → Option ℕ → Type 0
Delays IsAsked result = MatchOption result ((delay : ℕ) → ¬ IsAsked delay) IsAsked
