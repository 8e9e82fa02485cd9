-- An IP packet that is put together from its fragments (RFC 791, section 3.2; RFC 8200, section 4.5).
-- Pinned by: `fragments/datagrams`
use Rattle.std.specs.Prelude.{ℕ, ◌≡◌, ◌≢◌, ◌↔◌, ◌<◌, ◌≤◌, ◌+◌, ◌⊎◌, ◌==◌, ◌||◌, if◌then◌else◌, Bool, IsTrue, false, None, List, [], ◌∷◌, ◌++◌, drop, length, slice_range, take}
use Rattle.ip_wire.specs.Field.{IsOutside, bit, field, with_field}
use Rattle.ip_wire.specs.Ipv4.{header_len, ip_version_of, is_fragment, total_len, with_checksum}
use Rattle.ip_wire.specs.Ipv6 as ipv6
use Rattle.app_fragment.specs.Fragments.{Assembles, Fragment, Make, end_of}
use Rattle.app_fragment.specs.Ipv4Fragments.{IsCommon, IsIpv4, payload_of, with_place}
use Rattle.app_fragment.specs.Parts.{IsOf, by_version, counted_len, ecn_of, fragment_of, header_of, key_of, packet_len, part_header_len}
use Rattle.app_fragment.specs.declared.datagram.Datagram.{Datagram}
use Rattle.app_fragment.specs.declared.part.FragKey.{FragKey}

-- ---- the packets that are fragments of one packet

-- the claim is true of each packet
abbrev pub EachPacket : (List ℕ → Type 0) → List (List ℕ) → Type 0
EachPacket P [] = Unit {0}
EachPacket P (p ∷ ps) = P p × EachPacket P ps

-- the claim is true of some packet
abbrev pub OnePacket : (List ℕ → Type 0) → List (List ℕ) → Type 0
OnePacket P [] = ⊥
OnePacket P (p ∷ ps) = P p ⊎ OnePacket P ps

-- the packets as fragments
abbrev pub fragments_of : List (List ℕ) → List Fragment
fragments_of [] = []
fragments_of (p ∷ ps) = fragment_of p ∷ fragments_of ps

-- the packet is a fragment with offset 0
abbrev pub IsFirst : List ℕ → Type 0
IsFirst p = (fragment_of p).first ≡ 0

-- some packet has this codepoint of explicit congestion notification: 0 is Not-ECT (not capable), 3 is CE (congestion
-- experienced)
abbrev pub has_ecn : ℕ → List (List ℕ) → Bool
has_ecn ecn [] = false
has_ecn ecn (p ∷ ps) = ecn_of p == ecn || has_ecn ecn ps

-- the packets have codepoints that do not go together: CE and Not-ECT (RFC 3168, section 5.3)
abbrev pub IsMixed : List (List ℕ) → Type 0
IsMixed ps = IsTrue (has_ecn 3 ps) × IsTrue (has_ecn 0 ps)

-- The packets are fragments of a packet that is longer than any: the payload ends after byte 65,535, or the length of the
-- payload does not fit in the length field of a packet with the header of a first fragment.
abbrev pub IsTooLong : List (List ℕ) → Type 0
IsTooLong ps = OnePacket (λ l. ((fragment_of l).more ≡ false) × ((65535 < end_of (fragment_of l))
    ⊎ OnePacket (λ p. IsFirst p × (65535 < counted_len p + end_of (fragment_of l))) ps)) ps

-- ---- the memory of a packet

-- the header that is stored, by its own length; none if that is 0
abbrev pub stored_header : List ℕ → List ℕ
stored_header header = take (part_header_len header) header

-- the packet is a fragment with offset 0, and this is its header
abbrev pub IsHeaderOf : List ℕ → List ℕ → Type 0
IsHeaderOf header p = IsFirst p × (header ≡ header_of p)

-- the stored header is that of a first fragment among the packets; there is none if all are later fragments
abbrev pub HasHeader : List ℕ → List (List ℕ) → Type 0
HasHeader header ps = ((part_header_len header ≡ 0) × EachPacket (λ p. ¬ IsFirst p) ps) ⊎ OnePacket (IsHeaderOf (stored_header header)) ps

-- The memory has exactly these fragments of the packet. The whole packet is not too long, as far as its header and its
-- end are known, and the codepoints of the fragments go together.
pub record Collects (d : Datagram) (buffer received : List ℕ) (ps : List (List ℕ)) : Type 0 where
  pub all : EachPacket (IsOf d.key) ps
  pub assembles : Assembles buffer received d.ends (fragments_of ps)
  pub header : HasHeader d.header ps
  pub within : d.ends.len ≤ length buffer
  pub inside : EachPacket (λ p. end_of (fragment_of p) ≤ length buffer) ps
  pub fits : counted_len d.header + d.ends.len ≤ 65535
  pub ce : (d.ce ≢ 0) ↔ IsTrue (has_ecn 3 ps)
  pub not_ect : (d.not_ect ≢ 0) ↔ IsTrue (has_ecn 0 ps)
  pub unmixed : ¬ IsMixed ps

-- ---- the whole packet

-- the codepoint of the whole packet: CE if a fragment has it, else that of the first fragment p
abbrev pub whole_ecn : List (List ℕ) → List ℕ → ℕ
whole_ecn ps p = if has_ecn 3 ps then 3 else ecn_of p

-- an IPv4 header with the codepoint CE, if a fragment has it
abbrev pub ipv4_with_ce : Bool → List ℕ → List ℕ
ipv4_with_ce ce header = if ce then with_field header 14 2 3 else header

-- an IPv6 header with the codepoint CE, if a fragment has it
abbrev pub ipv6_with_ce : Bool → List ℕ → List ℕ
ipv6_with_ce ce header = if ce then with_field header 10 2 3 else header

-- the IPv4 header of the packet with a payload of this length, by the header of its first fragment
abbrev pub ipv4_whole_header : List ℕ → ℕ → Bool → List ℕ
ipv4_whole_header header len ce = with_checksum (with_place (length header + len) false 0 (ipv4_with_ce ce header))

-- the IPv6 header of the packet with a payload of this length, by the header of its first fragment: the next header is
-- that of the fragment header
abbrev pub ipv6_whole_header : List ℕ → ℕ → Bool → List ℕ
ipv6_whole_header header len ce =
    ipv6_with_ce ce (with_field (with_field (take 40 header) 32 16 len) 48 8 (field header 320 8))

-- the header of the packet with a payload of this length, by the header of its first fragment
abbrev pub whole_header : List ℕ → ℕ → Bool → List ℕ
whole_header header len ce = by_version header (ipv4_whole_header header len ce) (ipv6_whole_header header len ce)

-- the packet with this payload, by the header of its first fragment
abbrev pub whole_bytes : List ℕ → List ℕ → Bool → List ℕ
whole_bytes header payload ce = whole_header header (length payload) ce ++ payload

-- The bytes have the IPv4 header of p, a first fragment: all bits but those of the total length, MF, the fragment offset,
-- the checksum and the codepoint, and the options.
pub record HasIpv4HeaderOf (ps : List (List ℕ)) (bytes p : List ℕ) : Type 0 where
  pub first : IsFirst p
  pub bits : (i : ℕ) → i < 160 → IsCommon None i → IsOutside 14 2 i → bit bytes i ≡ bit p i
  pub ecn : ecn_of bytes ≡ whole_ecn ps p
  pub options : slice_range bytes 20 (header_len bytes) ≡ slice_range p 20 (header_len p)

-- The bytes have the IPv6 header of p, a first fragment: all bits but those of the payload length, the next header and
-- the codepoint. The next header is that of the fragment header.
pub record HasIpv6HeaderOf (ps : List (List ℕ)) (bytes p : List ℕ) : Type 0 where
  pub first : IsFirst p
  pub bits : (i : ℕ) → i < 320 → IsOutside 32 24 i → IsOutside 10 2 i → bit bytes i ≡ bit p i
  pub ecn : ecn_of bytes ≡ whole_ecn ps p
  pub next_header : field bytes 48 8 ≡ field p 320 8

-- The bytes begin with the IPv4 packet of this key and length that the packets make: a valid packet, and no fragment.
pub record IsWholeIpv4 (key : FragKey) (ps : List (List ℕ)) (len : ℕ) (bytes : List ℕ) : Type 0 where
  pub valid : IsIpv4 bytes
  pub total : total_len bytes ≡ len
  pub only : is_fragment bytes ≡ false
  pub same : key_of bytes ≡ key
  pub header : OnePacket (HasIpv4HeaderOf ps bytes) ps
  pub payload : Make (fragments_of ps) (payload_of bytes)

-- The bytes begin with the IPv6 packet of this key and length that the packets make, without a fragment header.
pub record IsWholeIpv6 (key : FragKey) (ps : List (List ℕ)) (len : ℕ) (bytes : List ℕ) : Type 0 where
  pub version_of_key : key.version ≡ 6
  pub lengths : ipv6.HasLengths bytes
  pub version : ip_version_of bytes ≡ 6
  pub total : ipv6.total_len bytes ≡ len
  pub src : ipv6.src_addr_of bytes ≡ key.src
  pub dst : ipv6.dst_addr_of bytes ≡ key.dst
  pub header : OnePacket (HasIpv6HeaderOf ps bytes) ps
  pub payload : Make (fragments_of ps) (ipv6.payload_of bytes)

-- the bytes begin with the packet of this key and length that the packets make
abbrev pub IsWhole : FragKey → List (List ℕ) → ℕ → List ℕ → Type 0
IsWhole key ps len bytes = IsWholeIpv4 key ps len bytes ⊎ IsWholeIpv6 key ps len bytes

-- `out` had other bytes, and begins now with this first fragment, which has this length
pub record IsFirstWritten (len : ℕ) (out other p : List ℕ) : Type 0 where
  pub first : IsFirst p
  pub total : packet_len p ≡ len
  pub bytes : out ≡ take len p ++ drop len other
