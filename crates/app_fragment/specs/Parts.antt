-- The fragment that an IPv4 or IPv6 packet is (RFC 791, section 3.2; RFC 8200, section 4.5).
-- Pinned by: `fragments/datagrams`
use Rattle.std.specs.Prelude.{ℕ, ◌≡◌, ◌≤◌, ◌++◌, ◌⊎◌, ◌==◌, if◌then◌else◌, List, [], ◌∷◌, replicate, slice_range, take}
use Rattle.ip_wire.specs.Field.{field}
use Rattle.ip_wire.specs.Ipv4.{header_len, ident_of, ip_version_of}
use Rattle.ip_wire.specs.Ipv4 as ipv4
use Rattle.ip_wire.specs.Ipv6 as ipv6
use Rattle.app_fragment.specs.Fragments.{Fragment, fragment}
use Rattle.app_fragment.specs.Ipv4Fragments.{IsIpv4}
use Rattle.app_fragment.specs.Ipv4Fragments as v4
use Rattle.app_fragment.specs.declared.part.FragKey.{FragKey}
use Rattle.app_fragment.specs.declared.part.Part.{Part}

-- The bytes begin with an IPv6 packet whose fixed header is followed by a fragment header, which has 8 bytes.
pub record IsIpv6 (bytes : List ℕ) : Type 0 where
  pub lengths : ipv6.HasLengths bytes
  pub version : ip_version_of bytes ≡ 6
  pub next_header : field bytes 48 8 ≡ 44
  pub whole : 8 ≤ ipv6.payload_len_of bytes

-- the bytes begin with a packet that may be a fragment
abbrev pub IsValid : List ℕ → Type 0
IsValid bytes = IsIpv4 bytes ⊎ IsIpv6 bytes

-- of two values the one for the version of the packet: IPv4 or IPv6
abbrev pub by_version : {A : Type 0} → List ℕ → A → A → A
by_version bytes four six = if ip_version_of bytes == 6 then six else four

-- ---- the key of a fragment

-- an IPv4 address in 16 bytes: zeros follow it
abbrev pub padded : List ℕ → List ℕ
padded addr = addr ++ replicate 12 0

-- what the fragments of an IPv4 packet have in common
abbrev pub ipv4_key : List ℕ → FragKey
ipv4_key bytes = record {
  ident = ident_of bytes;
  version = 4;
  protocol = field bytes 72 8;
  unused = 0 ∷ 0 ∷ [];
  src = padded (ipv4.src_addr_of bytes);
  dst = padded (ipv4.dst_addr_of bytes);
}

-- what the fragments of an IPv6 packet have in common: the identification of the fragment header, and the addresses
abbrev pub ipv6_key : List ℕ → FragKey
ipv6_key bytes = record {
  ident = field bytes 352 32;
  version = 6;
  protocol = 0;
  unused = 0 ∷ 0 ∷ [];
  src = ipv6.src_addr_of bytes;
  dst = ipv6.dst_addr_of bytes;
}

-- what the fragments of the packet have in common
abbrev pub key_of : List ℕ → FragKey
key_of bytes = by_version bytes (ipv4_key bytes) (ipv6_key bytes)

-- the packet is valid, and it has this key
pub record IsOf (key : FragKey) (bytes : List ℕ) : Type 0 where
  pub valid : IsValid bytes
  pub same : key_of bytes ≡ key

-- ---- the fragment and its header

-- the payload of an IPv6 packet after the fragment header
abbrev pub ipv6_payload : List ℕ → List ℕ
ipv6_payload bytes = slice_range bytes 48 (ipv6.total_len bytes)

-- an IPv6 packet as a fragment: the offset and the flag M (more fragments) of its fragment header
abbrev pub ipv6_fragment : List ℕ → Fragment
ipv6_fragment bytes = fragment (field bytes 336 13) (field bytes 351 1 == 1) (ipv6_payload bytes)

-- the packet as a fragment; one that is not fragmented is the only fragment
abbrev pub fragment_of : List ℕ → Fragment
fragment_of bytes = by_version bytes (v4.fragment_of bytes) (ipv6_fragment bytes)

-- the length of the header of a fragment: over IPv6 the fixed header and the fragment header
abbrev pub part_header_len : List ℕ → ℕ
part_header_len bytes = by_version bytes (header_len bytes) 48

-- the length of the header of a packet that is put together: over IPv6 without the fragment header
abbrev pub whole_header_len : List ℕ → ℕ
whole_header_len bytes = by_version bytes (header_len bytes) 40

-- how many bytes of the header the length field of a packet counts: over IPv4 all, and over IPv6 none
abbrev pub counted_len : List ℕ → ℕ
counted_len bytes = by_version bytes (header_len bytes) 0

-- the header of a fragment: all its bytes before the payload
abbrev pub header_of : List ℕ → List ℕ
header_of bytes = take (part_header_len bytes) bytes

-- the length of the packet in bytes
abbrev pub packet_len : List ℕ → ℕ
packet_len bytes = by_version bytes (ipv4.total_len bytes) (ipv6.total_len bytes)

-- the payload of a packet that is put together
abbrev pub whole_payload : List ℕ → List ℕ
whole_payload bytes = by_version bytes (v4.payload_of bytes) (ipv6.payload_of bytes)

-- the codepoint of explicit congestion notification (RFC 3168, section 5): the last two bits of the type of service or
-- of the traffic class
abbrev pub ecn_of : List ℕ → ℕ
ecn_of bytes = by_version bytes (ipv4.ecn_of bytes) (field bytes 10 2)

-- the packet is valid, and parses as this fragment
pub record Reads (bytes : List ℕ) (part : Part) : Type 0 where
  pub valid : IsOf part.key bytes
  pub fragment : fragment part.first part.more part.payload.now ≡ fragment_of bytes
  pub ecn : part.ecn ≡ ecn_of bytes
  pub header : part.header.now ≡ header_of bytes
