-- The fragments of an IPv4 packet (RFC 791, sections 2.3 and 3.2; RFC 1812, section 4.2.2.7). A place is counted in
-- bytes from the beginning of the packet's payload.
-- Pinned by: `fragments/ipv4_fragments`
use Rattle.std.specs.Prelude.{ℕ, ◌≡◌, ◌≤◌, ◌+◌, ◌-◌, ◌/◌, ◌⊎◌, ◌==◌, ◌||◌, not, if◌then◌else◌, Bool, false, Option, None, Some, List, ◌++◌, slice_range, take}
use Rattle.ip_wire.specs.Diagram.{flag}
use Rattle.ip_wire.specs.Field.{IsOutside, field, with_field}
use Rattle.ip_wire.specs.Ipv4.{HasChecksum, HasLengths, dont_frag_of, fragment_offset, header_len, ip_version_of, is_fragment, more_frags_of, total_len, with_checksum}
use Rattle.app_fragment.specs.Fragments.{BeginsAt, Fragment, cut_len, fragment, numbered_place}
use Rattle.app_fragment.specs.Ipv4Options.{later_options}

-- the length of the payload
abbrev pub payload_len : List ℕ → ℕ
payload_len bytes = total_len bytes - header_len bytes

-- the payload of the packet
abbrev pub payload_of : List ℕ → List ℕ
payload_of bytes = slice_range bytes (header_len bytes) (total_len bytes)

-- the packet as a fragment; one that is not fragmented is the only fragment
abbrev pub fragment_of : List ℕ → Fragment
fragment_of bytes = fragment (field bytes 51 13) (more_frags_of bytes == 1) (payload_of bytes)

-- the bytes begin with a valid IPv4 packet
pub record IsIpv4 (bytes : List ℕ) : Type 0 where
  pub lengths : HasLengths bytes
  pub version : ip_version_of bytes ≡ 4
  pub checksum : HasChecksum bytes

-- ---- which packets are fragmented

-- Fragmentation is allowed: a forwarded packet fits in the MTU, or has DF (don't fragment) clear. A packet of one's own,
-- which gets this identification, is no fragment.
abbrev pub IsAllowed : Option ℕ → List ℕ → ℕ → Type 0
IsAllowed None bytes mtu = (dont_frag_of bytes ≡ 0) ⊎ (total_len bytes ≤ mtu)
IsAllowed (Some ident) bytes mtu = is_fragment bytes ≡ false

-- The packet may be fragmented: its header is valid, fragmentation is allowed, and all its payload has an offset that
-- fits in the field.
pub record MayBeFragmented (ident : Option ℕ) (bytes : List ℕ) (mtu : ℕ) : Type 0 where
  pub valid : IsIpv4 bytes
  pub allowed : IsAllowed ident bytes mtu
  pub within : fragment_offset bytes + payload_len bytes ≤ 65535

-- a fragment may begin at this place of the payload
abbrev pub MayBegin : List ℕ → ℕ → ℕ → Type 0
MayBegin bytes at mtu = BeginsAt (header_len bytes) (payload_len bytes) at mtu

-- the place where the fragment of this number begins, in packets of at most `mtu` bytes
abbrev pub place_of : List ℕ → ℕ → ℕ → Option ℕ
place_of bytes mtu = numbered_place (mtu - header_len bytes) (payload_len bytes)

-- the place where the fragment ends that begins at a place, in packets of at most `mtu` bytes: the end of the payload if
-- all that are left fit, else after as many blocks of 8 bytes as fit
abbrev pub next_place : List ℕ → ℕ → ℕ → ℕ
next_place bytes at mtu = at + cut_len (mtu - header_len bytes) (payload_len bytes - at)

-- ---- the fragment from one place up to another

-- the total length of the fragment from place `at` up to `next`
abbrev pub fragment_len : List ℕ → ℕ → ℕ → ℕ
fragment_len bytes at next = header_len bytes + (next - at)

-- MF (more fragments) of the fragment that ends at `next`: clear only at the end of the payload of a packet with MF clear
abbrev pub has_more : List ℕ → ℕ → Bool
has_more bytes next = more_frags_of bytes == 1 || not (next == payload_len bytes)

-- the options of the fragment that begins at `at`, by those of the packet
abbrev pub options_at : ℕ → List ℕ → List ℕ
options_at at options = if at == 0 then options else later_options options

-- the header of the packet with the options of the fragment that begins at `at`
abbrev pub header_at : List ℕ → ℕ → List ℕ
header_at bytes at = take 20 bytes ++ options_at at (slice_range bytes 20 (header_len bytes))

-- the header with the identification of a packet of one's own and with DF clear; the header of a forwarded packet stays
abbrev pub with_ident : Option ℕ → List ℕ → List ℕ
with_ident None header = header
with_ident (Some ident) header = with_field (with_field header 32 16 ident) 49 1 0

-- the header with this total length, MF and fragment offset; the offset counts bytes
abbrev pub with_place : ℕ → Bool → ℕ → List ℕ → List ℕ
with_place len more offset header =
    with_field (with_field (with_field header 16 16 len) 50 1 (flag more)) 51 13 (offset / 8)

-- the header of the fragment from `at` up to `next`, with the checksum of the packet
abbrev pub unsummed_header : Option ℕ → List ℕ → ℕ → ℕ → List ℕ
unsummed_header ident bytes at next =
    with_place (fragment_len bytes at next) (has_more bytes next) (fragment_offset bytes + at) (with_ident ident (header_at bytes at))

-- the header of the fragment from `at` up to `next`, with its checksum
abbrev pub fragment_header : Option ℕ → List ℕ → ℕ → ℕ → List ℕ
fragment_header ident bytes at next = with_checksum (unsummed_header ident bytes at next)

-- the bytes of the fragment from `at` up to `next`: its header, and the payload between these places
abbrev pub fragment_bytes : Option ℕ → List ℕ → ℕ → ℕ → List ℕ
fragment_bytes ident bytes at next =
    fragment_header ident bytes at next ++ slice_range bytes (header_len bytes + at) (header_len bytes + next)

-- bit i of the header is none of those that a fragment may have otherwise than its packet: the total length, MF, the
-- fragment offset, the checksum; of a packet of one's own also the identification and DF
abbrev pub IsCommon : Option ℕ → ℕ → Type 0
IsCommon None i = IsOutside 16 16 i × IsOutside 50 14 i × IsOutside 80 16 i
IsCommon (Some ident) i = IsOutside 16 32 i × IsOutside 49 15 i × IsOutside 80 16 i
