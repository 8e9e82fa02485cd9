-- The fragments of an IPv6 packet (RFC 8200, section 4.5). A place is counted in bytes from the beginning of the packet's
-- payload, which is all of it after the fixed header.
-- Pinned by: `fragments/ipv6_fragments`
use Rattle.std.specs.Prelude.{ℕ, ◌≡◌, ◌<◌, ◌≤◌, ◌+◌, ◌-◌, ◌/◌, ◌⊎◌, ◌==◌, nat_le, not, if◌then◌else◌, Option, List, [], ◌∷◌, ◌++◌, slice_range, take}
use Rattle.ip_wire.specs.Field.{IsOutside, field, with_field}
use Rattle.ip_wire.specs.Ipv6.{HasLengths, ip_version_of, payload_len_of, total_len}
use Rattle.ip_wire.specs.Ipv6Fragment.{bytes_of}
use Rattle.app_fragment.specs.Fragments.{BeginsAt, cut_len, numbered_place}

-- ---- which packets are fragmented

-- The next header is an extension header that each fragment has to have before its fragment header, or may have there
-- (hop-by-hop options, routing, destination options); or it is a fragment header.
abbrev pub IsExtension : ℕ → Type 0
IsExtension next = (next ≡ 0) ⊎ (next ≡ 43) ⊎ (next ≡ 44) ⊎ (next ≡ 60)

-- The packet may be fragmented: its lengths and its version are valid. It fits in the MTU, or all that follows the fixed
-- header is cut.
pub record MayBeFragmented (bytes : List ℕ) (mtu : ℕ) : Type 0 where
  pub lengths : HasLengths bytes
  pub version : ip_version_of bytes ≡ 6
  pub allowed : (total_len bytes ≤ mtu) ⊎ ¬ (IsExtension (field bytes 48 8))

-- The length of the header of each fragment: that of the fixed header and the fragment header, which has 8 bytes. A packet
-- that fits in the MTU has no fragment header.
abbrev pub header_len : List ℕ → ℕ → ℕ
header_len bytes mtu = if nat_le (total_len bytes) mtu then 40 else 48

-- a fragment may begin at this place of the payload; a packet that fits in the MTU is its only fragment
pub record MayBegin (bytes : List ℕ) (at mtu : ℕ) : Type 0 where
  pub begins : BeginsAt (header_len bytes mtu) (payload_len_of bytes) at mtu
  pub only : (mtu < total_len bytes) ⊎ (at ≡ 0)

-- the place where the fragment of this number begins, in packets of at most `mtu` bytes
abbrev pub place_of : List ℕ → ℕ → ℕ → Option ℕ
place_of bytes mtu = numbered_place (mtu - header_len bytes mtu) (payload_len_of bytes)

-- the place where the fragment ends that begins at a place, in packets of at most `mtu` bytes: the end of the payload if
-- all that are left fit, else after as many blocks of 8 bytes as fit
abbrev pub next_place : List ℕ → ℕ → ℕ → ℕ
next_place bytes at mtu = at + cut_len (mtu - header_len bytes mtu) (payload_len_of bytes - at)

-- ---- the fragment from one place up to another

-- the total length of the fragment from place `at` up to `next`
abbrev pub fragment_len : List ℕ → ℕ → ℕ → ℕ → ℕ
fragment_len bytes mtu at next = header_len bytes mtu + (next - at)

-- the fixed header of a fragment with so many bytes of the payload: 44 is the number of a fragment header
abbrev pub fixed_header : List ℕ → ℕ → List ℕ
fixed_header bytes len = with_field (with_field (take 40 bytes) 32 16 (8 + len)) 48 8 44

-- The fragment header of the fragment from `at` up to `next`: the next header of the packet, a reserved byte, the offset in
-- blocks of 8 bytes, M (more fragments), and the identification. M is clear only at the end of the payload.
abbrev pub own_header : ℕ → List ℕ → ℕ → ℕ → List ℕ
own_header ident bytes at next =
    (field bytes 48 8 ∷ 0 ∷ [])
    ++ bytes_of (record { frag_offset = at / 8; more_frags = not (next == payload_len_of bytes); ident = ident })

-- both headers of the fragment from `at` up to `next`
abbrev pub fragment_header : ℕ → List ℕ → ℕ → ℕ → List ℕ
fragment_header ident bytes at next = fixed_header bytes (next - at) ++ own_header ident bytes at next

-- the bytes of the fragment from `at` up to `next` of a packet that is cut: its headers, and the payload between these
-- places
abbrev pub cut_bytes : ℕ → List ℕ → ℕ → ℕ → List ℕ
cut_bytes ident bytes at next = fragment_header ident bytes at next ++ slice_range bytes (40 + at) (40 + next)

-- the bytes of the fragment from `at` up to `next`; a packet that fits in the MTU stays as it is
abbrev pub fragment_bytes : ℕ → List ℕ → ℕ → ℕ → ℕ → List ℕ
fragment_bytes ident bytes mtu at next =
    if nat_le (total_len bytes) mtu then take (total_len bytes) bytes else cut_bytes ident bytes at next

-- bit i of the fixed header is none of the payload length and the next header, which a fragment has otherwise than its
-- packet
abbrev pub IsCommon : ℕ → Type 0
IsCommon i = IsOutside 32 24 i
