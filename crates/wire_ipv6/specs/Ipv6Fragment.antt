-- IPv6 fragment headers (RFC 8200, section 4.5), without their first two bytes.
-- Pinned by: `wire/ipv6fragment`, `calls/frag`, `cases/ipv6_fragments`, `wire/ipv6`
use Rattle.std.specs.Prelude.{ℕ, ◌≡◌, ◌↔◌, ◌≤◌, ◌+◌, ◌*◌, ◌%◌, ◌^◌, ◌++◌, ◌==◌, nat_le, if◌then◌else◌, Bool, IsTrue, Option, Some, None, List, codes, decimal, length}
use Rattle.std.specs.Borrow.{Bor, MutBor}
use Rattle.std.specs.Option.{option_map_or}
use Rattle.byteorder.specs.Endian.{big_bytes}
use Rattle.net_base.specs.Field.{field}
use Rattle.net_base.specs.Borrow.{Holds}
use Rattle.wire_ipv6.specs.declared.ipv6fragment.header.Ipv6FragmentView.{Ipv6FragmentView}
use Rattle.wire_ipv6.specs.declared.ipv6fragment.repr.Ipv6FragmentRepr.{Ipv6FragmentRepr}

-- a reading view of a fragment header
abbrev pub Reading : Type 0
Reading = Ipv6FragmentView (Bor (List ℕ))

-- a mutable view of a fragment header
abbrev pub Writing : Type 0
Writing = Ipv6FragmentView (MutBor (List ℕ))

-- the slice under a view
abbrev pub header_slice : {B : Type 0} → Ipv6FragmentView B → B
header_slice h = h.buffer

-- the bytes under a reading view
abbrev pub header_bytes : Reading → List ℕ
header_bytes h = (header_slice h).now

-- the bytes under a mutable view
abbrev pub header_bytes_mut : Writing → List ℕ
header_bytes_mut h = (header_slice h).now

-- the view still borrows the same slice, and the slice now holds these bytes
abbrev pub Becomes : Writing → Writing → List ℕ → Type 0
Becomes old new bytes = Holds (header_slice old) (header_slice new) bytes

-- the offset of the fragment in units of 8 bytes
abbrev pub frag_offset_of : List ℕ → ℕ
frag_offset_of bytes = field bytes 0 13

-- the flag M (more fragments): 1 if it is set, else 0
abbrev pub more_frags_of : List ℕ → ℕ
more_frags_of bytes = field bytes 15 1

-- the identification
abbrev pub ident_of : List ℕ → ℕ
ident_of bytes = field bytes 16 32

-- the bytes begin with a fragment header that parses as this value; the two reserved bits are ignored
pub record Reads (bytes : List ℕ) (v : Ipv6FragmentRepr) : Type 0 where
  pub whole : 6 ≤ length bytes
  pub frag_offset : v.frag_offset ≡ frag_offset_of bytes
  pub more_frags : IsTrue v.more_frags ↔ (more_frags_of bytes ≡ 1)
  pub ident : v.ident ≡ ident_of bytes

-- the values of the fields of a fragment header
abbrev pub header_of : List ℕ → Ipv6FragmentRepr
header_of bytes = record {
  frag_offset = frag_offset_of bytes;
  more_frags = more_frags_of bytes == 1;
  ident = ident_of bytes;
}

-- the value that the bytes parse as, if there is one
unfoldable pub ipv6_fragment_of : List ℕ → Option Ipv6FragmentRepr
ipv6_fragment_of bytes = if nat_le 6 (length bytes) then Some (header_of bytes) else None

-- the normal form: the value that its header parses as; the offset is cut to 13 bits
abbrev pub normal : Ipv6FragmentRepr → Ipv6FragmentRepr
normal v = record v { frag_offset = v.frag_offset % 2 ^ 13 }

-- 1 for a flag that is set, else 0
abbrev pub flag : Bool → ℕ
flag set = if set then 1 else 0

-- the fragment header with these values: the offset is cut to 13 bits, and the reserved bits are 0
abbrev pub bytes_of : Ipv6FragmentRepr → List ℕ
bytes_of v = big_bytes 2 (v.frag_offset % 2 ^ 13 * 8 + flag v.more_frags) ++ big_bytes 4 v.ident

-- the printed text of a flag
abbrev pub flag_text : Bool → List ℕ
flag_text set = if set then codes "true" else codes "false"

-- the printed text of a fragment header's values
unfoldable pub value_text : Ipv6FragmentRepr → List ℕ
value_text v =
    codes "IPv6 Fragment offset=" ++ decimal v.frag_offset ++ codes " more=" ++ flag_text v.more_frags ++ codes " ident=" ++ decimal v.ident

-- the printed text of a fragment header, or that the bytes hold none
abbrev pub header_text : List ℕ → List ℕ
header_text bytes = option_map_or value_text (ipv6_fragment_of bytes) (codes "IPv6 Fragment (wire::Error)")
