-- Where the extension headers of an IPv6 packet lead, and why one of them is rejected (RFC 8200, section 4; RFC 4302).
-- Pinned by: `worked/read`, `worked/edit`, `judge`
use Rattle.std.specs.Prelude.{ℕ, zero, suc, ◌≡◌, ◌+◌, ◌-◌, ◌==◌, ◌&&◌, ◌||◌, not, nat_lt, if◌then◌else◌, Bool, true, false, Option, Some, None, List, drop, length}
use Rattle.net_base.specs.Field.{field}
use Rattle.wire_ipv6.specs.Ipv6Fragment as fragment
use Rattle.wire_ipv6.specs.declared.ipv6fragment.repr.Ipv6FragmentRepr.{Ipv6FragmentRepr}
use Rattle.wire_extensions.specs.Extension.{extension_len, is_extension}
use Rattle.wire_extensions.specs.declared.chain.Chain.{Chain}
use Rattle.wire_extensions.specs.declared.chain.ExtensionFault.{ExtensionFault}
use Rattle.wire_extensions.specs.declared.chain.ExtensionFault.TheVariants as fault

-- Why an extension header of this protocol is rejected, if it is: the first test that fails. `len` bytes of the packet
-- begin with it, of which these were captured. Hop-by-hop options must be the first header after the IPv6 header.
-- While a routing header (43) has segments left, the IPv6 header does not name the packet's last destination.
abbrev pub extension_fault : ℕ → Bool → ℕ → List ℕ → Option ExtensionFault
extension_fault protocol first len bytes =
    if nat_lt len 8 then Some fault.TooShort
    else if nat_lt (length bytes) 8 then Some fault.HeaderCut
    else if nat_lt len (extension_len protocol bytes) then Some fault.TooShort
    else if nat_lt (length bytes) (extension_len protocol bytes) then Some fault.HeaderCut
    else if (protocol == 43) && not (field bytes 24 8 == 0) then Some fault.HopsLeft
    else if (protocol == 0) && not first then Some fault.BadOrder
    else None

-- whether a fragment header with these values is that of a fragment; else it is the only one, a whole packet (RFC 6946)
abbrev pub is_part : Ipv6FragmentRepr → Bool
is_part v = v.more_frags || not (v.frag_offset == 0)

-- the chain before its first header, which has this protocol
abbrev pub begun : ℕ → Chain
begun protocol = record { len = 0; protocol = protocol; fault = None; fragment = None; is_authenticated = false }

-- the chain after a header that begins here
abbrev pub after : Chain → List ℕ → Chain
after c bytes =
    record c { len = c.len + extension_len c.protocol bytes; protocol = field bytes 0 8; is_authenticated = c.is_authenticated || c.protocol == 51 }

-- The chain at a fragment header with these values, and whether it goes on. It ends at the header of a fragment.
abbrev pub by_fragment : Chain → List ℕ → Ipv6FragmentRepr → Chain × Bool
by_fragment c bytes v =
    let noted = record c { fragment = Some v } in
    if is_part v then (noted, false) else (after noted bytes, true)

-- the chain at a header that is not rejected, and whether it goes on
abbrev pub entered : Chain → List ℕ → Chain × Bool
entered c bytes = if c.protocol == 44 then by_fragment c bytes (fragment.header_of (drop 2 bytes)) else (after c bytes, true)

-- the chain at a header that may be rejected, and whether it goes on
abbrev pub by_fault : Chain → List ℕ → Option ExtensionFault → Chain × Bool
by_fault c bytes (Some why) = (record c { fault = Some why }, false)
by_fault c bytes None = entered c bytes

-- The chain after its next header, and whether it goes on. The IPv6 header is followed by `len` bytes, of which these were
-- captured.
unfoldable pub stepped : ℕ → List ℕ → Chain → Chain × Bool
stepped len bytes c =
    let rest = drop c.len bytes in
    if is_extension c.protocol then by_fault c rest (extension_fault c.protocol (c.len == 0) (len - c.len) rest) else (c, false)

-- the chain after this and the following headers, at most n
abbrev pub walked : ℕ → ℕ → List ℕ → Chain → Chain
walked zero len bytes c = c
walked (suc n) len bytes c = if (stepped len bytes c).1 then walked n len bytes (stepped len bytes c).0 else (stepped len bytes c).0

-- The chain of the extension headers from this protocol on. Each header has a byte or more, so their number is at most that
-- of the bytes.
unfoldable pub chain_of : ℕ → ℕ → List ℕ → Chain
chain_of protocol len bytes = walked (suc (length bytes)) len bytes (begun protocol)

-- ---- where a chain ends

-- whether the last fragment header of a chain, if there is one, is that of a fragment; then the chain ends at it
abbrev pub ends_at_part : Option Ipv6FragmentRepr → Bool
ends_at_part None = false
ends_at_part (Some v) = is_part v

-- the end of a chain, with the header of a fragment that it ends at
abbrev pub end_of : Chain → ℕ
end_of c = c.len + (if ends_at_part c.fragment then 8 else 0)

-- ---- the same by a relation

-- The bytes begin with a header of this protocol. It is `upper` with all of the bytes, if that is no extension header, or an
-- extension header from which whole headers lead to `upper` and `message`. None of them is rejected or the header of a
-- fragment. `first` says whether the IPv6 header is directly before them.
pub data LeadsTo (upper : ℕ) (message : List ℕ) : Bool → ℕ → List ℕ → Type 0 where
  ends : (first : Bool) → is_extension upper ≡ false → LeadsTo upper message first upper message
  goes_on : (first : Bool) (protocol : ℕ) (bytes : List ℕ) → is_extension protocol ≡ true → extension_fault protocol first (length bytes) bytes ≡ None
      → ((protocol ≡ 44) → is_part (fragment.header_of (drop 2 bytes)) ≡ false)
      → LeadsTo upper message false (field bytes 0 8) (drop (extension_len protocol bytes) bytes) → LeadsTo upper message first protocol bytes

-- a chain that ends at no header of a fragment and at no rejected header
pub record IsThrough (c : Chain) : Type 0 where
  pub fault : c.fault ≡ None
  pub whole : (v : Ipv6FragmentRepr) → c.fragment ≡ Some v → is_part v ≡ false
