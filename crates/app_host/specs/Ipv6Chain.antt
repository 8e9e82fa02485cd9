-- The headers after an IPv6 header: extension headers, and then that of the upper-layer protocol (RFC 8200, section 4).
-- Pinned by: `worked/icmp`, `Ipv6ChainsWorked`
use Rattle.std.specs.Prelude.{ℕ, zero, suc, ◌≡◌, ◌≤◌, ◌+◌, ◌*◌, ◌==◌, ◌&&◌, ◌||◌, not, nat_le, if◌then◌else◌, Bool, true, false, List, [], drop, length, slice_index}
use Rattle.ip_wire.specs.Ipv6Fragment.{frag_offset_of}

-- whether the number names an extension header of IPv6 (RFC 7045, section 4), but not the encapsulating security payload
-- (50), whose payload is encrypted, nor the numbers for experiments (253 and 254)
abbrev pub is_extension_header : ℕ → Bool
is_extension_header n = n == 0 || n == 43 || n == 44 || n == 51 || n == 60 || n == 135 || n == 139 || n == 140

-- The length of an extension header in bytes. A fragment header (44) has 8 bytes (RFC 8200, section 4.5). The second byte of
-- an authentication header (51) counts units of 4 bytes after the first two (RFC 4302, section 2.2), that of the others
-- units of 8 bytes after the first (RFC 8200, section 4.8).
abbrev pub extension_len : ℕ → List ℕ → ℕ
extension_len n bytes = if n == 44 then 8 else if n == 51 then 4 * (slice_index bytes 1 + 2) else 8 * (slice_index bytes 1 + 1)

-- whether an extension header is that of a fragment other than the first
abbrev pub is_later_fragment : ℕ → List ℕ → Bool
is_later_fragment n bytes = (n == 44) && not (frag_offset_of (drop 2 bytes) == 0)

-- The bytes of the next header: those after this extension header. A later fragment has none, since it continues in the
-- middle of the packet.
abbrev pub following : ℕ → List ℕ → List ℕ
following n bytes = if is_later_fragment n bytes then [] else drop (extension_len n bytes) bytes

-- The header with this number, at the front of these bytes, is that of the upper-layer protocol, or an extension header
-- from which whole headers lead to it. `message` has the bytes from its header on.
pub data LeadsTo (protocol : ℕ) (message : List ℕ) : ℕ → List ℕ → Type 0 where
  ends : is_extension_header protocol ≡ false → LeadsTo protocol message protocol message
  goes_on : (n : ℕ) (bytes : List ℕ) → is_extension_header n ≡ true → extension_len n bytes ≤ length bytes
      → LeadsTo protocol message (slice_index bytes 0) (following n bytes) → LeadsTo protocol message n bytes

-- no headers lead from this one to an upper-layer protocol: an extension header is cut
abbrev pub LeadsNowhere : ℕ → List ℕ → Type 0
LeadsNowhere n bytes = (protocol : ℕ) (message : List ℕ) → ¬ LeadsTo protocol message n bytes

-- ---- whether all headers are there

-- The length of the header of an upper-layer protocol without options: TCP (6) has 20 bytes (RFC 9293, section 3.1), UDP
-- (17) 8 (RFC 768), and ICMPv6 (58) 4 before its body (RFC 4443, section 2.1). "No next header" (59) has none. Of any other
-- protocol one byte is asked for.
abbrev pub least_len : ℕ → ℕ
least_len protocol = if protocol == 6 then 20 else if protocol == 17 then 8 else if protocol == 58 then 4 else if protocol == 59 then 0 else 1

-- Whether these bytes have all headers from the one with this number through that of the upper-layer protocol (RFC 8200,
-- section 4.5; RFC 7112, section 3), of at most n headers.
abbrev pub has_headers : ℕ → ℕ → List ℕ → Bool
has_headers zero number bytes = false
has_headers (suc n) number bytes =
    if is_extension_header number then nat_le (extension_len number bytes) (length bytes) && has_headers n (slice_index bytes 0) (following number bytes)
    else nat_le (least_len number) (length bytes)
