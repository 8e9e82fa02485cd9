-- The headers of an IPv6 packet one by one, each by its place (RFC 8200, section 4; RFC 4302).
-- Pinned by: `worked/link`
use Rattle.std.specs.Prelude.{ℕ, ℤ, pos, negsuc, ◌+◌, ◌==◌, ◌&&◌, ◌||◌, not, nat_lt, if◌then◌else◌, List, drop, length, take}
use Rattle.ip_wire.specs.Field.{field}
use Rattle.ip_wire.specs.Ipv6.{total_len}
use Rattle.wire_extensions.specs.Extension.{extension_len, is_extension}
use Rattle.c_structs.specs.declared.types.Ipv6HeaderPlace.{Ipv6HeaderPlace}

-- the protocol of what follows an extension header; 59, "no next header", after the header of a fragment that is not the
-- first, since its payload begins in the middle of another
abbrev pub following : ℕ → List ℕ → ℕ
following protocol bytes = if (protocol == 44) && not (field bytes 16 13 == 0) then 59 else field bytes 0 8

-- the place of an extension header whose bytes begin here
abbrev pub extension_at : ℕ → ℕ → List ℕ → Ipv6HeaderPlace
extension_at at protocol bytes = record { offset = at; len = extension_len protocol bytes; protocol = protocol; next = following protocol bytes }

-- the place of the IPv6 header, which this protocol follows; its own number is 41
abbrev pub first_of : ℕ → Ipv6HeaderPlace
first_of next = record { offset = 0; len = 40; protocol = 41; next = next }

-- what a step to an extension header returns and stores, if these bytes of the packet are left
abbrev pub step_to : List ℕ → ℕ → Ipv6HeaderPlace → ℤ × Ipv6HeaderPlace
step_to rest at old =
    if nat_lt (length rest) 8 || nat_lt (length rest) (extension_len old.next rest) then (negsuc 0, old)
    else (pos 1, extension_at at old.next rest)

-- what a step to the next header of a packet returns and stores; zeros are before the IPv6 header
abbrev pub step : List ℕ → Ipv6HeaderPlace → ℤ × Ipv6HeaderPlace
step bytes old =
    if nat_lt (length bytes) 40 || not (field bytes 0 4 == 6) then (negsuc 0, old)
    else if old.len == 0 then (pos 1, first_of (field bytes 48 8))
    else if not (is_extension old.next) then (pos 0, old)
    else step_to (drop (old.offset + old.len) (take (total_len bytes) bytes)) (old.offset + old.len) old
