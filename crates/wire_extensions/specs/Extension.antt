-- The extension headers of an IPv6 packet, one by one (RFC 8200, section 4; RFC 4302).
-- Pinned by: `worked/link`, `worked/edit`
use Rattle.std.specs.Prelude.{ℕ, ◌+◌, ◌*◌, ◌==◌, ◌||◌, if◌then◌else◌, Bool, List}
use Rattle.net_base.specs.Field.{field}

-- whether this is the number of an extension header: hop-by-hop options 0, routing 43, fragment 44, authentication 51,
-- destination options 60
abbrev pub is_extension : ℕ → Bool
is_extension protocol = (protocol == 0) || (protocol == 43) || (protocol == 44) || (protocol == 51) || (protocol == 60)

-- the length of an extension header in bytes: that of a fragment header is 8; the second byte of the others counts units
-- after the first 8 bytes, of 4 bytes in an authentication header, else of 8
abbrev pub extension_len : ℕ → List ℕ → ℕ
extension_len protocol bytes =
    if protocol == 44 then 8 else if protocol == 51 then 8 + 4 * field bytes 8 8 else 8 + 8 * field bytes 8 8
