-- What a transport checksum covers besides the packet (RFC 768; RFC 8200, section 8.1; RFC 9293, section 3.1).
-- Pinned by: `wire/checksum`, `calls/udp`, `calls/tcp`
use Rattle.std.specs.Prelude.{ℕ, ◌++◌, List, ◌∷◌, length}
use Rattle.byteorder.specs.Endian.{big_bytes}
use Rattle.wire_addr.specs.declared.ip_address.IpAddress.{IpAddress}
use Rattle.wire_addr.specs.IpAddress.{address_bytes}
use Rattle.wire_addr.specs.Protocol.{number_of}
use Rattle.wire_addr.specs.declared.ip_protocol.IpProtocol.{IpProtocol}

-- the pseudo-header: source, destination, a 16-bit word with the protocol number in its low byte, the low 16 bits of
-- the length (RFC 768; RFC 8200, section 8.1)
abbrev pub pseudo_header_bytes : List ℕ → List ℕ → IpProtocol → ℕ → List ℕ
pseudo_header_bytes src dst protocol len = src ++ dst ++ (0 ∷ number_of protocol ∷ big_bytes 2 len)

-- the bytes that a transport checksum covers: the pseudo-header, then the transport packet
-- (RFC 768; RFC 8200, section 8.1)
abbrev pub with_pseudo_header : IpAddress → IpAddress → IpProtocol → List ℕ → List ℕ
with_pseudo_header src dst protocol packet = pseudo_header_bytes (address_bytes src) (address_bytes dst) protocol (length packet) ++ packet
