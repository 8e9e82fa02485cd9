-- A header whose protocol is a number.
use Rattle.std.proofs.Common.{ℕ, ◌≡◌, ◌≤◌, refl, true}
use Rattle.ip_wire.specs.Ip.{bytes_of, header_before, max_payload_len, next_header_of, payload_len_of, with_payload_len}
use Rattle.ip_wire.specs.Protocol.{protocol_of}
use Rattle.wire_addr.proofs.Protocols.{number_of-protocol_of}
use Rattle.ip_wire.specs.declared.IpProtocol.TheVariants.{Unknown}
use Rattle.ip_wire.specs.Types.{IpRepr, Ipv4, Ipv6}

-- a header with the number of its protocol is written as the header with its name
pub bytes_of-number : (v : IpRepr) (n len : ℕ) → next_header_of v ≡ protocol_of n
    → bytes_of (header_before v (Unknown n) len) true ≡ bytes_of (with_payload_len v len) true
bytes_of-number (Ipv4 v) n len is = rw (is, number_of-protocol_of n) refl
bytes_of-number (Ipv6 v) n len is = rw (is, number_of-protocol_of n) refl

-- it can express the same payload lengths
pub fits-number : (v : IpRepr) (n len : ℕ) → payload_len_of (with_payload_len v len) ≤ max_payload_len (with_payload_len v len)
    → payload_len_of (header_before v (Unknown n) len) ≤ max_payload_len (header_before v (Unknown n) len)
fits-number (Ipv4 v) n len fits = fits
fits-number (Ipv6 v) n len fits = fits
