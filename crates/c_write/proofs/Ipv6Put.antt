-- The IPv6 header of a rebuilt packet, copied from that which was read.
use Rattle.std.proofs.Common.{ℕ, ◌≡◌, ◌≤◌, ◌+◌, ◌%◌, ◌/◌, ◌++◌, List, ◌∷◌, true, arith, drop, length, refl, slice_index, slice_range}
use Rattle.ip_wire.specs.Field.{field, with_range}
use Rattle.ip_wire.specs.Ip.{bytes_of, with_payload_len}
use Rattle.ip_wire.specs.Ipv6.{header_of}
use Rattle.ip_wire.specs.Types.{Ipv6}
use Rattle.wire_addr.proofs.Protocols.{number_of-protocol_of}
use Rattle.net_base.proofs.Cells.{cells-drop}
use Rattle.net_base.proofs.Spelled.{AreBytes}

pub put-ipv6 : (bytes old : List ℕ) (n : ℕ) → AreBytes bytes → 40 ≤ length bytes → 40 ≤ length old
    → with_range (0x60 ∷ 0 ∷ 0 ∷ 0 ∷ n / 256 % 256 ∷ n % 256 ∷ slice_index bytes 6 ∷ slice_index bytes 7 ∷ drop 8 old) 8 (8 + length (slice_range bytes 8 40)) (slice_range bytes 8 40)
    ≡ bytes_of (with_payload_len (Ipv6 (header_of bytes)) n) true ++ drop 40 old
put-ipv6 bytes old n h whole room =
    let protocol : field bytes 48 8 ≡ slice_index bytes 6 = omega (arith, h 6) in
    let hops : field bytes 56 8 ≡ slice_index bytes 7 = omega (arith, h 7) in
    rw (number_of-protocol_of (field bytes 48 8), protocol, hops) (rw (cells-drop 40 bytes whole) (rw (cells-drop 40 old room) refl))
