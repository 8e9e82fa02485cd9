-- An emitted header parses as the value from which it was emitted.
use Rattle.std.proofs.Common.{ℕ, ◌≡◌, ◌≤◌, List, ◌++◌, length, refl, ap, arith}
use Rattle.net_base.specs.Field.{field}
use Rattle.net_base.proofs.Cells.{cells-all}
use Rattle.wire_addr.specs.Protocol.{number_of, protocol_of}
use Rattle.wire_ipv6.proofs.Ipv6Emitted.{IsInRange}
use Rattle.wire_ipv6.specs.Ipv6.{HasLengths, Reads, bytes_of, normal}
use Rattle.wire_ipv6.specs.declared.ipv6.repr.Ipv6Repr.{Ipv6Repr}

-- an emitted header with a payload parses as the normal form of its value
pub reads_bytes_of : (v : Ipv6Repr) (rest : List ℕ) → IsInRange v → v.payload_len ≤ length rest → Reads (bytes_of v ++ rest) (normal v)
reads_bytes_of v rest h room =
    let payload_len : field (bytes_of v ++ rest) 32 16 ≡ v.payload_len = omega (arith, h.payload_len) in
    let named : number_of v.next_header ≡ field (bytes_of v ++ rest) 48 8 = omega (arith, h.next_header) in
    let whole : HasLengths (bytes_of v ++ rest) = rw (cells-all 16 v.src_addr h.src_addr, cells-all 16 v.dst_addr h.dst_addr) (omega arith) in
    record {
      lengths = whole;
      version = refl;
      payload_len = omega (arith, payload_len);
      next_header = ap protocol_of named;
      hop_limit = omega (arith, h.hop_limit);
      src_addr = rw (cells-all 16 v.src_addr h.src_addr) refl;
      dst_addr = rw (cells-all 16 v.src_addr h.src_addr, cells-all 16 v.dst_addr h.dst_addr) refl;
    }
