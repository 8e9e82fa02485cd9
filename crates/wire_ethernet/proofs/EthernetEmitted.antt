-- What the setters leave of a header, and what is read of it.
use Rattle.std.proofs.Common.{ℕ, ◌≡◌, ◌≤◌, ◌<◌, ◌^◌, List, ◌++◌, length, drop, slice_range, refl, sym, ap, arith}
use borrow.Rule.Slice.PartMut.{put_mid}
use Rattle.byteorder.specs.Endian.{big_bytes}
use Rattle.net_base.specs.Field.{field}
use Rattle.net_base.proofs.Cells.{cells-all, cells-drop}
use Rattle.wire_ethernet.specs.Ethernet.{Reads, bytes_of, normal, number_of, protocol_of}
use Rattle.wire_ethernet.specs.declared.ethernet.EthernetRepr.{EthernetRepr}

-- the three writes of `emit` leave the header, then the bytes that followed it
pub header_written : (dst src : List ℕ) (n : ℕ) (old first second third : List ℕ) (number : ℕ)
    → length dst ≡ 6 → length src ≡ 6 → 14 ≤ length old
    → first ≡ dst ++ drop 6 old → second ≡ src ++ drop 6 (slice_range first 6 12)
    → third ≡ big_bytes 2 number ++ drop 2 (slice_range (put_mid 6 6 first second) 12 14) → number ≡ n
    → put_mid 12 2 (put_mid 6 6 first second) third ≡ (dst ++ src ++ big_bytes 2 n) ++ drop 14 old
header_written dst src n old first second third number d s h one two three is =
    rw (three, two, one, is, cells-all 6 dst d, cells-all 6 src s, cells-drop 14 old h) refl

pub reads_bytes_of : (v : EthernetRepr) (rest : List ℕ) → length v.dst_addr.0 ≡ 6 → length v.src_addr.0 ≡ 6
    → number_of v.ethertype < 2 ^ 16 → Reads (bytes_of v ++ rest) (normal v)
reads_bytes_of v rest d s n =
    let e : field (bytes_of v ++ rest) 96 16 ≡ number_of v.ethertype = rw (cells-all 6 v.dst_addr.0 d, cells-all 6 v.src_addr.0 s) (omega arith) in
    record {
      whole = rw (cells-all 6 v.dst_addr.0 d, cells-all 6 v.src_addr.0 s) (omega arith);
      dst_addr = rw (cells-all 6 v.dst_addr.0 d) refl;
      src_addr = rw (cells-all 6 v.dst_addr.0 d, cells-all 6 v.src_addr.0 s) refl;
      ethertype = ap protocol_of (sym e);
    }
