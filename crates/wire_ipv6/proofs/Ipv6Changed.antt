-- A header in which one field changed.
use Rattle.std.proofs.Common.{ℕ, ◌≡◌, inr, inl, ◌≤◌, ◌<◌, ◌+◌, List, ◌++◌, drop, length, refl, sym, ap, ◌∙◌, arith}
use Rattle.net_base.specs.Field.{field, with_field, with_range}
use Rattle.net_base.proofs.Following.{drop-with_field}
use Rattle.net_base.proofs.Cells.{cells, cells-all, cells-drop}
use Rattle.net_base.proofs.Spelled.{AreBytes}
use Rattle.net_base.proofs.Written.{field_with_field_other, length_with_field}
use Rattle.wire_addr.specs.Protocol.{protocol_of}
use Rattle.wire_ipv6.proofs.Ipv6Computed.{Reads-is}
use Rattle.wire_ipv6.specs.Ipv6.{Reads, header_of}
use Rattle.wire_ipv6.specs.declared.ipv6.repr.Ipv6Repr.{Ipv6Repr}

-- the new bytes have the same length and version, and values that f makes of the old ones
record Sets (old new : List ℕ) (f : Ipv6Repr → Ipv6Repr) : Type 0 where
  long : length new ≡ length old
  version : field new 0 4 ≡ field old 0 4
  values : header_of new ≡ f (header_of old)

-- the new bytes parse as the values that f makes of the old ones, if they hold that payload
reads-set : (old new : List ℕ) (f : Ipv6Repr → Ipv6Repr) (v : Ipv6Repr) → Reads old v → Sets old new f → 40 + (f v).payload_len ≤ length old → Reads new (f v)
reads-set old new f v r s fits =
    let is : f v ≡ header_of new = ap f (Reads-is old v r) ∙ sym s.values in
    record {
      lengths = omega (arith, fits, s.long, ap (λ (h : Ipv6Repr). h.payload_len) is);
      version = s.version ∙ r.version;
      payload_len = ap (λ (h : Ipv6Repr). h.payload_len) is;
      next_header = ap (λ (h : Ipv6Repr). h.next_header) is;
      hop_limit = ap (λ (h : Ipv6Repr). h.hop_limit) is;
      src_addr = ap (λ (h : Ipv6Repr). h.src_addr) is;
      dst_addr = ap (λ (h : Ipv6Repr). h.dst_addr) is;
    }

header_room : (bytes : List ℕ) (v : Ipv6Repr) → Reads bytes v → 40 ≤ length bytes
header_room bytes v r = omega (arith, r.lengths)

payload_room : (bytes : List ℕ) (v : Ipv6Repr) → Reads bytes v → 40 + v.payload_len ≤ length bytes
payload_room bytes v r = omega (arith, r.lengths, r.payload_len)

-- ---- writing a field changes only its value

pub reads-hop_limit : (bytes : List ℕ) (n : ℕ) (v : Ipv6Repr) → n < 256 → Reads bytes v → Reads (with_field bytes 56 8 n) (record v { hop_limit = n })
reads-hop_limit bytes n v fits r =
    reads-set bytes (with_field bytes 56 8 n) (λ h. record h { hop_limit = n }) v r
    (rw (cells-drop 40 bytes (header_room bytes v r)) (record { long = refl; version = refl; values = grind arith }))
    (payload_room bytes v r)

pub reads-next_header : (bytes : List ℕ) (n : ℕ) (v : Ipv6Repr) → n < 256 → Reads bytes v → Reads (with_field bytes 48 8 n) (record v { next_header = protocol_of n })
reads-next_header bytes n v fits r =
    let header = cells 40 bytes ++ drop 40 bytes in
    let same : field (with_field header 48 8 n) 48 8 ≡ n = omega (arith, fits) in
    reads-set bytes (with_field bytes 48 8 n) (λ h. record h { next_header = protocol_of n }) v r
    (rw (cells-drop 40 bytes (header_room bytes v r)) (record { long = refl; version = refl; values = ap (λ (m : ℕ). record (header_of header) { next_header = protocol_of m }) same }))
    (payload_room bytes v r)

-- if the bytes hold that payload
pub reads-payload_len : (bytes : List ℕ) (n : ℕ) (v : Ipv6Repr) → n < 65536 → 40 + n ≤ length bytes → Reads bytes v → Reads (with_field bytes 32 16 n) (record v { payload_len = n })
reads-payload_len bytes n v small fits r =
    reads-set bytes (with_field bytes 32 16 n) (λ h. record h { payload_len = n }) v r
    (rw (cells-drop 40 bytes (header_room bytes v r)) (record { long = refl; version = refl; values = grind arith }))
    fits

pub reads-src_addr : (bytes a : List ℕ) (v : Ipv6Repr) → length a ≡ 16 → Reads bytes v → Reads (with_range bytes 8 24 a) (record v { src_addr = a })
reads-src_addr bytes a v sixteen r =
    reads-set bytes (with_range bytes 8 24 a) (λ h. record h { src_addr = a }) v r
    (rw (cells-all 16 a sixteen, cells-drop 40 bytes (header_room bytes v r)) (record { long = refl; version = refl; values = refl }))
    (payload_room bytes v r)

pub reads-dst_addr : (bytes a : List ℕ) (v : Ipv6Repr) → length a ≡ 16 → Reads bytes v → Reads (with_range bytes 24 40 a) (record v { dst_addr = a })
reads-dst_addr bytes a v sixteen r =
    reads-set bytes (with_range bytes 24 40 a) (λ h. record h { dst_addr = a }) v r
    (rw (cells-all 16 a sixteen, cells-drop 40 bytes (header_room bytes v r)) (record { long = refl; version = refl; values = refl }))
    (payload_room bytes v r)

-- the traffic class and the flow label are in no value
pub reads-unread : (bytes : List ℕ) (first width x : ℕ) (v : Ipv6Repr) → AreBytes bytes → 0 < width → 4 ≤ first → first + width ≤ 32 → Reads bytes v → Reads (with_field bytes first width x) v
reads-unread bytes first width x v are some low high r =
    let room = header_room bytes v r in
    let other : (at size : ℕ) → 0 < size → 32 ≤ at → field (with_field bytes first width x) at size ≡ field bytes at size = λ at size some_size late.
    field_with_field_other bytes first width x at size are some some_size (omega (arith, high, room)) (inr (omega (arith, high, late))) in
    let len = other 32 16 (omega arith) (omega arith) in
    let protocol = other 48 8 (omega arith) (omega arith) in
    let hops = other 56 8 (omega arith) (omega arith) in
    let src = drop-with_field bytes first width x 8 some (omega (arith, high)) (omega (arith, room)) in
    let dst = drop-with_field bytes first width x 24 some (omega (arith, high)) (omega (arith, room)) in
    reads-set bytes (with_field bytes first width x) (λ h. h) v r (record {
      long = length_with_field bytes first width x some (omega (arith, high, room));
      version = field_with_field_other bytes first width x 0 4 are some (omega arith) (omega (arith, high, room)) (inl low);
      values = rw (len, protocol, hops, src, dst) refl;
    }) (payload_room bytes v r)
