-- A header in which one field changed.
use Rattle.std.proofs.Common.{ℕ, ◌≡◌, ◌≤◌, ◌<◌, ◌+◌, ◌*◌, ◌⊎◌, inl, inr, Bool, false, IsTrue, List, ◌++◌, drop, length, refl, sym, ap, ◌∙◌, arith}
use Rattle.net_base.specs.Field.{IsApart, field, with_field, with_range}
use Rattle.net_base.proofs.Following.{drop-with_field}
use Rattle.net_base.proofs.Cells.{cells, cells-all, cells-drop}
use Rattle.net_base.proofs.Spelled.{AreBytes}
use Rattle.net_base.proofs.Written.{field_with_field_other, length_with_field}
use Rattle.wire_ipv4.proofs.Ipv4Computed.{Reads-is}
use Rattle.wire_ipv4.specs.Ipv4.{HasChecksum, Reads, header_len, header_of, total_len}
use Rattle.wire_addr.specs.Protocol.{protocol_of}
use Rattle.wire_ipv4.specs.declared.ipv4.repr.Ipv4Repr.{Ipv4Repr}

-- the new bytes have the same version and lengths, and values that f makes of the old ones
pub record Sets (old new : List ℕ) (f : Ipv4Repr → Ipv4Repr) : Type 0 where
  pub long : length new ≡ length old
  pub version : field new 0 4 ≡ field old 0 4
  pub header : header_len new ≡ header_len old
  pub total : total_len new ≡ total_len old
  pub values : header_of new ≡ f (header_of old)

-- the new bytes are read as the values that f makes of the old ones
reads-set : (old new : List ℕ) (f : Ipv4Repr → Ipv4Repr) (verified checked : Bool) (v : Ipv4Repr) → Reads old verified v → Sets old new f → (IsTrue checked → HasChecksum new) → Reads new checked (f v)
reads-set old new f verified checked v r s valid =
    let is : f v ≡ header_of new = ap f (Reads-is verified old v r) ∙ sym s.values in
    record {
      lengths = record {
        least = omega (arith, s.long, r.lengths.least);
        header = omega (arith, s.header, r.lengths.header);
        within = omega (arith, s.header, s.total, r.lengths.within);
        whole = omega (arith, s.long, s.total, r.lengths.whole);
      };
      version = s.version ∙ r.version;
      checksum = valid;
      payload_len = ap (λ (h : Ipv4Repr). h.payload_len) is;
      hop_limit = ap (λ (h : Ipv4Repr). h.hop_limit) is;
      next_header = ap (λ (h : Ipv4Repr). h.next_header) is;
      src_addr = ap (λ (h : Ipv4Repr). h.src_addr) is;
      dst_addr = ap (λ (h : Ipv4Repr). h.dst_addr) is;
    }

-- ---- each value: what a write of its field leaves, and what the header is read as then

pub sets-hop_limit : (bytes : List ℕ) (n : ℕ) → 20 ≤ length bytes → n < 256 → Sets bytes (with_field bytes 64 8 n) (λ h. record h { hop_limit = n })
sets-hop_limit bytes n room fits = grind arith

pub reads-hop_limit : (bytes : List ℕ) (n : ℕ) (verified checked : Bool) (v : Ipv4Repr) → n < 256 → Reads bytes verified v
    → (IsTrue checked → HasChecksum (with_field bytes 64 8 n)) → Reads (with_field bytes 64 8 n) checked (record v { hop_limit = n })
reads-hop_limit bytes n verified checked v fits r h = grind arith

pub reads-next_header : (bytes : List ℕ) (n : ℕ) (verified checked : Bool) (v : Ipv4Repr) → n < 256 → Reads bytes verified v
    → (IsTrue checked → HasChecksum (with_field bytes 72 8 n)) → Reads (with_field bytes 72 8 n) checked (record v { next_header = protocol_of n })
reads-next_header bytes n verified checked v fits r =
    let header = cells 20 bytes ++ drop 20 bytes in
    let same : field (with_field header 72 8 n) 72 8 ≡ n = omega (arith, fits) in
    reads-set bytes (with_field bytes 72 8 n) (λ h. record h { next_header = protocol_of n }) verified checked v r
    (rw (cells-drop 20 bytes r.lengths.least) (record { long = refl; version = refl; header = refl; total = refl; values = ap (λ (m : ℕ). record (header_of header) { next_header = protocol_of m }) same }))

pub sets-src_addr : (bytes a : List ℕ) → 20 ≤ length bytes → length a ≡ 4 → Sets bytes (with_range bytes 12 16 a) (λ h. record h { src_addr = a })
sets-src_addr bytes a room four =
    rw (cells-all 4 a four, cells-drop 20 bytes room) (record { long = refl; version = refl; header = refl; total = refl; values = refl })

pub reads-src_addr : (bytes a : List ℕ) (verified checked : Bool) (v : Ipv4Repr) → length a ≡ 4 → Reads bytes verified v
    → (IsTrue checked → HasChecksum (with_range bytes 12 16 a)) → Reads (with_range bytes 12 16 a) checked (record v { src_addr = a })
reads-src_addr bytes a verified checked v four r =
    reads-set bytes (with_range bytes 12 16 a) (λ h. record h { src_addr = a }) verified checked v r (sets-src_addr bytes a r.lengths.least four)

pub sets-dst_addr : (bytes a : List ℕ) → 20 ≤ length bytes → length a ≡ 4 → Sets bytes (with_range bytes 16 20 a) (λ h. record h { dst_addr = a })
sets-dst_addr bytes a room four =
    rw (cells-all 4 a four, cells-drop 20 bytes room) (record { long = refl; version = refl; header = refl; total = refl; values = refl })

pub reads-dst_addr : (bytes a : List ℕ) (verified checked : Bool) (v : Ipv4Repr) → length a ≡ 4 → Reads bytes verified v
    → (IsTrue checked → HasChecksum (with_range bytes 16 20 a)) → Reads (with_range bytes 16 20 a) checked (record v { dst_addr = a })
reads-dst_addr bytes a verified checked v four r =
    reads-set bytes (with_range bytes 16 20 a) (λ h. record h { dst_addr = a }) verified checked v r (sets-dst_addr bytes a r.lengths.least four)

-- ---- what is no value

-- the checksum
pub sets-checksum : (bytes : List ℕ) (x : ℕ) → 12 ≤ length bytes → Sets bytes (with_field bytes 80 16 x) (λ h. h)
sets-checksum bytes x room = grind arith

pub reads_checksum : (bytes : List ℕ) (x : ℕ) (verified checked : Bool) (v : Ipv4Repr) → Reads bytes verified v
    → (IsTrue checked → HasChecksum (with_field bytes 80 16 x)) → Reads (with_field bytes 80 16 x) checked v
reads_checksum bytes x verified checked v r = reads-set bytes (with_field bytes 80 16 x) (λ h. h) verified checked v r (sets-checksum bytes x (omega (arith, r.lengths.least)))

-- the same of bytes in which it was written
pub reads-summed : (bytes new : List ℕ) (x : ℕ) (verified checked : Bool) (v : Ipv4Repr) → new ≡ with_field bytes 80 16 x → Reads bytes verified v → (IsTrue checked → HasChecksum new) → Reads new checked v
reads-summed bytes new x verified checked v is r valid = grind arith

-- a valid checksum may be verified
pub reads-verified : (bytes : List ℕ) (verified checked : Bool) (v : Ipv4Repr) → Reads bytes verified v → (IsTrue checked → HasChecksum bytes) → Reads bytes checked v
reads-verified bytes verified checked v r = reads-set bytes bytes (λ h. h) verified checked v r (record { long = refl; version = refl; header = refl; total = refl; values = refl })

-- a field between the header length and the total length, or between the total length and the hop limit
pub sets-no_value : (bytes : List ℕ) (first width x : ℕ) → AreBytes bytes → 0 < width
    → ((8 ≤ first) × (first + width ≤ 16)) ⊎ ((32 ≤ first) × (first + width ≤ 64)) → 20 ≤ length bytes → Sets bytes (with_field bytes first width x) (λ h. h)
sets-no_value bytes first width x are some place room =
    let inside : first + width ≤ 64 = grind arith in
    let early : 8 ≤ first = grind arith in
    let between : IsApart first width 16 16 = grind arith in
    let other : (at size : ℕ) → 0 < size → IsApart first width at size → field (with_field bytes first width x) at size ≡ field bytes at size = λ at size some_size.
    field_with_field_other bytes first width x at size are some some_size (omega (arith, inside, room)) in
    let header = other 4 4 (omega arith) (inl (omega (arith, early))) in
    let total = other 16 16 (omega arith) between in
    let protocol = other 72 8 (omega arith) (inr (omega (arith, inside))) in
    let hops = other 64 8 (omega arith) (inr inside) in
    let src = drop-with_field bytes first width x 12 some (omega (arith, inside)) (omega (arith, room)) in
    let dst = drop-with_field bytes first width x 16 some (omega (arith, inside)) (omega (arith, room)) in
    record {
      long = length_with_field bytes first width x some (omega (arith, inside, room));
      version = other 0 4 (omega arith) (inl (omega (arith, early)));
      header = ap (λ (n : ℕ). 4 * n) header;
      total = total;
      values = rw (header, total, protocol, hops, src, dst) refl;
    }

pub reads-no_value : (bytes : List ℕ) (first width x : ℕ) (verified : Bool) (v : Ipv4Repr) → AreBytes bytes → 0 < width
    → ((8 ≤ first) × (first + width ≤ 16)) ⊎ ((32 ≤ first) × (first + width ≤ 64)) → Reads bytes verified v → Reads (with_field bytes first width x) false v
reads-no_value bytes first width x verified v are some place r =
    reads-set bytes (with_field bytes first width x) (λ h. h) verified false v r (sets-no_value bytes first width x are some place r.lengths.least) (λ no. cc)
