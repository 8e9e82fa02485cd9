-- A packet in which a field of the header changed.
use Rattle.std.proofs.Common.{ℕ, ◌≡◌, ◌≢◌, ◌<◌, ◌-◌, Bool, IsTrue, List, drop, length, take, refl, sym, ap, ◌∙◌, arith}
use Rattle.net_base.specs.Field.{with_field}
use Rattle.net_base.proofs.Cells.{cells-drop}
use Rattle.wire_addr.specs.declared.ip_address.IpAddress.{IpAddress}
use Rattle.wire_udp.proofs.UdpComputed.{Reads-is}
use Rattle.wire_udp.specs.Udp.{HasChecksum, Reads, header_of, packet_len}
use Rattle.wire_udp.specs.declared.udp.repr.UdpRepr.{UdpRepr}

-- the new bytes have the same lengths, the same bytes after the header, and values that f makes of the old ones
record Sets (old new : List ℕ) (f : UdpRepr → UdpRepr) : Type 0 where
  long : length new ≡ length old
  len : packet_len new ≡ packet_len old
  following : drop 8 new ≡ drop 8 old
  values : header_of new ≡ f (header_of old)

-- the new bytes parse as the values that f makes of the old ones
reads-set : (old new : List ℕ) (f : UdpRepr → UdpRepr) (src dst src' dst' : IpAddress) (verified checked : Bool) (v : UdpRepr) (payload : List ℕ) → Reads old src dst verified v payload → Sets old new f
    → (IsTrue checked → HasChecksum src' dst' new) → (f v).dst_port ≢ 0 → Reads new src' dst' checked (f v) payload
reads-set old new f src dst src' dst' verified checked v payload r s valid receiver =
    let is : f v ≡ header_of new = ap f (Reads-is src dst verified old v payload r) ∙ sym s.values in
    record {
      lengths = record {
        least = omega (arith, s.long, r.lengths.least);
        header = omega (arith, s.len, r.lengths.header);
        whole = omega (arith, s.long, s.len, r.lengths.whole);
      };
      receiver = λ none. receiver (ap (λ (h : UdpRepr). h.dst_port) is ∙ none);
      checksum = valid;
      src_port = ap (λ (h : UdpRepr). h.src_port) is;
      dst_port = ap (λ (h : UdpRepr). h.dst_port) is;
      body = r.body ∙ ap (take (packet_len old - 8)) (sym s.following) ∙ ap (λ (m : ℕ). take (m - 8) (drop 8 new)) (sym s.len);
    }

receiver_read : (bytes : List ℕ) (src dst : IpAddress) (verified : Bool) (v : UdpRepr) (payload : List ℕ) → Reads bytes src dst verified v payload → v.dst_port ≢ 0
receiver_read bytes src dst verified v payload r none = r.receiver (sym r.dst_port ∙ none)

-- writing the source port changes only the source port of the value
pub reads-src_port : (bytes : List ℕ) (x : ℕ) (src dst : IpAddress) (verified checked : Bool) (v : UdpRepr) (payload : List ℕ) → x < 65536 → Reads bytes src dst verified v payload
    → (IsTrue checked → HasChecksum src dst (with_field bytes 0 16 x)) → Reads (with_field bytes 0 16 x) src dst checked (record v { src_port = x }) payload
reads-src_port bytes x src dst verified checked v payload fits r valid =
    reads-set bytes (with_field bytes 0 16 x) (λ h. record h { src_port = x }) src dst src dst verified checked v payload r
    (rw (cells-drop 8 bytes r.lengths.least) (record { long = refl; len = refl; following = refl; values = grind arith }))
    valid (receiver_read bytes src dst verified v payload r)

-- writing the destination port changes only the destination port of the value
pub reads-dst_port : (bytes : List ℕ) (x : ℕ) (src dst : IpAddress) (verified checked : Bool) (v : UdpRepr) (payload : List ℕ) → x < 65536 → x ≢ 0 → Reads bytes src dst verified v payload
    → (IsTrue checked → HasChecksum src dst (with_field bytes 16 16 x)) → Reads (with_field bytes 16 16 x) src dst checked (record v { dst_port = x }) payload
reads-dst_port bytes x src dst verified checked v payload fits some r valid =
    reads-set bytes (with_field bytes 16 16 x) (λ h. record h { dst_port = x }) src dst src dst verified checked v payload r
    (rw (cells-drop 8 bytes r.lengths.least) (record { long = refl; len = refl; following = refl; values = grind arith }))
    valid some

-- the checksum is not part of the value, and nothing else depends on the addresses
pub reads_checksum : (bytes : List ℕ) (x : ℕ) (src dst src' dst' : IpAddress) (verified checked : Bool) (v : UdpRepr) (payload : List ℕ) → Reads bytes src dst verified v payload
    → (IsTrue checked → HasChecksum src' dst' (with_field bytes 48 16 x)) → Reads (with_field bytes 48 16 x) src' dst' checked v payload
reads_checksum bytes x src dst src' dst' verified checked v payload r valid =
    reads-set bytes (with_field bytes 48 16 x) (λ h. h) src dst src' dst' verified checked v payload r
    (rw (cells-drop 8 bytes r.lengths.least) (record { long = refl; len = refl; following = refl; values = refl }))
    valid (receiver_read bytes src dst verified v payload r)

-- the same bytes with other addresses, or with a valid checksum verified
pub reads-verified : (bytes : List ℕ) (src dst src' dst' : IpAddress) (verified checked : Bool) (v : UdpRepr) (payload : List ℕ) → Reads bytes src dst verified v payload
    → (IsTrue checked → HasChecksum src' dst' bytes) → Reads bytes src' dst' checked v payload
reads-verified bytes src dst src' dst' verified checked v payload r valid =
    reads-set bytes bytes (λ h. h) src dst src' dst' verified checked v payload r (record { long = refl; len = refl; following = refl; values = refl }) valid (receiver_read bytes src dst verified v payload r)
