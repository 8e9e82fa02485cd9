-- The computed value of a header is the value that it parses as.
use Rattle.std.proofs.Common.{true, subst, ℕ, ◌≡◌, ◌↔◌, List, Some, None, codes, refl, arith}
use Rattle.std.proofs.lemmas.Bool.Decides.{nat_tests}
use Rattle.net_base.proofs.Readings.{if-Some}
use Rattle.wire_ipv6.specs.Ipv6.{Reads, header_of, ipv6_of, is_read}
use Rattle.wire_ipv6.specs.Ipv6Text.{packet_text, value_text}
use Rattle.wire_ipv6.specs.declared.ipv6.repr.Ipv6Repr.{Ipv6Repr}

-- a value that bytes parse as is the computed one
pub Reads-is : (bytes : List ℕ) (v : Ipv6Repr) → Reads bytes v → v ≡ header_of bytes
Reads-is bytes v r = rw (← r.payload_len, ← r.next_header, ← r.hop_limit, ← r.src_addr, ← r.dst_addr) refl

-- the test is true exactly if the lengths and the version are valid
is_read-Reads : (bytes : List ℕ) → is_read bytes ≡ true → Reads bytes (header_of bytes)
is_read-Reads bytes h = record {
  lengths = grind (arith, nat_tests);
  version = grind (arith, nat_tests);
  payload_len = refl;
  next_header = refl;
  hop_limit = refl;
  src_addr = refl;
  dst_addr = refl;
}

-- bytes parse as a value exactly if it is the computed one
pub ipv6_of-Reads : (bytes : List ℕ) (v : Ipv6Repr) → (ipv6_of bytes ≡ Some v) ↔ Reads bytes v
unfolding ipv6_of
ipv6_of-Reads bytes v = (
  λ e.
      let (read, is) = (if-Some (is_read bytes) (header_of bytes) v).0 e in
      subst (Reads bytes) is (is_read-Reads bytes read),
  λ r.
      let is = Reads-is bytes v r in
      let read : is_read bytes ≡ true = grind (arith, nat_tests) in
      (if-Some (is_read bytes) (header_of bytes) v).1 (read, cc),
)

-- the text of a packet, by the value that it parses as
pub packet_text-Some : (bytes : List ℕ) (v : Ipv6Repr) → ipv6_of bytes ≡ Some v → packet_text bytes ≡ value_text v
unfolding packet_text
packet_text-Some bytes v e = rw e refl

-- the text of bytes that do not parse
pub packet_text-None : (bytes : List ℕ) → ipv6_of bytes ≡ None → packet_text bytes ≡ codes "IPv6 (wire::Error)"
unfolding packet_text
packet_text-None bytes e = rw e refl
