-- The computed value of a header is the one that it is read as.
use Rattle.std.proofs.Common.{subst, ℕ, ◌≡◌, ◌↔◌, ◌==◌, Bool, true, false, List, ◌++◌, Some, None, codes, slice_range, refl, arith}
use Rattle.std.proofs.lemmas.Bool.Decides.{nat_tests}
use Rattle.net_base.proofs.Readings.{if-Some}
use Rattle.net_base.specs.Field.{field}
use Rattle.wire_ipv4.specs.Ipv4.{Reads, fragment_offset, header_of, ipv4_of, is_read}
use Rattle.wire_ipv4.specs.Ipv4Text.{addresses_text, fields_text, fragments_text, header_fields_text, lengths_text, packet_text, value_text}
use Rattle.wire_addr.specs.Protocol.{protocol_of}
use Rattle.wire_addr.specs.declared.ip_protocol.IpProtocol.{IpProtocol}
use Rattle.wire_ipv4.specs.declared.ipv4.repr.Ipv4Repr.{Ipv4Repr}

-- a value that is read is the computed one
pub Reads-is : (verified : Bool) (bytes : List ℕ) (v : Ipv4Repr) → Reads bytes verified v → v ≡ header_of bytes
Reads-is verified bytes v r = rw (← r.payload_len, ← r.hop_limit, ← r.next_header, ← r.src_addr, ← r.dst_addr) refl

-- the test says what reading asks for
is_read-Reads : (verified : Bool) (bytes : List ℕ) → is_read verified bytes ≡ true → Reads bytes verified (header_of bytes)
is_read-Reads verified bytes h = record {
  lengths = grind (arith, nat_tests);
  version = grind (arith, nat_tests);
  checksum = λ on. grind (arith, nat_tests);
  payload_len = refl;
  hop_limit = refl;
  next_header = refl;
  src_addr = refl;
  dst_addr = refl;
}

Reads-is_read : (verified : Bool) (bytes : List ℕ) (v : Ipv4Repr) → Reads bytes verified v → is_read verified bytes ≡ true
Reads-is_read verified bytes v r = grind arith

-- `ipv4_of` computes the value that `Reads` describes
pub ipv4_of-Reads : (verified : Bool) (bytes : List ℕ) (v : Ipv4Repr) → (ipv4_of verified bytes ≡ Some v) ↔ Reads bytes verified v
unfolding ipv4_of
ipv4_of-Reads verified bytes v = (
  λ e.
      let (read, is) = (if-Some (is_read verified bytes) (header_of bytes) v).0 e in
      subst (Reads bytes verified) is (is_read-Reads verified bytes read),
  λ r. let is = Reads-is verified bytes v r in (if-Some (is_read verified bytes) (header_of bytes) v).1 (Reads-is_read verified bytes v r, cc),
)

-- the text of a packet, by what it is read as without its checksum
pub packet_text-Some : (bytes : List ℕ) (v : Ipv4Repr) → ipv4_of false bytes ≡ Some v → packet_text bytes ≡ value_text v
unfolding packet_text
packet_text-Some bytes v e = rw e refl

-- the text of a packet without a valid header
pub packet_text-None : (bytes : List ℕ) → ipv4_of false bytes ≡ None → packet_text bytes ≡ codes "IPv4 (wire::Error)" ++ fields_text bytes
unfolding packet_text
packet_text-None bytes e = rw e refl

-- the fields' text from their getters' answers
pub header_fields_text_values : (bytes src dst : List ℕ) (proto : IpProtocol) (hop offset ident : ℕ) (dont more : Bool)
    → src ≡ slice_range bytes 12 16 → dst ≡ slice_range bytes 16 20 → proto ≡ protocol_of (field bytes 72 8) → hop ≡ field bytes 64 8
    → dont ≡ (field bytes 49 1 == 1) → more ≡ (field bytes 50 1 == 1) → offset ≡ fragment_offset bytes → ident ≡ field bytes 32 16
    → header_fields_text bytes ≡ addresses_text src dst proto hop ++ lengths_text bytes ++ fragments_text dont more offset ident
unfolding header_fields_text
header_fields_text_values bytes src dst proto hop offset ident dont more s d p h df mf o i = rw (s, d, p, h, df, mf, o, i) refl
