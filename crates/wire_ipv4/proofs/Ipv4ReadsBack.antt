-- A header that was written is read as what it was written from.
use Rattle.std.proofs.Common.{ℕ, ◌≡◌, ◌≤◌, ◌<◌, ◌+◌, ◌-◌, Bool, true, false, IsTrue, List, ◌++◌, length, take, sum, refl, ap, ◌∙◌, arith}
use Rattle.net_base.specs.Field.{field}
use Rattle.net_base.proofs.Cells.{cells-all}
use Rattle.wire_checksum.proofs.Residues.{residue-complement}
use Rattle.wire_ipv4.specs.Ipv4.{Reads, bytes_of, header_with, normal, total_len}
use Rattle.wire_addr.specs.Protocol.{number_of, protocol_of}
use Rattle.wire_checksum.specs.WordSum.{residue, sum_of_bytes, words}
use Rattle.wire_ipv4.specs.declared.ipv4.repr.Ipv4Repr.{Ipv4Repr}

-- the value has a header: its numbers fit their fields, and an address has four bytes
pub record IsInRange (v : Ipv4Repr) : Type 0 where
  pub src_addr : length v.src_addr ≡ 4
  pub dst_addr : length v.dst_addr ≡ 4
  pub next_header : number_of v.next_header < 256
  pub payload_len : v.payload_len ≤ 65515
  pub hop_limit : v.hop_limit < 256

-- a checksum adds itself to the header's words
words-header_with : (v : Ipv4Repr) (checksum : ℕ) → length v.src_addr ≡ 4 → length v.dst_addr ≡ 4 → checksum < 65536
    → sum (words (header_with v checksum)) ≡ sum (words (header_with v 0)) + checksum
unfolding words
words-header_with v checksum s d h = rw (cells-all 4 v.src_addr s, cells-all 4 v.dst_addr d) (omega arith)

-- the header verifies
header_verifies : (v : Ipv4Repr) → length v.src_addr ≡ 4 → length v.dst_addr ≡ 4 → sum_of_bytes (bytes_of v true) ≡ 65535
header_verifies v s d =
    ap residue (words-header_with v (65535 - sum_of_bytes (header_with v 0)) s d (omega arith)) ∙ residue-complement (sum (words (header_with v 0)))

-- a header is twenty bytes long
take-header : (v : Ipv4Repr) (rest : List ℕ) (checksum : ℕ) → length v.src_addr ≡ 4 → length v.dst_addr ≡ 4
    → take 20 (header_with v checksum ++ rest) ≡ header_with v checksum
take-header v rest checksum s d = rw (cells-all 4 v.src_addr s, cells-all 4 v.dst_addr d) refl

-- a header with any checksum is read
reads-header_with : (v : Ipv4Repr) (rest : List ℕ) (checksum : ℕ) (verified : Bool) → IsInRange v → v.payload_len ≤ length rest
    → (IsTrue verified → sum_of_bytes (header_with v checksum) ≡ 65535) → Reads (header_with v checksum ++ rest) verified (normal v)
reads-header_with v rest checksum verified h room sound =
    let long : length (header_with v checksum ++ rest) ≡ 20 + length rest = rw (cells-all 4 v.src_addr h.src_addr, cells-all 4 v.dst_addr h.dst_addr) (omega arith) in
    let total : total_len (header_with v checksum ++ rest) ≡ 20 + v.payload_len = omega (arith, h.payload_len) in
    let named : number_of v.next_header ≡ field (header_with v checksum ++ rest) 72 8 = omega (arith, h.next_header) in
    record {
      lengths = record { least = omega arith; header = omega arith; within = omega arith; whole = omega arith };
      version = refl;
      checksum = λ on. ap sum_of_bytes (take-header v rest checksum h.src_addr h.dst_addr) ∙ sound on;
      payload_len = omega (arith, total);
      hop_limit = omega (arith, h.hop_limit);
      next_header = ap protocol_of named;
      src_addr = rw (cells-all 4 v.src_addr h.src_addr) refl;
      dst_addr = rw (cells-all 4 v.src_addr h.src_addr, cells-all 4 v.dst_addr h.dst_addr) refl;
    }

-- a header that was emitted is read as the canonical form of its value
pub reads_bytes_of : (v : Ipv4Repr) (rest : List ℕ) (computed verified : Bool) → IsInRange v → v.payload_len ≤ length rest
    → (IsTrue verified → IsTrue computed) → Reads (bytes_of v computed ++ rest) verified (normal v)
reads_bytes_of v rest true verified h room sound =
    reads-header_with v rest (65535 - sum_of_bytes (header_with v 0)) verified h room (λ on. header_verifies v h.src_addr h.dst_addr)
reads_bytes_of v rest false verified h room sound = reads-header_with v rest 0 verified h room (λ on. let no : IsTrue false = sound on in cc)
