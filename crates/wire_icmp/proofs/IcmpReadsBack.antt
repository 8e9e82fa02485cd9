-- An emitted ICMP message parses as the normal form of its value. A parsed value is its own normal form.
use Rattle.std.proofs.Common.{ℕ, ◌≡◌, ◌<◌, ◌+◌, ◌-◌, ◌^◌, Bool, true, false, IsTrue, Some, List, drop, length, sum, refl, sym, ap, ◌∙◌, arith}
use Rattle.net_base.specs.Field.{with_field}
use Rattle.net_base.proofs.Cells.{cells-drop}
use Rattle.net_base.specs.Field.{field}
use Rattle.wire_checksum.proofs.Residues.{residue-complement}
use Rattle.wire_checksum.proofs.WordLists.{sum-words-append}
use Rattle.wire_checksum.specs.WordSum.{residue, words}
use Rattle.wire_addr.specs.IpAddress.{version_of}
use Rattle.wire_addr.specs.declared.ip_address.IpAddress.{IpAddress}
use Rattle.wire_icmp.proofs.IcmpSums.{AreWhole, total, total-parts}
use Rattle.wire_icmp.specs.Icmp.{Reads, Verifies, emitted, header_bytes, message_of, message_with}
use Rattle.wire_icmp.specs.declared.icmp.header.IcmpHeader.{IcmpHeader}
use Rattle.wire_icmp.specs.declared.icmp.repr.IcmpRepr.{IcmpRepr}

-- the numbers of a header fit their fields
pub record IsInRange (h : IcmpHeader) : Type 0 where
  pub msg_type : h.msg_type < 256
  pub msg_code : h.msg_code < 256
  pub word : h.word < 2 ^ 32

-- writing the checksum adds it to the sum of the header, and of what it covers
pub sum-words-header : (h : IcmpHeader) (checksum : ℕ) → checksum < 65536 → sum (words (header_bytes h checksum)) ≡ sum (words (header_bytes h 0)) + checksum
unfolding words
sum-words-header h checksum fits = omega arith

total-message_with : (h : IcmpHeader) (src dst : IpAddress) (payload : List ℕ) (checksum : ℕ) → AreWhole src dst → checksum < 65536
    → total src dst (message_with h payload checksum) ≡ total src dst (message_with h payload 0) + checksum
total-message_with h src dst payload checksum whole fits =
    omega (
      arith,
      total-parts src dst (message_with h payload checksum) whole,
      total-parts src dst (message_with h payload 0) whole,
      sum-words-append (header_bytes h checksum) payload refl,
      sum-words-append (header_bytes h 0) payload refl,
      sum-words-header h checksum fits,
    )

-- a message parses with any checksum if it is not verified
reads-message_with : (h : IcmpHeader) (src dst : IpAddress) (payload : List ℕ) (checksum : ℕ) (verified : Bool) (v : IcmpRepr) → IsInRange h
    → message_of (version_of src) h.msg_type h.msg_code h.word ≡ Some v → (IsTrue verified → Verifies src dst (message_with h payload checksum))
    → Reads (message_with h payload checksum) src dst verified v payload
reads-message_with h src dst payload checksum verified v fits is sound =
    let bytes = message_with h payload checksum in
    let first : field bytes 0 8 ≡ h.msg_type = omega (arith, fits.msg_type) in
    let second : field bytes 8 8 ≡ h.msg_code = omega (arith, fits.msg_code) in
    let third : field bytes 32 32 ≡ h.word = omega (arith, fits.word) in
    record { least = omega arith; checksum = sound; message = rw (first, second, third) is; body = refl }

-- an emitted message parses as what its header says
pub reads_emitted : (h : IcmpHeader) (src dst : IpAddress) (payload : List ℕ) (computed verified : Bool) (v : IcmpRepr) → AreWhole src dst → IsInRange h
    → message_of (version_of src) h.msg_type h.msg_code h.word ≡ Some v → (IsTrue verified → IsTrue computed)
    → Reads (emitted h payload src dst computed) src dst verified v payload
reads_emitted h src dst payload true verified v whole fits is sound =
    let zeroed = total src dst (message_with h payload 0) in
    reads-message_with h src dst payload (65535 - residue zeroed) verified v fits is
    (λ on. ap residue (total-message_with h src dst payload (65535 - residue zeroed) whole (omega arith)) ∙ residue-complement zeroed)
reads_emitted h src dst payload false verified v whole fits is sound =
    reads-message_with h src dst payload 0 verified v fits is (λ on. let no : IsTrue false = sound on in absurd (cc))

-- ---- a message whose checksum changed

-- bytes that differ only in the checksum
record IsBeside (old new : List ℕ) : Type 0 where
  long : length new ≡ length old
  first : field new 0 8 ≡ field old 0 8
  second : field new 8 8 ≡ field old 8 8
  third : field new 32 32 ≡ field old 32 32
  following : drop 8 new ≡ drop 8 old

reads-beside : (old new : List ℕ) (src dst : IpAddress) (verified checked : Bool) (v : IcmpRepr) (payload : List ℕ) → Reads old src dst verified v payload → IsBeside old new
    → (IsTrue checked → Verifies src dst new) → Reads new src dst checked v payload
reads-beside old new src dst verified checked v payload r s valid =
    record { least = omega (arith, s.long, r.least); checksum = valid; message = rw (s.first, s.second, s.third) r.message; body = r.body ∙ sym s.following }

-- the checksum is not part of the value
pub reads_checksum : (bytes : List ℕ) (x : ℕ) (src dst : IpAddress) (verified checked : Bool) (v : IcmpRepr) (payload : List ℕ) → Reads bytes src dst verified v payload
    → (IsTrue checked → Verifies src dst (with_field bytes 16 16 x)) → Reads (with_field bytes 16 16 x) src dst checked v payload
reads_checksum bytes x src dst verified checked v payload r valid =
    reads-beside bytes (with_field bytes 16 16 x) src dst verified checked v payload r
    (rw (cells-drop 8 bytes r.least) (record { long = refl; first = refl; second = refl; third = refl; following = refl }))
    valid

-- nor does it depend on whether it is verified
pub reads-verified : (bytes : List ℕ) (src dst : IpAddress) (verified checked : Bool) (v : IcmpRepr) (payload : List ℕ) → Reads bytes src dst verified v payload
    → (IsTrue checked → Verifies src dst bytes) → Reads bytes src dst checked v payload
reads-verified bytes src dst verified checked v payload r valid = record { least = r.least; checksum = valid; message = r.message; body = r.body }
