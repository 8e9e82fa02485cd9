-- What an edit writes before the addresses.
use Rattle.std.proofs.Common.{ℕ, ◌≡◌, ◌∙◌, ◌+◌, ◌<◌, ◌≤◌, List, ap, arith, inl, inr, length, refl, slice_index, sym}
use Rattle.std.proofs.lemmas.Bool.{cases_eq, cases_lt}
use Rattle.std.proofs.lemmas.List.{ext_get_or}
use Rattle.byteorder.specs.Endian.{big_bytes}
use Rattle.ip_wire.proofs.Spelled.{AreBytes}
use Rattle.ip_wire.specs.Types.{IpVersion}
use Rattle.ip_wire.specs.declared.IpVersion.TheVariants as version
use Rattle.app_edit.proofs.OtherBytes.{front-beside, transport-kept, word-byte}
use Rattle.app_edit.proofs.Stays.{addresses-order, header-length, least-end}
use Rattle.app_edit.proofs.Totals.{index-outside, written-length}
use Rattle.app_edit.specs.Edited.{edited, header_checksum, transport_checksum, with_header_checksum, with_transport_checksum, with_word, word_at, written}
use Rattle.app_edit.specs.Places.{Holds, HoldsCarried, addresses_end, addresses_start, checksum_place}
use Rattle.app_edit.specs.declared.places.Carried.{Carried}
use Rattle.app_edit.specs.declared.places.Carried.TheVariants as carried
use Rattle.app_edit.specs.declared.places.Places.{Places}
use Rattle.app_edit.specs.declared.replace.Offload.TheVariants as offload

-- ---- a word that is written over itself

-- the two bytes of a word are those of another frame
same-word : (zs xs : List ℕ) (c i : ℕ) → slice_index zs c ≡ slice_index xs c → slice_index zs (c + 1) ≡ slice_index xs (c + 1) → c ≤ i → i < c + 2
    → slice_index zs i ≡ slice_index xs i
same-word zs xs c i high low from to = elim (cases_eq i c) [
  | inl here ↦ ap (slice_index zs) here ∙ high ∙ sym (ap (slice_index xs) here)
  | inr next ↦ let is : i ≡ c + 1 = omega (arith, from, to, next) in ap (slice_index zs) is ∙ low ∙ sym (ap (slice_index xs) is)
]

pub word-itself : (zs xs : List ℕ) (c : ℕ) → AreBytes xs → c + 2 ≤ length zs → slice_index zs c ≡ slice_index xs c → slice_index zs (c + 1) ≡ slice_index xs (c + 1)
    → with_word zs c (word_at xs c) ≡ zs
word-itself zs xs c are room high low = ext_get_or 0 (with_word zs c (word_at xs c)) zs (written-length zs (big_bytes 2 (word_at xs c)) c room) (λ i inside. by-place i)
  where
    by-place : (i : ℕ) → slice_index (with_word zs c (word_at xs c)) i ≡ slice_index zs i
    by-place i = elim (cases_lt i c) [
      | inl before ↦ index-outside zs (big_bytes 2 (word_at xs c)) c i room (inl before)
      | inr from ↦ elim (cases_lt i (c + 2)) [
        | inl to ↦ word-byte zs xs c i are room from to ∙ sym (same-word zs xs c i high low from to)
        | inr after ↦ index-outside zs (big_bytes 2 (word_at xs c)) c i room (inr after)
      ]
    ]

-- ---- bytes before the addresses

-- a byte after the addresses
header-kept : (v : IpVersion) (ys : List ℕ) (n i : ℕ) → 26 ≤ length ys → 26 ≤ i → slice_index (with_header_checksum v ys n) i ≡ slice_index ys i
header-kept version.Ipv4 ys n i room after = index-outside ys (big_bytes 2 n) 24 i room (inr after)
header-kept version.Ipv6 ys n i room after = refl

-- only the checksum of the header is updated
pub before-addresses : (p : Places) (xs bytes : List ℕ) (at : ℕ) → Holds p xs → AreBytes xs → at + length bytes ≤ addresses_start p.version
    → with_header_checksum p.version (written xs at bytes) (header_checksum p.version p.start xs at bytes) ≡ edited offload.Complete p xs at bytes
before-addresses p xs bytes at h are before = sym (by-carried p.carried h.carried)
  where
    least : 34 ≤ addresses_end p.version
    least = least-end p.version

    order : addresses_start p.version ≤ addresses_end p.version
    order = addresses-order p.version

    room : at + length bytes ≤ length xs
    room = omega (arith, before, order, h.header, h.inside, h.whole)

    long : length (written xs at bytes) ≡ length xs
    long = written-length xs bytes at room

    fits : 26 ≤ length (written xs at bytes)
    fits = omega (arith, long, least, h.header, h.inside, h.whole)

    n : ℕ
    n = header_checksum p.version p.start xs at bytes

    zs : List ℕ
    zs = with_header_checksum p.version (written xs at bytes) n

    byte : (i : ℕ) → addresses_end p.version ≤ i → slice_index zs i ≡ slice_index xs i
    byte i after = header-kept p.version (written xs at bytes) n i fits (omega (arith, least, after)) ∙ index-outside xs bytes at i room (inr (omega (arith, before, order, after)))

    by-carried : (k : Carried) → HoldsCarried k p.version p.start xs → with_transport_checksum k zs (transport_checksum offload.Complete k p.version xs at bytes) ≡ zs
    by-carried (carried.Segment s) held =
        let c = checksum_place s in
        ap (λ f. with_word zs c f) (transport-kept offload.Complete p.version s xs bytes at are (front-beside (carried.Segment s) p.version xs p.start at (length bytes) held before))
        ∙ word-itself zs xs c are (omega (arith, header-length p.version (written xs at bytes) n fits, long, held.0.least, held.0.inside))
        (byte c (omega (arith, held.0.starts))) (byte (c + 1) (omega (arith, held.0.starts)))
    by-carried k held = refl
