-- Packets of both versions: where their headers and payloads are.
use Rattle.std.proofs.Common.{ℕ, ◌≡◌, ◌≤◌, ◌+◌, ◌%◌, inl, inr, Bool, true, false, cond, eqb, List, ◌++◌, length, take, slice_range, refl, sym, ap, subst, ◌∙◌, arith}
use Rattle.std.proofs.lemmas.List.{length-take-le}
use Rattle.ip_wire.proofs.Cells.{cells-drop}
use Rattle.ip_wire.specs.Field.{field}
use Rattle.ip_wire.specs.Ipv4.{header_len, ip_version_of, total_len}
use Rattle.ip_wire.specs.Ipv6 as ipv6
use Rattle.app_fragment.proofs.Headers.{header-parts}
use Rattle.app_fragment.proofs.Pieces.{length-part}
use Rattle.app_fragment.specs.Ipv4Fragments.{IsIpv4}
use Rattle.app_fragment.specs.Ipv4Fragments as v4
use Rattle.app_fragment.specs.Parts.{IsIpv6, IsValid, by_version, counted_len, fragment_of, header_of, ipv6_fragment, packet_len, part_header_len, whole_header_len}

pub four : {A : Type 0} (bytes : List ℕ) (a b : A) → ip_version_of bytes ≡ 4 → by_version bytes a b ≡ a
four bytes a b e = ap (λ v. cond (eqb v 6) b a) e

pub six : {A : Type 0} (bytes : List ℕ) (a b : A) → ip_version_of bytes ≡ 6 → by_version bytes a b ≡ b
six bytes a b e = ap (λ v. cond (eqb v 6) b a) e

pub low : (bytes : List ℕ) → part_header_len bytes ≤ 60
low bytes = by (eqb (ip_version_of bytes) 6)
  where
    by : (b : Bool) → cond b 48 (header_len bytes) ≤ 60
    by true = omega arith
    by false = omega arith

-- ---- a valid packet

-- where the header and the payload of a packet are
pub record IsLaid (p : List ℕ) : Type 0 where
  pub least : 20 ≤ length p
  pub start : 20 ≤ part_header_len p
  pub within : part_header_len p ≤ packet_len p
  pub whole : packet_len p ≤ length p
  pub bytes : (fragment_of p).bytes ≡ slice_range p (part_header_len p) (packet_len p)
  pub small : counted_len p + length (fragment_of p).bytes ≤ 65535
  pub total : part_header_len p + length (fragment_of p).bytes ≡ packet_len p

laid-four : (p : List ℕ) → IsIpv4 p → IsLaid p
laid-four p v =
    let start : part_header_len p ≡ header_len p = four p _ _ v.version in
    let counted : counted_len p ≡ header_len p = four p _ _ v.version in
    let total : packet_len p ≡ total_len p = four p _ _ v.version in
    let bytes : (fragment_of p).bytes ≡ slice_range p (header_len p) (total_len p) = ap (λ f. f.bytes) (four p (v4.fragment_of p) (ipv6_fragment p) v.version) in
    let long = ap length bytes ∙ length-part p (header_len p) (total_len p) v.lengths.whole in
    record {
      least = v.lengths.least;
      start = omega (arith, start, v.lengths.header);
      within = omega (arith, start, total, v.lengths.within);
      whole = omega (arith, total, v.lengths.whole);
      bytes = bytes ∙ λ i. slice_range p (sym start i) (sym total i);
      small = omega (arith, counted, long, v.lengths.within);
      total = omega (arith, start, total, long, v.lengths.within);
    }

laid-six : (p : List ℕ) → IsIpv6 p → IsLaid p
laid-six p v =
    let start : part_header_len p ≡ 48 = six p _ _ v.version in
    let counted : counted_len p ≡ 0 = six p _ _ v.version in
    let total : packet_len p ≡ ipv6.total_len p = six p _ _ v.version in
    let bytes : (fragment_of p).bytes ≡ slice_range p 48 (ipv6.total_len p) = ap (λ f. f.bytes) (six p (v4.fragment_of p) (ipv6_fragment p) v.version) in
    let long = ap length bytes ∙ length-part p 48 (ipv6.total_len p) v.lengths in
    record {
      least = omega (arith, v.lengths);
      start = omega (arith, start);
      within = omega (arith, start, total, v.whole);
      whole = omega (arith, total, v.lengths);
      bytes = bytes ∙ λ i. slice_range p (sym start i) (sym total i);
      small = omega (arith, counted, long);
      total = omega (arith, start, total, long, v.whole);
    }

pub laid : (p : List ℕ) → IsValid p → IsLaid p
laid p (inl v) = laid-four p v
laid p (inr v) = laid-six p v

-- ---- bytes that begin with the same header

-- the first fields of both are the same
pub record IsAlike (a b : List ℕ) : Type 0 where
  pub version : ip_version_of a ≡ ip_version_of b
  pub header : header_len a ≡ header_len b
  pub total : total_len a ≡ total_len b
  pub payload : ipv6.payload_len_of a ≡ ipv6.payload_len_of b

pub alike-front : (bytes rest : List ℕ) → 20 ≤ length bytes → IsAlike (take 20 bytes ++ rest) bytes
alike-front bytes rest room = rw (cells-drop 20 bytes room) (record { version = refl; header = refl; total = refl; payload = refl })

pub alike-take : (bytes : List ℕ) (n : ℕ) → 20 ≤ n → 20 ≤ length bytes → IsAlike (take n bytes) bytes
alike-take bytes n least room = subst (λ b. IsAlike b bytes) (sym (header-parts bytes n least)) (alike-front bytes (slice_range bytes 20 n) room)

-- what follows of the lengths
pub record HasLens (a b : List ℕ) : Type 0 where
  pub version : ip_version_of a ≡ ip_version_of b
  pub start : part_header_len a ≡ part_header_len b
  pub whole : whole_header_len a ≡ whole_header_len b
  pub counted : counted_len a ≡ counted_len b
  pub total : packet_len a ≡ packet_len b

pub lens : (a b : List ℕ) → IsAlike a b → HasLens a b
lens a b s = record {
  version = s.version;
  start = λ i. cond (eqb (s.version i) 6) 48 (s.header i);
  whole = λ i. cond (eqb (s.version i) 6) 40 (s.header i);
  counted = λ i. cond (eqb (s.version i) 6) 0 (s.header i);
  total = λ i. cond (eqb (s.version i) 6) (40 + s.payload i) (s.total i);
}

pub lens-by : (a b c : List ℕ) → HasLens a b → HasLens a c → HasLens b c
lens-by a b c f g = record {
  version = sym f.version ∙ g.version;
  start = sym f.start ∙ g.start;
  whole = sym f.whole ∙ g.whole;
  counted = sym f.counted ∙ g.counted;
  total = sym f.total ∙ g.total;
}

-- the header that is stored of a packet has its lengths
pub stored-lens : (header p : List ℕ) → length header ≡ 60 → IsLaid p → take (part_header_len header) header ≡ header_of p → HasLens header p
stored-lens header p long is same =
    let a = length-take-le (part_header_len header) header (omega (arith, low header, long)) in
    let b = length-take-le (part_header_len p) p (omega (arith, is.within, is.whole)) in
    let n : part_header_len header ≡ part_header_len p = sym a ∙ ap length same ∙ b in
    let one = lens (take (part_header_len header) header) header (alike-take header (part_header_len header) (omega (arith, n, is.start)) (omega (arith, long))) in
    let two = lens (header_of p) p (alike-take p (part_header_len p) is.start is.least) in
    lens-by (header_of p) header p (subst (λ h. HasLens h header) same one) two

-- ---- the fragment header of IPv6

-- its fields after the next header and the reserved byte
pub record HasPlace (bytes : List ℕ) : Type 0 where
  pub first : field (slice_range bytes 42 48) 0 13 ≡ field bytes 336 13
  pub more : field (slice_range bytes 42 48) 15 1 ≡ field bytes 351 1
  pub ident : field (slice_range bytes 42 48) 16 32 ≡ field bytes 352 32

pub has_place : (bytes : List ℕ) → 48 ≤ length bytes → HasPlace bytes
has_place bytes room = rw (cells-drop 48 bytes room) (record { first = refl; more = refl; ident = refl })

-- the codepoint is the end of the traffic class
pub class_ecn : (bytes : List ℕ) → 2 ≤ length bytes → field bytes 4 8 % 4 ≡ field bytes 10 2
class_ecn bytes room = rw (cells-drop 2 bytes room) (omega arith)

-- ---- the header of a valid packet

pub length-header : (p : List ℕ) → IsLaid p → length (header_of p) ≡ part_header_len p
length-header p is = length-take-le (part_header_len p) p (omega (arith, is.within, is.whole))

pub header-lens : (p : List ℕ) → IsLaid p → HasLens (header_of p) p
header-lens p is = lens (header_of p) p (alike-take p (part_header_len p) is.start is.least)
