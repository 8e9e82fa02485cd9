-- The header of a fragment: what its fields say, and that it is valid.
use Rattle.std.proofs.Common.{ℕ, ◌≡◌, ◌≤◌, ◌<◌, ◌+◌, ◌-◌, ◌*◌, ◌/◌, ◌%◌, ◌^◌, inl, Bool, true, false, cond, eqb, Option, None, Some, List, [], ◌++◌, length, drop, take, slice_range, refl, sym, ap, ◌∙◌, arith, length-append, length-drop}
use Rattle.std.proofs.lemmas.Grind.{common_steps}
use borrow.Rule.Slice.PartMut.{put_mid}
use Rattle.std.proofs.lemmas.List.{append-nil, drop_all, drop_at, length-take-le, take_at, take_rest}
use Rattle.std.proofs.Math.Seq.{take-add}
use Rattle.ip_wire.specs.Diagram.{flag}
use Rattle.ip_wire.specs.Field.{field, with_field}
use Rattle.ip_wire.specs.Ipv4.{HasChecksum, HasLengths, fragment_offset, header_len, ip_version_of, more_frags_of, total_len, with_checksum, with_checksum_field}
use Rattle.ip_wire.specs.WordSum.{sum_of_bytes}
use Rattle.ip_wire.proofs.ByteLists.{AreBytes-append, AreBytes-drop, AreBytes-take}
use Rattle.ip_wire.proofs.Cells.{cells-drop}
use Rattle.ip_wire.proofs.Ipv4Updated.{valid-filled}
use Rattle.ip_wire.proofs.Spelled.{AreBytes}
use Rattle.ip_wire.proofs.Written.{AreBytes-with_field, field_with_field_other, field_with_field_same, length_with_field}
use Rattle.app_fragment.proofs.Walk.{AreBytes-later_options, length-later_options}
use Rattle.app_fragment.specs.Ipv4Fragments.{fragment_header, fragment_len, has_more, header_at, options_at, unsummed_header, with_ident, with_place}
use Rattle.app_fragment.specs.Ipv4Options.{later_options}

-- ---- writes of fields after the first byte

-- the new header is as long as the old one, and has its version and header length
pub record Keeps (old new : List ℕ) : Type 0 where
  pub long : length new ≡ length old
  pub version : ip_version_of new ≡ ip_version_of old
  pub header : header_len new ≡ header_len old
  pub are : AreBytes new

pub keeps-field : (h : List ℕ) (first width x : ℕ) → AreBytes h → 20 ≤ length h → 0 < width → 8 ≤ first → first + width ≤ 160 → Keeps h (with_field h first width x)
keeps-field h first width x are room some low high =
    let fits : first + width ≤ 8 * length h = omega arith in
    record {
      long = length_with_field h first width x some fits;
      version = field_with_field_other h first width x 0 4 are some (omega arith) fits (inl (omega arith));
      header = ap (λ n. 4 * n) (field_with_field_other h first width x 4 4 are some (omega arith) fits (inl (omega arith)));
      are = AreBytes-with_field h first width x are some fits;
    }

pub keeps-both : (a b c : List ℕ) → Keeps a b → Keeps b c → Keeps a c
keeps-both a b c f g = record { long = g.long ∙ f.long; version = g.version ∙ f.version; header = g.header ∙ f.header; are = g.are }

pub keeps-ident : (ident : Option ℕ) (h : List ℕ) → AreBytes h → 20 ≤ length h → Keeps h (with_ident ident h)
keeps-ident None h are room = record { long = refl; version = refl; header = refl; are = are }
keeps-ident (Some n) h are room =
    let first = keeps-field h 32 16 n are room (omega arith) (omega arith) (omega arith) in
    keeps-both h (with_field h 32 16 n) (with_ident (Some n) h) first
    (keeps-field (with_field h 32 16 n) 49 1 0 first.are (omega (arith, first.long)) (omega arith) (omega arith) (omega arith))

pub keeps-place : (len : ℕ) (more : Bool) (offset : ℕ) (h : List ℕ) → AreBytes h → 20 ≤ length h → Keeps h (with_place len more offset h)
keeps-place len more offset h are room =
    let a = with_field h 16 16 len in
    let b = with_field (with_field h 16 16 len) 50 1 (flag more) in
    let first = keeps-field h 16 16 len are room (omega arith) (omega arith) (omega arith) in
    let second = keeps-field (with_field h 16 16 len) 50 1 (flag more) first.are (omega (arith, first.long)) (omega arith) (omega arith) (omega arith) in
    let third = keeps-field (with_field (with_field h 16 16 len) 50 1 (flag more)) 51 13 (offset / 8) second.are (omega (arith, second.long, first.long)) (omega arith) (omega arith) (omega arith) in
    keeps-both h _ (with_place len more offset h) (keeps-both h (with_field h 16 16 len) _ first second) third

pub keeps-checksum : (h : List ℕ) → AreBytes h → 20 ≤ length h → Keeps h (with_checksum h)
keeps-checksum h are room =
    let first = keeps-field h 80 16 0 are room (omega arith) (omega arith) (omega arith) in
    keeps-both h (with_checksum_field h 0) (with_checksum h) first
    (keeps-field (with_checksum_field h 0) 80 16 _ first.are (omega (arith, first.long)) (omega arith) (omega arith) (omega arith))

-- ---- the header that a fragment begins with

-- bytes that begin with those of another list up to the fragment offset have its version and header length
same-front : (bytes rest : List ℕ) → 20 ≤ length bytes → (ip_version_of (take 20 bytes ++ rest) ≡ ip_version_of bytes) × (header_len (take 20 bytes ++ rest) ≡ header_len bytes)
same-front bytes rest room = rw (cells-drop 20 bytes room) (refl, refl)

-- a header is its first 20 bytes and its options
pub header-parts : (bytes : List ℕ) (n : ℕ) → 20 ≤ n → take n bytes ≡ take 20 bytes ++ slice_range bytes 20 n
header-parts bytes n least =
    let e : n ≡ 20 + (n - 20) = omega arith in
    ap (λ k. take k bytes) e ∙ take-add 20 (n - 20) bytes

-- the header as it is written: `copied` is that of the packet
pub copied-header : (bytes copied options : List ℕ) (at n : ℕ) → HasLengths bytes → n ≡ header_len bytes → copied ≡ take n bytes
    → options ≡ options_at at (take (length copied - 20) (drop 20 copied)) → put_mid 20 (length copied - 20) copied options ≡ header_at bytes at
copied-header bytes copied options at n v is e kept =
    let whole : copied ≡ take 20 bytes ++ slice_range bytes 20 (header_len bytes) = e ∙ ap (λ k. take k bytes) is ∙ header-parts bytes (header_len bytes) v.header in
    let front : length (take 20 bytes) ≡ 20 = length-take-le 20 bytes v.least in
    let first : take 20 copied ≡ take 20 bytes = ap (take 20) whole ∙ take_at (take 20 bytes) (slice_range bytes 20 (header_len bytes)) 20 front in
    let rest : drop 20 copied ≡ slice_range bytes 20 (header_len bytes) = ap (drop 20) whole ∙ drop_at (take 20 bytes) (slice_range bytes 20 (header_len bytes)) 20 front in
    let part : options ≡ options_at at (slice_range bytes 20 (header_len bytes)) = kept ∙ ap (options_at at) (take_rest copied 20 ∙ rest) in
    let none : drop (length copied - 20) (drop 20 copied) ≡ [] = drop_all (length copied - 20) (drop 20 copied) (omega (arith, length-drop 20 copied)) in
    ap (λ l. take 20 copied ++ (options ++ l)) none ∙ ap (λ l. take 20 copied ++ l) (append-nil options ∙ part)
    ∙ ap (λ l. l ++ options_at at (slice_range bytes 20 (header_len bytes))) first

length-options_at : (at : ℕ) (xs : List ℕ) → length (options_at at xs) ≡ length xs
length-options_at at xs = by (eqb at 0)
  where
    by : (b : Bool) → length (cond b xs (later_options xs)) ≡ length xs
    by true = refl
    by false = length-later_options xs

AreBytes-options_at : (at : ℕ) (xs : List ℕ) → AreBytes xs → AreBytes (options_at at xs)
AreBytes-options_at at xs are = by (eqb at 0)
  where
    by : (b : Bool) → AreBytes (cond b xs (later_options xs))
    by true = are
    by false = AreBytes-later_options xs are

length-options : (bytes : List ℕ) (n : ℕ) → n ≤ length bytes → length (slice_range bytes 20 n) ≡ n - 20
length-options bytes n room = grind (arith, common_steps)

keeps-parts : (bytes rest : List ℕ) → AreBytes bytes → AreBytes rest → HasLengths bytes → length rest ≡ header_len bytes - 20 → Keeps (take (header_len bytes) bytes) (take 20 bytes ++ rest)
keeps-parts bytes rest are others v long =
    let room : header_len bytes ≤ length bytes = omega (arith, v.within, v.whole) in
    let front = length-take-le 20 bytes v.least in
    let whole = length-take-le (header_len bytes) bytes room in
    let here = same-front bytes rest v.least in
    let there = same-front bytes (slice_range bytes 20 (header_len bytes)) v.least in
    let parts = header-parts bytes (header_len bytes) v.header in
    record {
      long = omega (arith, length-append (take 20 bytes) rest, front, whole, long, v.header);
      version = here.0 ∙ sym (ap ip_version_of parts ∙ there.0);
      header = here.1 ∙ sym (ap header_len parts ∙ there.1);
      are = AreBytes-append (take 20 bytes) rest (AreBytes-take 20 bytes are) others;
    }

pub keeps-header_at : (bytes : List ℕ) (at : ℕ) → AreBytes bytes → HasLengths bytes → Keeps (take (header_len bytes) bytes) (header_at bytes at)
keeps-header_at bytes at are v =
    let room : header_len bytes ≤ length bytes = omega (arith, v.within, v.whole) in
    keeps-parts bytes (options_at at (slice_range bytes 20 (header_len bytes))) are
    (AreBytes-options_at at (slice_range bytes 20 (header_len bytes)) (AreBytes-take _ (drop 20 bytes) (AreBytes-drop 20 bytes are)))
    v (length-options_at at (slice_range bytes 20 (header_len bytes)) ∙ length-options bytes (header_len bytes) room)

-- the header has the length, version and header length of the packet's
pub record IsHeader (bytes h : List ℕ) : Type 0 where
  pub long : length h ≡ header_len bytes
  pub version : ip_version_of h ≡ ip_version_of bytes
  pub header : header_len h ≡ header_len bytes
  pub are : AreBytes h

pub is_header : (bytes h : List ℕ) → HasLengths bytes → Keeps (take (header_len bytes) bytes) h → IsHeader bytes h
is_header bytes h v k =
    let room : header_len bytes ≤ length bytes = omega (arith, v.within, v.whole) in
    let there = same-front bytes (slice_range bytes 20 (header_len bytes)) v.least in
    let parts = header-parts bytes (header_len bytes) v.header in
    record {
      long = k.long ∙ length-take-le (header_len bytes) bytes room;
      version = k.version ∙ ap ip_version_of parts ∙ there.0;
      header = k.header ∙ ap header_len parts ∙ there.1;
      are = k.are;
    }

pub unsummed-is_header : (ident : Option ℕ) (bytes : List ℕ) (at next : ℕ) → AreBytes bytes → HasLengths bytes → IsHeader bytes (unsummed_header ident bytes at next)
unsummed-is_header ident bytes at next are v =
    let start = keeps-header_at bytes at are v in
    let least : 20 ≤ length (header_at bytes at) = omega (arith, (is_header bytes (header_at bytes at) v start).long, v.header) in
    let named = keeps-ident ident (header_at bytes at) start.are least in
    let placed = keeps-place (fragment_len bytes at next) (has_more bytes next) (fragment_offset bytes + at) (with_ident ident (header_at bytes at)) named.are (omega (arith, named.long, least)) in
    is_header bytes _ v (keeps-both (take (header_len bytes) bytes) (header_at bytes at) _ start (keeps-both (header_at bytes at) _ _ named placed))

pub header-is_header : (ident : Option ℕ) (bytes : List ℕ) (at next : ℕ) → AreBytes bytes → HasLengths bytes → IsHeader bytes (fragment_header ident bytes at next)
header-is_header ident bytes at next are v =
    let old = unsummed-is_header ident bytes at next are v in
    let k = keeps-checksum (unsummed_header ident bytes at next) old.are (omega (arith, old.long, v.header)) in
    record { long = k.long ∙ old.long; version = k.version ∙ old.version; header = k.header ∙ old.header; are = k.are }

pub header-has_checksum : (ident : Option ℕ) (bytes : List ℕ) (at next : ℕ) → AreBytes bytes → HasLengths bytes → HasChecksum (fragment_header ident bytes at next)
header-has_checksum ident bytes at next are v =
    let old = unsummed-is_header ident bytes at next are v in
    valid-filled (unsummed_header ident bytes at next) old.are (omega (arith, old.header, v.header)) (omega (arith, old.header, old.long))

-- ---- the fields of the fragment

-- the fields of its place
pub record HasPlace (len offset : ℕ) (more : Bool) (h : List ℕ) : Type 0 where
  pub total : total_len h ≡ len % 65536
  pub flag_of : more_frags_of h ≡ flag more
  pub first : field h 51 13 ≡ offset / 8 % 8192

flag-bit : (more : Bool) → flag more % 2 ^ 1 ≡ flag more
flag-bit true = refl
flag-bit false = refl

pub place-fields : (len offset : ℕ) (more : Bool) (h : List ℕ) → AreBytes h → 20 ≤ length h → HasPlace len offset more (with_place len more offset h)
place-fields len offset more h are room =
    let a = with_field h 16 16 len in
    let b = with_field (with_field h 16 16 len) 50 1 (flag more) in
    let first = keeps-field h 16 16 len are room (omega arith) (omega arith) (omega arith) in
    let second = keeps-field (with_field h 16 16 len) 50 1 (flag more) first.are (omega (arith, first.long)) (omega arith) (omega arith) (omega arith) in
    let room1 : 20 ≤ length (with_field h 16 16 len) = omega (arith, first.long) in
    let room2 : 20 ≤ length (with_field (with_field h 16 16 len) 50 1 (flag more)) = omega (arith, second.long, room1) in
    record {
      total = field_with_field_other b 51 13 (offset / 8) 16 16 second.are (omega arith) (omega arith) (omega (arith, room2)) (inl (omega arith))
          ∙ field_with_field_other a 50 1 (flag more) 16 16 first.are (omega arith) (omega arith) (omega (arith, room1)) (inl (omega arith))
          ∙ field_with_field_same h 16 16 len are (omega arith) (omega (arith, room));
      flag_of = field_with_field_other b 51 13 (offset / 8) 50 1 second.are (omega arith) (omega arith) (omega (arith, room2)) (inl (omega arith))
          ∙ field_with_field_same a 50 1 (flag more) first.are (omega arith) (omega (arith, room1)) ∙ flag-bit more;
      first = field_with_field_same b 51 13 (offset / 8) second.are (omega arith) (omega (arith, room2));
    }

-- the checksum is another field
pub place-checksum : (len offset : ℕ) (more : Bool) (h : List ℕ) → AreBytes h → 20 ≤ length h → HasPlace len offset more h → HasPlace len offset more (with_checksum h)
place-checksum len offset more h are room p =
    let z = with_checksum_field h 0 in
    let x = 65535 - sum_of_bytes (take (header_len h) (with_checksum_field h 0)) in
    let zeroed = keeps-field h 80 16 0 are room (omega arith) (omega arith) (omega arith) in
    let more_room : 96 ≤ 8 * length (with_checksum_field h 0) = omega (arith, zeroed.long, room) in
    let other : (at size : ℕ) → 0 < size → at + size ≤ 80 → field (with_checksum h) at size ≡ field h at size = λ at size some low.
    field_with_field_other z 80 16 x at size zeroed.are (omega arith) some more_room (inl low)
    ∙ field_with_field_other h 80 16 0 at size are (omega arith) some (omega (arith, room)) (inl low) in
    record {
      total = other 16 16 (omega arith) (omega arith) ∙ p.total;
      flag_of = other 50 1 (omega arith) (omega arith) ∙ p.flag_of;
      first = other 51 13 (omega arith) (omega arith) ∙ p.first;
    }

pub header-place : (ident : Option ℕ) (bytes : List ℕ) (at next : ℕ) → AreBytes bytes → HasLengths bytes
    → HasPlace (fragment_len bytes at next) (fragment_offset bytes + at) (has_more bytes next) (fragment_header ident bytes at next)
header-place ident bytes at next are v =
    let start = keeps-header_at bytes at are v in
    let least : 20 ≤ length (header_at bytes at) = omega (arith, (is_header bytes (header_at bytes at) v start).long, v.header) in
    let named = keeps-ident ident (header_at bytes at) start.are least in
    let old = unsummed-is_header ident bytes at next are v in
    place-checksum _ _ _ (unsummed_header ident bytes at next) old.are (omega (arith, old.long, v.header))
    (place-fields (fragment_len bytes at next) (fragment_offset bytes + at) (has_more bytes next) (with_ident ident (header_at bytes at)) named.are (omega (arith, named.long, least)))
