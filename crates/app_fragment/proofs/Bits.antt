-- The bits and options of a packet's header that its fragments have too.
use Rattle.std.proofs.Common.{ℕ, ◌≡◌, ◌≤◌, ◌<◌, ◌+◌, ◌-◌, ◌/◌, ◌%◌, ◌^◌, inl, inr, Bool, Option, None, Some, List, ◌++◌, length, drop, take, slice_range, refl, ap, ◌∙◌, arith, length-drop}
use Rattle.std.proofs.lemmas.List.{drop-append-le, drop_at, get_or-take, get_or_append_left, length-take-le, take_at}
use Rattle.ip_wire.specs.Diagram.{flag}
use Rattle.ip_wire.specs.Field.{IsOutside, bit, field, with_field}
use Rattle.ip_wire.specs.Ipv4.{HasLengths, dont_frag_of, fragment_offset, header_len, ident_of, with_checksum, with_checksum_field}
use Rattle.ip_wire.proofs.Spelled.{AreBytes}
use Rattle.ip_wire.proofs.Cells.{cells-drop}
use Rattle.ip_wire.proofs.Following.{drop-with_field}
use Rattle.ip_wire.proofs.Written.{bit_with_field_other, field_with_field_other, field_with_field_same}
use Rattle.app_fragment.proofs.Headers.{Keeps, header-is_header, is_header, keeps-field, keeps-header_at, keeps-ident, keeps-place, unsummed-is_header}
use Rattle.app_fragment.specs.Ipv4Fragments.{IsCommon, fragment_header, fragment_len, has_more, header_at, options_at, unsummed_header, with_ident, with_place}

-- a bit outside a field is outside a part of it
outside-part : (first width a w i : ℕ) → first ≤ a → a + w ≤ first + width → IsOutside first width i → IsOutside a w i
outside-part first width a w i low high (inl before) = inl (omega arith)
outside-part first width a w i low high (inr after) = inr (omega arith)

bit-field : (h : List ℕ) (first width x i : ℕ) → AreBytes h → 20 ≤ length h → 0 < width → first + width ≤ 160 → IsOutside first width i → bit (with_field h first width x) i ≡ bit h i
bit-field h first width x i are room some high out = bit_with_field_other h first width x i are some (omega arith) out

pub bit-place : (len offset : ℕ) (more : Bool) (h : List ℕ) (i : ℕ) → AreBytes h → 20 ≤ length h → IsOutside 16 16 i → IsOutside 50 14 i → bit (with_place len more offset h) i ≡ bit h i
bit-place len offset more h i are room total place =
    let first = keeps-field h 16 16 len are room (omega arith) (omega arith) (omega arith) in
    let second = keeps-field (with_field h 16 16 len) 50 1 (flag more) first.are (omega (arith, first.long)) (omega arith) (omega arith) (omega arith) in
    bit-field (with_field (with_field h 16 16 len) 50 1 (flag more)) 51 13 (offset / 8) i second.are (omega (arith, second.long, first.long)) (omega arith) (omega arith)
    (outside-part 50 14 51 13 i (omega arith) (omega arith) place)
    ∙ bit-field (with_field h 16 16 len) 50 1 (flag more) i first.are (omega (arith, first.long)) (omega arith) (omega arith) (outside-part 50 14 50 1 i (omega arith) (omega arith) place)
    ∙ bit-field h 16 16 len i are room (omega arith) (omega arith) total

bit-ident : (n : ℕ) (h : List ℕ) (i : ℕ) → AreBytes h → 20 ≤ length h → IsOutside 32 16 i → IsOutside 49 1 i → bit (with_ident (Some n) h) i ≡ bit h i
bit-ident n h i are room ident dont =
    let first = keeps-field h 32 16 n are room (omega arith) (omega arith) (omega arith) in
    bit-field (with_field h 32 16 n) 49 1 0 i first.are (omega (arith, first.long)) (omega arith) (omega arith) dont
    ∙ bit-field h 32 16 n i are room (omega arith) (omega arith) ident

pub bit-checksum : (h : List ℕ) (i : ℕ) → AreBytes h → 20 ≤ length h → IsOutside 80 16 i → bit (with_checksum h) i ≡ bit h i
bit-checksum h i are room out =
    let zeroed = keeps-field h 80 16 0 are room (omega arith) (omega arith) (omega arith) in
    bit-field (with_checksum_field h 0) 80 16 _ i zeroed.are (omega (arith, zeroed.long)) (omega arith) (omega arith) out
    ∙ bit-field h 80 16 0 i are room (omega arith) (omega arith) out

-- the first 20 bytes are those of the packet
bit-front : (bytes rest : List ℕ) (i : ℕ) → 20 ≤ length bytes → i < 160 → bit (take 20 bytes ++ rest) i ≡ bit bytes i
bit-front bytes rest i room low =
    let long : length (take 20 bytes) ≡ 20 = length-take-le 20 bytes room in
    ap (λ b. b / 2 ^ (7 - i % 8) % 2) (get_or_append_left (take 20 bytes) rest 0 (i / 8) (omega arith) ∙ get_or-take 20 bytes (i / 8) 0 (omega arith))

bit-header_at : (bytes : List ℕ) (at i : ℕ) → HasLengths bytes → i < 160 → bit (header_at bytes at) i ≡ bit bytes i
bit-header_at bytes at i v low = bit-front bytes (options_at at (slice_range bytes 20 (header_len bytes))) i v.least low

bit-unsummed : (ident : Option ℕ) (bytes : List ℕ) (at next i : ℕ) → AreBytes bytes → HasLengths bytes → i < 160 → IsCommon ident i
    → bit (unsummed_header ident bytes at next) i ≡ bit bytes i
bit-unsummed ident bytes at next i are v low is = by ident is
  where
    h : List ℕ
    h = header_at bytes at

    start : Keeps (take (header_len bytes) bytes) (header_at bytes at)
    start = keeps-header_at bytes at are v

    least : 20 ≤ length (header_at bytes at)
    least = omega (arith, (is_header bytes (header_at bytes at) v start).long, v.header)

    by : (o : Option ℕ) → IsCommon o i → bit (with_place (fragment_len bytes at next) (has_more bytes next) (fragment_offset bytes + at) (with_ident o (header_at bytes at))) i ≡ bit bytes i
    by None out =
        bit-place (fragment_len bytes at next) (fragment_offset bytes + at) (has_more bytes next) (header_at bytes at) i start.are least out.0 out.1
        ∙ bit-header_at bytes at i v low
    by (Some n) out =
        let named = keeps-ident (Some n) (header_at bytes at) start.are least in
        bit-place (fragment_len bytes at next) (fragment_offset bytes + at) (has_more bytes next) (with_ident (Some n) (header_at bytes at)) i named.are (omega (arith, named.long, least))
        (outside-part 16 32 16 16 i (omega arith) (omega arith) out.0) (outside-part 49 15 50 14 i (omega arith) (omega arith) out.1)
        ∙ bit-ident n (header_at bytes at) i start.are least (outside-part 16 32 32 16 i (omega arith) (omega arith) out.0) (outside-part 49 15 49 1 i (omega arith) (omega arith) out.1)
        ∙ bit-header_at bytes at i v low

common-checksum : (ident : Option ℕ) (i : ℕ) → IsCommon ident i → IsOutside 80 16 i
common-checksum None i out = out.2
common-checksum (Some n) i out = out.2

-- a bit of the header that a fragment has in common with its packet
pub bit-fragment : (ident : Option ℕ) (bytes rest : List ℕ) (at next i : ℕ) → AreBytes bytes → HasLengths bytes → i < 160 → IsCommon ident i
    → bit (fragment_header ident bytes at next ++ rest) i ≡ bit bytes i
bit-fragment ident bytes rest at next i are v low is =
    let old = unsummed-is_header ident bytes at next are v in
    let new = header-is_header ident bytes at next are v in
    ap (λ b. b / 2 ^ (7 - i % 8) % 2) (get_or_append_left (fragment_header ident bytes at next) rest 0 (i / 8) (omega (arith, new.long, v.header)))
    ∙ bit-checksum (unsummed_header ident bytes at next) i old.are (omega (arith, old.long, v.header)) (common-checksum ident i is)
    ∙ bit-unsummed ident bytes at next i are v low is

-- ---- the identification and DF of a packet of one's own

-- a field that none of the later writes touches
pub field-placed : (len offset : ℕ) (more : Bool) (h : List ℕ) (first width : ℕ) → AreBytes h → 20 ≤ length h → 0 < width → 32 ≤ first → first + width ≤ 50
    → field (with_checksum (with_place len more offset h)) first width ≡ field h first width
field-placed len offset more h first width are room some low high =
    let a = keeps-field h 16 16 len are room (omega arith) (omega arith) (omega arith) in
    let b = keeps-field (with_field h 16 16 len) 50 1 (flag more) a.are (omega (arith, a.long)) (omega arith) (omega arith) (omega arith) in
    let c = keeps-place len more offset h are room in
    let d = keeps-field (with_place len more offset h) 80 16 0 c.are (omega (arith, c.long)) (omega arith) (omega arith) (omega arith) in
    field_with_field_other (with_checksum_field (with_place len more offset h) 0) 80 16 _ first width d.are (omega arith) some (omega (arith, d.long, c.long)) (inl (omega arith))
    ∙ field_with_field_other (with_place len more offset h) 80 16 0 first width c.are (omega arith) some (omega (arith, c.long)) (inl (omega arith))
    ∙ field_with_field_other (with_field (with_field h 16 16 len) 50 1 (flag more)) 51 13 (offset / 8) first width b.are (omega arith) some (omega (arith, b.long, a.long)) (inl (omega arith))
    ∙ field_with_field_other (with_field h 16 16 len) 50 1 (flag more) first width a.are (omega arith) some (omega (arith, a.long)) (inl (omega arith))
    ∙ field_with_field_other h 16 16 len first width are (omega arith) some (omega (arith, room)) (inr (omega arith))

fields-ident : (n : ℕ) (h : List ℕ) → AreBytes h → 20 ≤ length h → n < 65536
    → (field (with_ident (Some n) h) 32 16 ≡ n) × (field (with_ident (Some n) h) 49 1 ≡ 0)
fields-ident n h are room small =
    let a = keeps-field h 32 16 n are room (omega arith) (omega arith) (omega arith) in (
      field_with_field_other (with_field h 32 16 n) 49 1 0 32 16 a.are (omega arith) (omega arith) (omega (arith, a.long)) (inl (omega arith))
          ∙ field_with_field_same h 32 16 n are (omega arith) (omega (arith, room)) ∙ omega (arith, small),
      field_with_field_same (with_field h 32 16 n) 49 1 0 a.are (omega arith) (omega (arith, a.long)),
    )

-- bytes after a header do not change these fields
front-ident : (h rest : List ℕ) → 20 ≤ length h → (ident_of (h ++ rest) ≡ ident_of h) × (dont_frag_of (h ++ rest) ≡ dont_frag_of h)
front-ident h rest room = rw (cells-drop 20 h room) (refl, refl)

pub ident-fragment : (n : ℕ) (bytes rest : List ℕ) (at next : ℕ) → AreBytes bytes → HasLengths bytes → n < 65536
    → (ident_of (fragment_header (Some n) bytes at next ++ rest) ≡ n) × (dont_frag_of (fragment_header (Some n) bytes at next ++ rest) ≡ 0)
ident-fragment n bytes rest at next are v small =
    let start = keeps-header_at bytes at are v in
    let least : 20 ≤ length (header_at bytes at) = omega (arith, (is_header bytes (header_at bytes at) v start).long, v.header) in
    let named = keeps-ident (Some n) (header_at bytes at) start.are least in
    let room : 20 ≤ length (with_ident (Some n) (header_at bytes at)) = omega (arith, named.long, least) in
    let new = header-is_header (Some n) bytes at next are v in
    let front = front-ident (fragment_header (Some n) bytes at next) rest (omega (arith, new.long, v.header)) in
    let same = fields-ident n (header_at bytes at) start.are least small in (
      front.0 ∙ field-placed (fragment_len bytes at next) (fragment_offset bytes + at) (has_more bytes next) (with_ident (Some n) (header_at bytes at)) 32 16 named.are room (omega arith) (omega arith) (omega arith) ∙ same.0,
      front.1 ∙ field-placed (fragment_len bytes at next) (fragment_offset bytes + at) (has_more bytes next) (with_ident (Some n) (header_at bytes at)) 49 1 named.are room (omega arith) (omega arith) (omega arith) ∙ same.1,
    )

-- ---- options

rest-field : (h : List ℕ) (first width x : ℕ) → 20 ≤ length h → 0 < width → first + width ≤ 160 → drop 20 (with_field h first width x) ≡ drop 20 h
rest-field h first width x room some high = drop-with_field h first width x 20 some high room

rest-ident : (ident : Option ℕ) (h : List ℕ) → AreBytes h → 20 ≤ length h → drop 20 (with_ident ident h) ≡ drop 20 h
rest-ident None h are room = refl
rest-ident (Some n) h are room =
    let a = keeps-field h 32 16 n are room (omega arith) (omega arith) (omega arith) in
    rest-field (with_field h 32 16 n) 49 1 0 (omega (arith, a.long)) (omega arith) (omega arith) ∙ rest-field h 32 16 n room (omega arith) (omega arith)

pub rest-place : (len offset : ℕ) (more : Bool) (h : List ℕ) → AreBytes h → 20 ≤ length h → drop 20 (with_checksum (with_place len more offset h)) ≡ drop 20 h
rest-place len offset more h are room =
    let a = keeps-field h 16 16 len are room (omega arith) (omega arith) (omega arith) in
    let b = keeps-field (with_field h 16 16 len) 50 1 (flag more) a.are (omega (arith, a.long)) (omega arith) (omega arith) (omega arith) in
    let c = keeps-place len more offset h are room in
    let d = keeps-field (with_place len more offset h) 80 16 0 c.are (omega (arith, c.long)) (omega arith) (omega arith) (omega arith) in
    rest-field (with_checksum_field (with_place len more offset h) 0) 80 16 _ (omega (arith, d.long, c.long)) (omega arith) (omega arith)
    ∙ rest-field (with_place len more offset h) 80 16 0 (omega (arith, c.long)) (omega arith) (omega arith)
    ∙ rest-field (with_field (with_field h 16 16 len) 50 1 (flag more)) 51 13 (offset / 8) (omega (arith, b.long, a.long)) (omega arith) (omega arith)
    ∙ rest-field (with_field h 16 16 len) 50 1 (flag more) (omega (arith, a.long)) (omega arith) (omega arith)
    ∙ rest-field h 16 16 len room (omega arith) (omega arith)

-- the options of a fragment
pub options-fragment : (ident : Option ℕ) (bytes rest : List ℕ) (at next : ℕ) → AreBytes bytes → HasLengths bytes
    → slice_range (fragment_header ident bytes at next ++ rest) 20 (header_len bytes) ≡ options_at at (slice_range bytes 20 (header_len bytes))
options-fragment ident bytes rest at next are v =
    let start = keeps-header_at bytes at are v in
    let least : 20 ≤ length (header_at bytes at) = omega (arith, (is_header bytes (header_at bytes at) v start).long, v.header) in
    let named = keeps-ident ident (header_at bytes at) start.are least in
    let new = header-is_header ident bytes at next are v in
    let room : 20 ≤ length (fragment_header ident bytes at next) = omega (arith, new.long, v.header) in
    let long : length (drop 20 (fragment_header ident bytes at next)) ≡ header_len bytes - 20 = length-drop 20 (fragment_header ident bytes at next) ∙ omega (arith, new.long) in
    ap (take (header_len bytes - 20)) (drop-append-le 20 (fragment_header ident bytes at next) rest room)
    ∙ take_at (drop 20 (fragment_header ident bytes at next)) rest (header_len bytes - 20) long
    ∙ rest-place (fragment_len bytes at next) (fragment_offset bytes + at) (has_more bytes next) (with_ident ident (header_at bytes at)) named.are (omega (arith, named.long, least))
    ∙ rest-ident ident (header_at bytes at) start.are least
    ∙ drop_at (take 20 bytes) (options_at at (slice_range bytes 20 (header_len bytes))) 20 (length-take-le 20 bytes v.least)
