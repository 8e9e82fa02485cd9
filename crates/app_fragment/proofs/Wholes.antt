-- An IPv4 packet that is put together, at the front of a buffer.
use Rattle.std.proofs.Common.{ℕ, ◌≡◌, ◌≤◌, ◌<◌, ◌+◌, ◌-◌, ◌/◌, ◌%◌, ◌^◌, inl, inr, Bool, true, false, None, List, [], ◌∷◌, cond, subst, ◌++◌, length, drop, take, slice_range, refl, sym, ap, ◌∙◌, arith, append_assoc, length-append, length-drop}
use Rattle.std.proofs.lemmas.Bool.Decides.{nat_tests}
use Rattle.std.proofs.lemmas.List.{drop-append-le, get_or_append_left, take_at}
use Rattle.ip_wire.specs.Diagram.{flag}
use Rattle.ip_wire.specs.Field.{IsOutside, bit, field, with_field}
use Rattle.ip_wire.specs.Ipv4.{HasChecksum, HasLengths, header_len, ident_of, ip_version_of, ecn_of, is_fragment, more_frags_of, total_len, with_checksum, with_checksum_field}
use Rattle.ip_wire.proofs.Cells.{cells-drop}
use Rattle.ip_wire.proofs.Following.{drop-with_field}
use Rattle.ip_wire.proofs.Ipv4Updated.{valid-filled}
use Rattle.ip_wire.proofs.Spelled.{AreBytes}
use Rattle.ip_wire.proofs.Written.{bit_with_field_other, field_with_field_other, field_with_field_same}
use Rattle.app_fragment.proofs.Bits.{bit-checksum, bit-place, field-placed, rest-place}
use Rattle.app_fragment.proofs.Headers.{HasPlace, Keeps, keeps-both, keeps-checksum, keeps-field, keeps-place, place-checksum, place-fields}
use Rattle.app_fragment.proofs.Pieces.{checksum-front, field-front, payload-part}
use Rattle.app_fragment.specs.Datagram.{ipv4_whole_header, ipv4_with_ce}
use Rattle.app_fragment.specs.Ipv4Fragments.{IsCommon, payload_of, with_place}
use Rattle.app_fragment.specs.Parts.{ipv4_key, padded}

-- the header of a packet with a payload of this length
abbrev pub summed : List ℕ → ℕ → List ℕ
summed h len = with_checksum (with_place (length h + len) false 0 h)

-- ---- fields that stay

-- the protocol is after the place and before the checksum
protocol-placed : (len offset : ℕ) (h : List ℕ) → AreBytes h → 20 ≤ length h
    → field (with_checksum (with_place len false offset h)) 72 8 ≡ field h 72 8
protocol-placed len offset h are room =
    let a = keeps-field h 16 16 len are room (omega arith) (omega arith) (omega arith) in
    let b = keeps-field (with_field h 16 16 len) 50 1 (flag false) a.are (omega (arith, a.long)) (omega arith) (omega arith) (omega arith) in
    let c = keeps-place len false offset h are room in
    let d = keeps-field (with_place len false offset h) 80 16 0 c.are (omega (arith, c.long)) (omega arith) (omega arith) (omega arith) in
    field_with_field_other (with_checksum_field (with_place len false offset h) 0) 80 16 _ 72 8 d.are (omega arith) (omega arith) (omega (arith, d.long, c.long)) (inl (omega arith))
    ∙ field_with_field_other (with_place len false offset h) 80 16 0 72 8 c.are (omega arith) (omega arith) (omega (arith, c.long)) (inl (omega arith))
    ∙ field_with_field_other (with_field (with_field h 16 16 len) 50 1 (flag false)) 51 13 (offset / 8) 72 8 b.are (omega arith) (omega arith) (omega (arith, b.long, a.long)) (inr (omega arith))
    ∙ field_with_field_other (with_field h 16 16 len) 50 1 (flag false) 72 8 a.are (omega arith) (omega arith) (omega (arith, a.long)) (inr (omega arith))
    ∙ field_with_field_other h 16 16 len 72 8 are (omega arith) (omega arith) (omega (arith, room)) (inr (omega arith))

-- the codepoint is before them
ecn-placed : (len offset : ℕ) (h : List ℕ) → AreBytes h → 20 ≤ length h → field (with_checksum (with_place len false offset h)) 14 2 ≡ field h 14 2
ecn-placed len offset h are room =
    let a = keeps-field h 16 16 len are room (omega arith) (omega arith) (omega arith) in
    let b = keeps-field (with_field h 16 16 len) 50 1 (flag false) a.are (omega (arith, a.long)) (omega arith) (omega arith) (omega arith) in
    let c = keeps-place len false offset h are room in
    let d = keeps-field (with_place len false offset h) 80 16 0 c.are (omega (arith, c.long)) (omega arith) (omega arith) (omega arith) in
    field_with_field_other (with_checksum_field (with_place len false offset h) 0) 80 16 _ 14 2 d.are (omega arith) (omega arith) (omega (arith, d.long, c.long)) (inl (omega arith))
    ∙ field_with_field_other (with_place len false offset h) 80 16 0 14 2 c.are (omega arith) (omega arith) (omega (arith, c.long)) (inl (omega arith))
    ∙ field_with_field_other (with_field (with_field h 16 16 len) 50 1 (flag false)) 51 13 (offset / 8) 14 2 b.are (omega arith) (omega arith) (omega (arith, b.long, a.long)) (inl (omega arith))
    ∙ field_with_field_other (with_field h 16 16 len) 50 1 (flag false) 14 2 a.are (omega arith) (omega arith) (omega (arith, a.long)) (inl (omega arith))
    ∙ field_with_field_other h 16 16 len 14 2 are (omega arith) (omega arith) (omega (arith, room)) (inl (omega arith))

-- the addresses are after all fields that change
rest-field : (h : List ℕ) (first width x n : ℕ) → 12 ≤ n → n ≤ length h → 0 < width → first + width ≤ 96 → drop n (with_field h first width x) ≡ drop n h
rest-field h first width x n low room some high = drop-with_field h first width x n some (omega arith) room

addresses-placed : (len offset : ℕ) (h : List ℕ) (n : ℕ) → AreBytes h → 20 ≤ length h → 12 ≤ n → n ≤ 20 → drop n (with_checksum (with_place len false offset h)) ≡ drop n h
addresses-placed len offset h n are room low high =
    let a = keeps-field h 16 16 len are room (omega arith) (omega arith) (omega arith) in
    let b = keeps-field (with_field h 16 16 len) 50 1 (flag false) a.are (omega (arith, a.long)) (omega arith) (omega arith) (omega arith) in
    let c = keeps-place len false offset h are room in
    let d = keeps-field (with_place len false offset h) 80 16 0 c.are (omega (arith, c.long)) (omega arith) (omega arith) (omega arith) in
    rest-field (with_checksum_field (with_place len false offset h) 0) 80 16 _ n low (omega (arith, d.long, c.long)) (omega arith) (omega arith)
    ∙ rest-field (with_place len false offset h) 80 16 0 n low (omega (arith, c.long)) (omega arith) (omega arith)
    ∙ rest-field (with_field (with_field h 16 16 len) 50 1 (flag false)) 51 13 (offset / 8) n low (omega (arith, b.long, a.long)) (omega arith) (omega arith)
    ∙ rest-field (with_field h 16 16 len) 50 1 (flag false) n low (omega (arith, a.long)) (omega arith) (omega arith)
    ∙ rest-field h 16 16 len n low (omega (arith, room)) (omega arith) (omega arith)

-- the key by its fields
same-key : (a b : List ℕ) → ident_of a ≡ ident_of b → field a 72 8 ≡ field b 72 8 → drop 12 a ≡ drop 12 b → drop 16 a ≡ drop 16 b → ipv4_key a ≡ ipv4_key b
same-key a b id protocol src dst = λ i. record {
  ident = id i;
  version = 4;
  protocol = protocol i;
  unused = 0 ∷ 0 ∷ [];
  src = padded (take 4 (src i));
  dst = padded (take 4 (dst i));
}

key-front : (h rest : List ℕ) → 20 ≤ length h → ipv4_key (h ++ rest) ≡ ipv4_key h
key-front h rest room = rw (cells-drop 20 h room) refl

ecn-front : (h rest : List ℕ) → 20 ≤ length h → ecn_of (h ++ rest) ≡ ecn_of h
ecn-front h rest room = rw (cells-drop 20 h room) refl

-- ---- the packet

-- what the bytes begin with: a packet with this payload, and a header that has the bits and options of another one
pub record IsDatagram (h payload out : List ℕ) : Type 0 where
  pub lengths : HasLengths out
  pub version : ip_version_of out ≡ ip_version_of h
  pub checksum : HasChecksum out
  pub total : total_len out ≡ length h + length payload
  pub only : is_fragment out ≡ false
  pub key : ipv4_key out ≡ ipv4_key h
  pub ecn : ecn_of out ≡ ecn_of h
  pub bits : (i : ℕ) → i < 160 → IsCommon None i → bit out i ≡ bit h i
  pub options : slice_range out 20 (header_len out) ≡ drop 20 h
  pub payload_is : payload_of out ≡ payload

not-fragment : (out : List ℕ) → more_frags_of out ≡ 0 → field out 51 13 ≡ 0 → is_fragment out ≡ false
not-fragment out more first = grind (arith, nat_tests)

pub is_datagram : (h payload rest : List ℕ) → AreBytes h → 20 ≤ length h → header_len h ≡ length h → length h + length payload ≤ 65535
    → IsDatagram h payload ((summed h (length payload) ++ payload) ++ rest)
is_datagram h payload rest are room whole fits = rw joined is
  where
    len : ℕ
    len = length h + length payload

    w : List ℕ
    w = summed h (length payload)

    p : List ℕ
    p = with_place (length h + length payload) false 0 h

    first : Keeps h (with_place (length h + length payload) false 0 h)
    first = keeps-place (length h + length payload) false 0 h are room

    least_p : 20 ≤ length (with_place (length h + length payload) false 0 h)
    least_p = omega (arith, first.long)

    k : Keeps h (summed h (length payload))
    k = keeps-both h p w first (keeps-checksum p first.are least_p)

    least : 20 ≤ length (summed h (length payload))
    least = omega (arith, k.long)

    valid : HasChecksum (summed h (length payload))
    valid = valid-filled p first.are (omega (arith, first.header, whole)) (omega (arith, first.header, first.long, whole))

    placed : HasPlace (length h + length payload) 0 false (summed h (length payload))
    placed = place-checksum len 0 false p first.are least_p (place-fields len 0 false h are room)

    joined : (summed h (length payload) ++ payload) ++ rest ≡ summed h (length payload) ++ (payload ++ rest)
    joined = append_assoc w payload rest

    long : length (summed h (length payload) ++ (payload ++ rest)) ≡ length h + (length payload + length rest)
    long = length-append w (payload ++ rest) ∙ omega (arith, k.long, length-append payload rest)

    begins : header_len (summed h (length payload) ++ (payload ++ rest)) ≡ length h
    begins = (field-front w (payload ++ rest) least).1 ∙ k.header ∙ whole

    total : total_len (summed h (length payload) ++ (payload ++ rest)) ≡ length h + length payload
    total = (field-front w (payload ++ rest) least).2 ∙ placed.total ∙ omega (arith, fits)

    count : length h + length payload - length h ≡ length payload
    count = omega arith

    key : ipv4_key (summed h (length payload) ++ (payload ++ rest)) ≡ ipv4_key h
    key =
        key-front w (payload ++ rest) least
        ∙ same-key w h (field-placed len 0 false h 32 16 are room (omega arith) (omega arith) (omega arith)) (protocol-placed len 0 h are room)
        (addresses-placed len 0 h 12 are room (omega arith) (omega arith)) (addresses-placed len 0 h 16 are room (omega arith) (omega arith))

    is : IsDatagram h payload (summed h (length payload) ++ (payload ++ rest))
    is = record {
      lengths = record {
        least = omega (arith, long, room);
        header = omega (arith, begins, room);
        within = omega (arith, begins, total);
        whole = omega (arith, total, long);
      };
      version = (field-front w (payload ++ rest) least).0 ∙ k.version;
      checksum = checksum-front w (payload ++ rest) least (k.long ∙ sym (k.header ∙ whole)) valid;
      total = total;
      only = not-fragment (w ++ (payload ++ rest)) ((field-front w (payload ++ rest) least).3 ∙ placed.flag_of) ((field-front w (payload ++ rest) least).4 ∙ placed.first);
      key = key;
      ecn = ecn-front w (payload ++ rest) least ∙ ecn-placed len 0 h are room;
      bits = λ i low common.
          ap (λ b. b / 2 ^ (7 - i % 8) % 2) (get_or_append_left w (payload ++ rest) 0 (i / 8) (omega (arith, least)))
          ∙ bit-checksum p i first.are least_p common.2
          ∙ bit-place len 0 false h i are room common.0 common.1;
      options =
          ap (slice_range (w ++ (payload ++ rest)) 20) begins
          ∙ ap (take (length h - 20)) (drop-append-le 20 w (payload ++ rest) least)
          ∙ take_at (drop 20 w) (payload ++ rest) (length h - 20) (length-drop 20 w ∙ omega (arith, k.long))
          ∙ rest-place len 0 false h are room;
      payload_is =
          ap (λ n. slice_range (w ++ (payload ++ rest)) n (total_len (w ++ (payload ++ rest)))) begins
          ∙ ap (slice_range (w ++ (payload ++ rest)) (length h)) total
          ∙ ap (λ n. take n (drop (length h) (w ++ (payload ++ rest)))) count
          ∙ rw (sym joined) (payload-part w payload rest (length h) k.long);
    }

-- ---- congestion

-- what stays if the codepoint becomes CE
record HasCe (ce : Bool) (old new : List ℕ) : Type 0 where
  pub keeps : Keeps old new
  pub key : ipv4_key new ≡ ipv4_key old
  pub bits : (i : ℕ) → IsOutside 14 2 i → bit new i ≡ bit old i
  pub ecn : ecn_of new ≡ cond ce 3 (ecn_of old)
  pub rest : drop 20 new ≡ drop 20 old

has_ce : (ce : Bool) (h : List ℕ) → AreBytes h → 20 ≤ length h → HasCe ce h (ipv4_with_ce ce h)
has_ce false h are room = record {
  keeps = record { long = refl; version = refl; header = refl; are = are };
  key = refl;
  bits = λ i out. refl;
  ecn = refl;
  rest = refl;
}
has_ce true h are room = record {
  keeps = keeps-field h 14 2 3 are room (omega arith) (omega arith) (omega arith);
  key = same-key (with_field h 14 2 3) h
      (field_with_field_other h 14 2 3 32 16 are (omega arith) (omega arith) (omega (arith, room)) (inr (omega arith)))
      (field_with_field_other h 14 2 3 72 8 are (omega arith) (omega arith) (omega (arith, room)) (inr (omega arith)))
      (drop-with_field h 14 2 3 12 (omega arith) (omega arith) (omega (arith, room)))
      (drop-with_field h 14 2 3 16 (omega arith) (omega arith) (omega (arith, room)));
  bits = λ i out. bit_with_field_other h 14 2 3 i are (omega arith) (omega (arith, room)) out;
  ecn = field_with_field_same h 14 2 3 are (omega arith) (omega (arith, room));
  rest = drop-with_field h 14 2 3 20 (omega arith) (omega arith) room;
}

-- what the bytes begin with, by the header of the first fragment, and whether a fragment has CE
pub record IsMade (ce : Bool) (h payload out : List ℕ) : Type 0 where
  pub lengths : HasLengths out
  pub version : ip_version_of out ≡ ip_version_of h
  pub checksum : HasChecksum out
  pub total : total_len out ≡ length h + length payload
  pub only : is_fragment out ≡ false
  pub key : ipv4_key out ≡ ipv4_key h
  pub ecn : ecn_of out ≡ cond ce 3 (ecn_of h)
  pub bits : (i : ℕ) → i < 160 → IsCommon None i → IsOutside 14 2 i → bit out i ≡ bit h i
  pub options : slice_range out 20 (header_len out) ≡ drop 20 h
  pub payload_is : payload_of out ≡ payload

pub is_made : (ce : Bool) (h payload rest : List ℕ) → AreBytes h → 20 ≤ length h → header_len h ≡ length h → length h + length payload ≤ 65535
    → IsMade ce h payload ((ipv4_whole_header h (length payload) ce ++ payload) ++ rest)
is_made ce h payload rest are room whole fits =
    let c = has_ce ce h are room in
    let long : length (ipv4_with_ce ce h) ≡ length h = c.keeps.long in
    let is = is_datagram (ipv4_with_ce ce h) payload rest c.keeps.are (omega (arith, long, room)) (c.keeps.header ∙ whole ∙ sym long) (omega (arith, long, fits)) in
    let same : (summed (ipv4_with_ce ce h) (length payload) ++ payload) ++ rest ≡ (ipv4_whole_header h (length payload) ce ++ payload) ++ rest =
    ap (λ n. (with_checksum (with_place (n + length payload) false 0 (ipv4_with_ce ce h)) ++ payload) ++ rest) long in
    subst (IsMade ce h payload) same (record {
      lengths = is.lengths;
      version = is.version ∙ c.keeps.version;
      checksum = is.checksum;
      total = is.total ∙ ap (λ n. n + length payload) long;
      only = is.only;
      key = is.key ∙ c.key;
      ecn = is.ecn ∙ c.ecn;
      bits = λ i low common out. is.bits i low common ∙ c.bits i out;
      options = is.options ∙ c.rest;
      payload_is = is.payload_is;
    })
