-- A fragment of an IPv6 packet: what its fields say, and that it is valid.
use Rattle.std.proofs.Common.{ℕ, ◌≡◌, ◌≤◌, ◌<◌, ◌+◌, ◌-◌, ◌%◌, ◌⊎◌, inl, inr, Bool, true, false, cond, nat_le, Some, List, ◌++◌, length, take, slice_index, slice_range, refl, sym, ap, subst, ◌∙◌, arith, append_assoc, length-append}
use Rattle.std.proofs.lemmas.Bool.Decides.{nat_tests}
use Rattle.std.proofs.lemmas.List.{get_or-take, get_or_append_left, length-take-le}
use Rattle.ip_wire.specs.Field.{field, with_field}
use Rattle.ip_wire.specs.Ipv6.{HasLengths, ip_version_of, payload_len_of, total_len}
use Rattle.ip_wire.proofs.ByteLists.{AreBytes-take}
use Rattle.ip_wire.proofs.Spelled.{AreBytes}
use Rattle.ip_wire.proofs.Written.{AreBytes-with_field, field_with_field_other, field_with_field_same, length_with_field}
use Rattle.app_fragment.proofs.NumberedCuts.{end-within}
use Rattle.app_fragment.proofs.Numbers.{numbered-begins, numbered-only}
use Rattle.app_fragment.proofs.Pieces.{length-part}
use Rattle.app_fragment.specs.Fragments.{cut_len}
use Rattle.app_fragment.specs.Ipv6Fragments.{MayBegin, cut_bytes, fixed_header, fragment_bytes, fragment_header, fragment_len, header_len, next_place, own_header, place_of}

-- the fields that the first 8 bytes have
pub record SameFront (xs ys : List ℕ) : Type 0 where
  pub version : ip_version_of xs ≡ ip_version_of ys
  pub payload_len : payload_len_of xs ≡ payload_len_of ys

same-front : (xs ys : List ℕ) → ((i : ℕ) → i < 8 → slice_index xs i ≡ slice_index ys i) → SameFront xs ys
same-front xs ys same =
    let first = same 0 (omega arith) in
    let high = same 4 (omega arith) in
    let low = same 5 (omega arith) in
    record { version = omega (arith, first); payload_len = omega (arith, high, low) }

take-front : (xs rest : List ℕ) (n : ℕ) → 8 ≤ n → n ≤ length xs → SameFront (take n xs ++ rest) xs
take-front xs rest n least room =
    same-front (take n xs ++ rest) xs (λ i low. get_or_append_left (take n xs) rest 0 i (omega (arith, low, least, length-take-le n xs room)) ∙ get_or-take n xs i 0 (omega (arith, low, least)))

append-front : (xs rest : List ℕ) → 8 ≤ length xs → SameFront (xs ++ rest) xs
append-front xs rest room = same-front (xs ++ rest) xs (λ i low. get_or_append_left xs rest 0 i (omega (arith, low, room)))

-- ---- the fixed header

-- what the fixed header of a fragment with `len` bytes of the payload says
pub record IsFixed (bytes : List ℕ) (len : ℕ) (h : List ℕ) : Type 0 where
  pub long : length h ≡ 40
  pub are : AreBytes h
  pub version : ip_version_of h ≡ ip_version_of bytes
  pub payload_len : payload_len_of h ≡ (8 + len) % 65536
  pub next_header : field h 48 8 ≡ 44

pub is_fixed : (bytes : List ℕ) (len : ℕ) → AreBytes bytes → 40 ≤ length bytes → IsFixed bytes len (fixed_header bytes len)
is_fixed bytes len are room =
    let a = take 40 bytes in
    let b = with_field (take 40 bytes) 32 16 (8 + len) in
    let a-long : length (take 40 bytes) ≡ 40 = length-take-le 40 bytes room in
    let a-are : AreBytes (take 40 bytes) = AreBytes-take 40 bytes are in
    let b-long : length (with_field (take 40 bytes) 32 16 (8 + len)) ≡ 40 = length_with_field a 32 16 (8 + len) (omega arith) (omega (arith, a-long)) ∙ a-long in
    let b-are : AreBytes (with_field (take 40 bytes) 32 16 (8 + len)) = AreBytes-with_field a 32 16 (8 + len) a-are (omega arith) (omega (arith, a-long)) in
    let version : ip_version_of (take 40 bytes) ≡ ip_version_of bytes = let same = get_or-take 40 bytes 0 0 (omega arith) in omega (arith, same) in
    record {
      long = length_with_field b 48 8 44 (omega arith) (omega (arith, b-long)) ∙ b-long;
      are = AreBytes-with_field b 48 8 44 b-are (omega arith) (omega (arith, b-long));
      version = field_with_field_other b 48 8 44 0 4 b-are (omega arith) (omega arith) (omega (arith, b-long)) (inl (omega arith))
          ∙ field_with_field_other a 32 16 (8 + len) 0 4 a-are (omega arith) (omega arith) (omega (arith, a-long)) (inl (omega arith))
          ∙ version;
      payload_len = field_with_field_other b 48 8 44 32 16 b-are (omega arith) (omega arith) (omega (arith, b-long)) (inl (omega arith))
          ∙ field_with_field_same a 32 16 (8 + len) a-are (omega arith) (omega (arith, a-long));
      next_header = field_with_field_same b 48 8 44 b-are (omega arith) (omega (arith, b-long));
    }

-- ---- the fragment

-- the bytes begin with a valid packet of this length
pub record IsValid (len : ℕ) (out : List ℕ) : Type 0 where
  pub lengths : HasLengths out
  pub version : ip_version_of out ≡ 6
  pub total : total_len out ≡ len

copied-valid : (bytes rest : List ℕ) → HasLengths bytes → ip_version_of bytes ≡ 6 → IsValid (total_len bytes) (take (total_len bytes) bytes ++ rest)
copied-valid bytes rest room six =
    let front = take-front bytes rest (total_len bytes) (omega arith) room in
    let long = length-append (take (total_len bytes) bytes) rest in
    let part = length-take-le (total_len bytes) bytes room in
    record { lengths = omega (arith, front.payload_len, long, part); version = front.version ∙ six; total = ap (λ n. 40 + n) front.payload_len }

-- a fragment that was cut, with its parts in a row
pub cut-joined : (ident : ℕ) (bytes rest : List ℕ) (at next : ℕ)
    → cut_bytes ident bytes at next ++ rest ≡ fixed_header bytes (next - at) ++ (own_header ident bytes at next ++ (slice_range bytes (40 + at) (40 + next) ++ rest))
cut-joined ident bytes rest at next =
    append_assoc (fragment_header ident bytes at next) (slice_range bytes (40 + at) (40 + next)) rest
    ∙ append_assoc (fixed_header bytes (next - at)) (own_header ident bytes at next) (slice_range bytes (40 + at) (40 + next) ++ rest)

pub cut-valid : (ident : ℕ) (bytes rest : List ℕ) (at next : ℕ) → AreBytes bytes → HasLengths bytes → ip_version_of bytes ≡ 6 → at ≤ next
    → next ≤ payload_len_of bytes → 8 + (next - at) < 65536 → IsValid (48 + (next - at)) (cut_bytes ident bytes at next ++ rest)
cut-valid ident bytes rest at next are room six order within small =
    let h = fixed_header bytes (next - at) in
    let own = own_header ident bytes at next in
    let part = slice_range bytes (40 + at) (40 + next) in
    let is = is_fixed bytes (next - at) are (omega (arith, room)) in
    let front = append-front (fixed_header bytes (next - at)) (own ++ (part ++ rest)) (omega (arith, is.long)) in
    let whole : payload_len_of (h ++ (own ++ (part ++ rest))) ≡ 8 + (next - at) = omega (arith, front.payload_len, is.payload_len, small) in
    let long = length-append (fixed_header bytes (next - at)) (own ++ (part ++ rest)) in
    let middle : length (own ++ (part ++ rest)) ≡ 8 + length (part ++ rest) = length-append own (part ++ rest) in
    let last = length-append part rest in
    let piece = length-part bytes (40 + at) (40 + next) (omega (arith, within, room)) in
    subst (IsValid (48 + (next - at))) (sym (cut-joined ident bytes rest at next)) (record {
      lengths = omega (arith, whole, long, middle, last, piece, is.long, order);
      version = front.version ∙ is.version ∙ six;
      total = omega (arith, whole);
    })

pub fragment-valid : (ident : ℕ) (bytes rest : List ℕ) (mtu at next : ℕ) → AreBytes bytes → HasLengths bytes → ip_version_of bytes ≡ 6 → at ≤ next
    → next ≤ payload_len_of bytes → fragment_len bytes mtu at next ≤ mtu → (total_len bytes ≤ mtu → next - at ≡ payload_len_of bytes)
    → IsValid (fragment_len bytes mtu at next) (fragment_bytes ident bytes mtu at next ++ rest)
fragment-valid ident bytes rest mtu at next are room six order within fits all = by (nat_le (total_len bytes) mtu) refl fits
  where
    by : (b : Bool) → nat_le (total_len bytes) mtu ≡ b → cond b 40 48 + (next - at) ≤ mtu
        → IsValid (cond b 40 48 + (next - at)) (cond b (take (total_len bytes) bytes) (cut_bytes ident bytes at next) ++ rest)
    by true e low =
        let whole : next - at ≡ payload_len_of bytes = all (grind (arith, nat_tests, e)) in
        subst (λ n. IsValid n (take (total_len bytes) bytes ++ rest)) (ap (λ n. 40 + n) (sym whole)) (copied-valid bytes rest room six)
    by false e low =
        let long : mtu < total_len bytes = grind (arith, nat_tests, e) in
        cut-valid ident bytes rest at next are room six order within (omega (arith, low, long))

-- ---- where fragments begin, and how long they are

pub place-begins : (bytes : List ℕ) (mtu number at : ℕ) → (56 ≤ mtu) ⊎ (total_len bytes ≤ mtu) → place_of bytes mtu number ≡ Some at → MayBegin bytes at mtu
place-begins bytes mtu number at some is = by (nat_le (total_len bytes) mtu) refl
  where
    begins : (at % 8 ≡ 0) × ((at < payload_len_of bytes) ⊎ (at ≡ 0))
    begins = numbered-begins (mtu - header_len bytes mtu) (payload_len_of bytes) number at is

    by : (b : Bool) → nat_le (total_len bytes) mtu ≡ b → MayBegin bytes at mtu
    by true e =
        let fits : total_len bytes ≤ mtu = grind (arith, nat_tests, e) in
        let head : header_len bytes mtu ≡ 40 = ap (λ t. cond t 40 48) e in
        let first : at ≡ 0 = numbered-only (mtu - header_len bytes mtu) (payload_len_of bytes) number at (omega (arith, head, fits)) is in
        record { begins = record { multiple = begins.0; inside = begins.1; room = inr (omega (arith, head, fits)) }; only = inr first }
    by false e =
        let long : mtu < total_len bytes = grind (arith, nat_tests, e) in
        let head : header_len bytes mtu ≡ 48 = ap (λ t. cond t 40 48) e in
        let least : 56 ≤ mtu = elim some [ inl enough ↦ enough | inr fits ↦ absurd (omega (arith, fits, long)) ] in
        record { begins = record { multiple = begins.0; inside = begins.1; room = inl (omega (arith, head, least)) }; only = inl long }

pub fragment-length : (ident : ℕ) (bytes : List ℕ) (mtu at : ℕ) → AreBytes bytes → HasLengths bytes → MayBegin bytes at mtu
    → length (fragment_bytes ident bytes mtu at (next_place bytes at mtu)) ≡ fragment_len bytes mtu at (next_place bytes at mtu)
fragment-length ident bytes mtu at are room begin = by (nat_le (total_len bytes) mtu) refl
  where
    low : at ≤ payload_len_of bytes
    low = elim begin.begins.inside [ inl inner ↦ omega (arith, inner) | inr first ↦ omega (arith, first) ]

    by : (b : Bool) → nat_le (total_len bytes) mtu ≡ b
        → length (cond b (take (total_len bytes) bytes) (cut_bytes ident bytes at (at + cut_len (mtu - cond b 40 48) (payload_len_of bytes - at))))
        ≡ cond b 40 48 + (at + cut_len (mtu - cond b 40 48) (payload_len_of bytes - at) - at)
    by true e =
        let fits : total_len bytes ≤ mtu = grind (arith, nat_tests, e) in
        let first : at ≡ 0 = elim begin.only [ inl long ↦ absurd (omega (arith, long, fits)) | inr zero ↦ zero ] in
        let all : cut_len (mtu - 40) (payload_len_of bytes - at) ≡ payload_len_of bytes = grind (arith, nat_tests, fits, first) in
        length-take-le (total_len bytes) bytes room ∙ omega (arith, all)
    by false e =
        let end = at + cut_len (mtu - 48) (payload_len_of bytes - at) in
        let within = end-within (mtu - 48) (payload_len_of bytes) at low in
        let is = is_fixed bytes (end - at) are (omega (arith, room)) in
        let part = length-part bytes (40 + at) (40 + end) (omega (arith, within, room)) in
        let headers = length-append (fixed_header bytes (end - at)) (own_header ident bytes at end) in
        let whole = length-append (fragment_header ident bytes at end) (slice_range bytes (40 + at) (40 + end)) in
        omega (arith, whole, headers, part, is.long)
