-- A fragment of an IPv6 packet that was written, as a part of its payload.
use Rattle.std.proofs.Common.{ℕ, ◌≡◌, ◌≤◌, ◌<◌, ◌+◌, ◌-◌, ◌*◌, ◌/◌, ◌%◌, ◌^◌, ◌⊎◌, ◌==◌, inl, inr, not, Bool, true, false, cond, nat_le, nat_lt, IfSome, IsSome, None, Option, Some, List, [], ◌∷◌, ◌++◌, length, drop, take, slice_index, slice_range, refl, sym, ap, subst, ◌∙◌, arith, append_assoc, length-append}
use Rattle.std.proofs.lemmas.Bool.Decides.{nat_tests}
use Rattle.std.proofs.lemmas.List.{drop_at, get_or-take, get_or_append_left, length-take-le, take_at}
use Rattle.ip_wire.specs.Field.{IsOutside, bit, field, with_field}
use Rattle.ip_wire.specs.Ipv6.{HasLengths, ip_version_of, payload_len_of, payload_of, total_len}
use Rattle.ip_wire.specs.Ipv6Fragment.{flag}
use Rattle.ip_wire.proofs.ByteLists.{AreBytes-take}
use Rattle.ip_wire.proofs.Cells.{cells-all}
use Rattle.ip_wire.proofs.Spelled.{AreBytes}
use Rattle.ip_wire.proofs.Written.{AreBytes-with_field, bit_with_field_other, length_with_field}
use Rattle.app_fragment.proofs.Cuts.{byte_of_part}
use Rattle.app_fragment.proofs.Ipv6Headers.{IsValid, cut-joined, cut-valid, is_fixed}
use Rattle.app_fragment.proofs.NumberedCuts.{IsPiece, piece-cuts}
use Rattle.app_fragment.proofs.Pieces.{length-part}
use Rattle.app_fragment.proofs.Versions.{six}
use Rattle.app_fragment.specs.Fragments.{Cut, Fragment}
use Rattle.app_fragment.specs.Ipv4Fragments as v4
use Rattle.app_fragment.specs.Ipv6Fragments.{IsCommon, MayBeFragmented, MayBegin, cut_bytes, fixed_header, fragment_bytes, next_place, own_header}
use Rattle.app_fragment.specs.Parts.{IsIpv6, fragment_of, ipv6_fragment}
use Rattle.app_fragment.specs.declared.ipv4.Written.{Written}

-- ---- the fragment header

-- the fields of a fragment header of these bytes
record Fields (a b c d e f g : ℕ) (out : List ℕ) : Type 0 where
  next : field out 320 8 ≡ a % 256
  reserved : field out 328 8 ≡ 0
  first : field out 336 13 ≡ (256 * b + c) / 8 % 8192
  bits : field out 349 2 ≡ c / 2 % 4
  more : field out 351 1 ≡ c % 2
  ident : field out 352 32 ≡ (16777216 * d + 65536 * e + 256 * f + g) % 4294967296

fields : (h tail : List ℕ) (a b c d e f g : ℕ) → length h ≡ 40 → b < 256 → c < 256 → Fields a b c d e f g (h ++ ((a ∷ 0 ∷ b ∷ c ∷ d ∷ e ∷ f ∷ g ∷ []) ++ tail))
fields h tail a b c d e f g long high low = rw (cells-all 40 h long) (record { next = omega arith; reserved = refl; first = omega arith; bits = omega (arith, low); more = omega arith; ident = omega arith })

-- what the headers of a fragment say
pub record IsHeaded (ident : ℕ) (bytes : List ℕ) (at next : ℕ) (out : List ℕ) : Type 0 where
  pub own : field out 320 8 ≡ field bytes 48 8
  pub reserved : (field out 328 8 ≡ 0) × (field out 349 2 ≡ 0)
  pub first : field out 336 13 ≡ at / 8
  pub more : (field out 351 1 == 1) ≡ not (next == payload_len_of bytes)
  pub ident_of : field out 352 32 ≡ ident

flag-test : (b : Bool) → (flag b == 1) ≡ b
flag-test true = refl
flag-test false = refl

flag-low : (b : Bool) → flag b < 2
flag-low true = omega arith
flag-low false = omega arith

pub headed : (ident : ℕ) (bytes rest : List ℕ) (at next : ℕ) → AreBytes bytes → 40 ≤ length bytes → at ≤ 65535 → ident < 4294967296
    → IsHeaded ident bytes at next (cut_bytes ident bytes at next ++ rest)
headed ident bytes rest at next are room low small =
    let more = not (next == payload_len_of bytes) in
    let o = at / 8 % 8192 * 8 + flag (not (next == payload_len_of bytes)) in
    let last = flag-low (not (next == payload_len_of bytes)) in
    let is = fields (fixed_header bytes (next - at)) (slice_range bytes (40 + at) (40 + next) ++ rest) (field bytes 48 8)
    (o / 256 % 256) (o % 256) (ident / 16777216 % 256) (ident / 65536 % 256) (ident / 256 % 256) (ident % 256) (is_fixed bytes (next - at) are room).long (omega arith) (omega arith) in
    subst (IsHeaded ident bytes at next) (sym (cut-joined ident bytes rest at next)) (record {
      own = is.next ∙ omega arith;
      reserved = (is.reserved, is.bits ∙ omega (arith, last));
      first = is.first ∙ omega (arith, last, low);
      more = ap (λ n. n == 1) (is.more ∙ omega (arith, last)) ∙ flag-test (not (next == payload_len_of bytes));
      ident_of = is.ident ∙ omega (arith, small);
    })

-- ---- the fixed header

bit-fixed : (bytes rest : List ℕ) (len i : ℕ) → AreBytes bytes → 40 ≤ length bytes → i < 320 → IsCommon i → bit (fixed_header bytes len ++ rest) i ≡ bit bytes i
bit-fixed bytes rest len i are room low out =
    let a = take 40 bytes in
    let b = with_field (take 40 bytes) 32 16 (8 + len) in
    let a-long : length (take 40 bytes) ≡ 40 = length-take-le 40 bytes room in
    let a-are : AreBytes (take 40 bytes) = AreBytes-take 40 bytes are in
    let b-long : length (with_field (take 40 bytes) 32 16 (8 + len)) ≡ 40 = length_with_field a 32 16 (8 + len) (omega arith) (omega (arith, a-long)) ∙ a-long in
    let b-are : AreBytes (with_field (take 40 bytes) 32 16 (8 + len)) = AreBytes-with_field a 32 16 (8 + len) a-are (omega arith) (omega (arith, a-long)) in
    let c-long = length_with_field b 48 8 44 (omega arith) (omega (arith, b-long)) in
    ap (λ x. x / 2 ^ (7 - i % 8) % 2) (get_or_append_left (fixed_header bytes len) rest 0 (i / 8) (omega (arith, low, c-long, b-long)))
    ∙ bit_with_field_other b 48 8 44 i b-are (omega arith) (omega (arith, b-long)) (part 48 8 (omega arith) (omega arith) out)
    ∙ bit_with_field_other a 32 16 (8 + len) i a-are (omega arith) (omega (arith, a-long)) (part 32 16 (omega arith) (omega arith) out)
    ∙ ap (λ x. x / 2 ^ (7 - i % 8) % 2) (get_or-take 40 bytes (i / 8) 0 (omega (arith, low)))
  where
    part : (first width : ℕ) → 32 ≤ first → first + width ≤ 56 → IsOutside 32 24 i → IsOutside first width i
    part first width least most (inl before) = inl (omega (arith, before, least))
    part first width least most (inr after) = inr (omega (arith, after, most))

-- ---- what the call wrote

-- the bytes begin with the fragment of a packet that is cut
pub record IsWritten (ident : ℕ) (bytes : List ℕ) (at mtu next : ℕ) (new : List ℕ) : Type 0 where
  pub rest : List ℕ
  pub same : new ≡ cut_bytes ident bytes at next ++ rest
  pub lengths : HasLengths bytes
  pub six : ip_version_of bytes ≡ 6
  pub multiple : at % 8 ≡ 0
  pub order : at ≤ next
  pub within : next ≤ payload_len_of bytes
  pub small : 8 + (next - at) < 65536
  pub blocks : (next ≡ payload_len_of bytes) ⊎ ((next - at) % 8 ≡ 0)

-- where the fragment ends
record Ends (bytes : List ℕ) (at mtu next : ℕ) : Type 0 where
  order : at ≤ next
  within : next ≤ payload_len_of bytes
  small : 8 + (next - at) < 65536
  blocks : (next ≡ payload_len_of bytes) ⊎ ((next - at) % 8 ≡ 0)

ends : (bytes : List ℕ) (at mtu next : ℕ) → mtu < total_len bytes → MayBegin bytes at mtu → next ≡ next_place bytes at mtu → Ends bytes at mtu next
ends bytes at mtu next long begin is = by (nat_le (total_len bytes) mtu) refl (nat_le (payload_len_of bytes - at) (mtu - 48)) refl
  where
    inside : at ≤ payload_len_of bytes
    inside = elim begin.begins.inside [ inl low ↦ omega (arith, low) | inr first ↦ omega (arith, first) ]

    by : (b : Bool) → nat_le (total_len bytes) mtu ≡ b → (d : Bool) → nat_le (payload_len_of bytes - at) (mtu - 48) ≡ d → Ends bytes at mtu next
    by true e d f = absurd (grind (arith, nat_tests, e, long))
    by false e d f =
        let room : mtu - 48 ≤ 65527 = omega (arith, long) in
        let place : next ≡ at + cond d (payload_len_of bytes - at) ((mtu - 48) / 8 * 8) =
        is ∙ ap (λ t. at + cond (nat_le (payload_len_of bytes - at) (mtu - cond t 40 48)) (payload_len_of bytes - at) ((mtu - cond t 40 48) / 8 * 8)) e
        ∙ ap (λ t. at + cond t (payload_len_of bytes - at) ((mtu - 48) / 8 * 8)) f in
        last d f place
      where
        last : (d : Bool) → nat_le (payload_len_of bytes - at) (mtu - 48) ≡ d → next ≡ at + cond d (payload_len_of bytes - at) ((mtu - 48) / 8 * 8) → Ends bytes at mtu next
        last true f place =
            let fits : payload_len_of bytes - at ≤ mtu - 48 = grind (arith, nat_tests, f) in
            record { order = omega (arith, place); within = omega (arith, place, inside); small = omega (arith, place, fits, long); blocks = inl (omega (arith, place, inside)) }
        last false f place =
            let more : mtu - 48 < payload_len_of bytes - at = grind (arith, nat_tests, f) in
            record { order = omega (arith, place); within = omega (arith, place, more); small = omega (arith, place, more, long); blocks = inr (omega (arith, place)) }

written : (ident : ℕ) (bytes old new : List ℕ) (at mtu len next : ℕ) → mtu < total_len bytes → MayBeFragmented bytes mtu → MayBegin bytes at mtu
    → next ≡ next_place bytes at mtu → new ≡ fragment_bytes ident bytes mtu at next ++ drop len old → IsWritten ident bytes at mtu next new
written ident bytes old new at mtu len next long may begin is e =
    let cut : nat_le (total_len bytes) mtu ≡ false = grind (arith, nat_tests, long) in
    let end = ends bytes at mtu next long begin is in
    record {
      rest = drop len old;
      same = e ∙ ap (λ t. cond t (take (total_len bytes) bytes) (cut_bytes ident bytes at next) ++ drop len old) cut;
      lengths = may.lengths;
      six = may.version;
      multiple = begin.begins.multiple;
      order = end.order;
      within = end.within;
      small = end.small;
      blocks = end.blocks;
    }

pub call-writes : (r : Option Written) (ident : ℕ) (bytes old new : List ℕ) (at mtu : ℕ) → mtu < total_len bytes
    → (IsSome r → MayBeFragmented bytes mtu × MayBegin bytes at mtu)
    → IfSome r (λ w. w.next ≡ next_place bytes at mtu) → IfSome r (λ w. new ≡ fragment_bytes ident bytes mtu at w.next ++ drop w.len old)
    → IfSome r (λ w. IsWritten ident bytes at mtu w.next new)
call-writes None ident bytes old new at mtu long accepted next is = next
call-writes (Some w) ident bytes old new at mtu long accepted next is =
    let may = accepted refl in written ident bytes old new at mtu w.len w.next long may.0 may.1 next is

-- ---- what follows

pub bit-written : (ident : ℕ) (bytes new : List ℕ) (at mtu next i : ℕ) → AreBytes bytes → IsWritten ident bytes at mtu next new → i < 320 → IsCommon i → bit new i ≡ bit bytes i
bit-written ident bytes new at mtu next i are w low out =
    ap (λ l. bit l i) (w.same ∙ cut-joined ident bytes w.rest at next) ∙ bit-fixed bytes _ (next - at) i are (omega (arith, w.lengths)) low out

pub written-headed : (ident : ℕ) (bytes new : List ℕ) (at mtu next : ℕ) → AreBytes bytes → ident < 4294967296 → IsWritten ident bytes at mtu next new → IsHeaded ident bytes at next new
written-headed ident bytes new at mtu next are small w =
    subst (IsHeaded ident bytes at next) (sym w.same) (headed ident bytes w.rest at next are (omega (arith, w.lengths)) (omega (arith, w.order, w.within)) small)

pub written-valid : (ident : ℕ) (bytes new : List ℕ) (at mtu next : ℕ) → AreBytes bytes → IsWritten ident bytes at mtu next new → IsValid (48 + (next - at)) new
written-valid ident bytes new at mtu next are w =
    subst (IsValid (48 + (next - at))) (sym w.same) (cut-valid ident bytes w.rest at next are w.lengths w.six w.order w.within w.small)

-- the next header is that of a fragment header
pub next-header : (ident : ℕ) (bytes new : List ℕ) (at mtu next : ℕ) → AreBytes bytes → IsWritten ident bytes at mtu next new → field new 48 8 ≡ 44
next-header ident bytes new at mtu next are w =
    let is = is_fixed bytes (next - at) are (omega (arith, w.lengths)) in
    let h = fixed_header bytes (next - at) in
    let tail = own_header ident bytes at next ++ (slice_range bytes (40 + at) (40 + next) ++ w.rest) in
    let front : slice_index (h ++ tail) 6 ≡ slice_index h 6 = get_or_append_left h tail 0 6 (omega (arith, is.long)) in
    ap (λ l. field l 48 8) (w.same ∙ cut-joined ident bytes w.rest at next) ∙ omega (arith, front, is.next_header)

pub is-ipv6 : (ident : ℕ) (bytes new : List ℕ) (at mtu next : ℕ) → AreBytes bytes → IsWritten ident bytes at mtu next new → IsIpv6 new
is-ipv6 ident bytes new at mtu next are w =
    let valid = written-valid ident bytes new at mtu next are w in
    record { lengths = valid.lengths; version = valid.version; next_header = next-header ident bytes new at mtu next are w; whole = omega (arith, valid.total) }

-- the payload after the headers
payload-written : (ident : ℕ) (bytes new : List ℕ) (at mtu next : ℕ) → AreBytes bytes → IsWritten ident bytes at mtu next new
    → slice_range new 48 (total_len new) ≡ slice_range bytes (40 + at) (40 + next)
payload-written ident bytes new at mtu next are w =
    let h = fixed_header bytes (next - at) ++ own_header ident bytes at next in
    let p = slice_range bytes (40 + at) (40 + next) in
    let is = is_fixed bytes (next - at) are (omega (arith, w.lengths)) in
    let long : length (fixed_header bytes (next - at) ++ own_header ident bytes at next) ≡ 48 = length-append (fixed_header bytes (next - at)) (own_header ident bytes at next) ∙ ap (λ n. n + 8) is.long in
    let piece : length (slice_range bytes (40 + at) (40 + next)) ≡ next - at = length-part bytes (40 + at) (40 + next) (omega (arith, w.within, w.lengths)) ∙ omega arith in
    let valid = written-valid ident bytes new at mtu next are w in
    let count : total_len new - 48 ≡ next - at = omega (arith, valid.total) in
    (λ i. take (count i) (drop 48 ((w.same ∙ append_assoc h p w.rest) i)))
    ∙ ap (take (next - at)) (drop_at h (p ++ w.rest) 48 long) ∙ take_at p w.rest (next - at) piece

more-test : (next len : ℕ) → next ≤ len → not (next == len) ≡ nat_lt next len
more-test next len low = grind (arith, nat_tests, low)

pub is-piece : (ident : ℕ) (bytes new : List ℕ) (at mtu next : ℕ) → AreBytes bytes → ident < 4294967296 → IsWritten ident bytes at mtu next new
    → IsPiece (payload_of bytes) at next (ipv6_fragment new)
is-piece ident bytes new at mtu next are small w =
    let is = written-headed ident bytes new at mtu next are small w in
    let payload = payload-written ident bytes new at mtu next are w in
    let whole : length (payload_of bytes) ≡ payload_len_of bytes = length-part bytes 40 (total_len bytes) w.lengths ∙ omega arith in
    let piece : length (slice_range bytes (40 + at) (40 + next)) ≡ next - at = length-part bytes (40 + at) (40 + next) (omega (arith, w.within, w.lengths)) ∙ omega arith in
    record {
      begins = omega (arith, is.first, w.multiple);
      more = is.more ∙ more-test next (payload_len_of bytes) w.within ∙ ap (nat_lt next) (sym whole);
      long = ap length payload ∙ piece;
      same = λ i low.
          ap (λ l. slice_index l i) payload ∙ byte_of_part bytes (40 + at) (40 + next) i (omega (arith, low))
          ∙ ap (slice_index bytes) (omega arith) ∙ sym (byte_of_part bytes 40 (total_len bytes) (at + i) (omega (arith, low, w.within)));
      order = w.order;
      within = omega (arith, whole, w.within);
      blocks = elim w.blocks [ inl end ↦ inl (end ∙ sym whole) | inr even ↦ inr even ];
    }

pub written-cuts : (ident : ℕ) (bytes new : List ℕ) (at mtu next : ℕ) (fs : List Fragment) → AreBytes bytes → ident < 4294967296 → IsWritten ident bytes at mtu next new
    → Cut (payload_of bytes) next fs → Cut (payload_of bytes) at (fragment_of new ∷ fs)
written-cuts ident bytes new at mtu next fs are small w rest =
    let valid = written-valid ident bytes new at mtu next are w in
    subst (λ f. Cut (payload_of bytes) at (f ∷ fs)) (sym (six new (v4.fragment_of new) (ipv6_fragment new) valid.version))
    (piece-cuts (payload_of bytes) at next (ipv6_fragment new) fs (is-piece ident bytes new at mtu next are small w) rest)

-- ---- a packet that fits

pub call-copies : (r : Option Written) (ident : ℕ) (bytes old new : List ℕ) (mtu : ℕ) → total_len bytes ≤ mtu
    → IfSome r (λ w. new ≡ fragment_bytes ident bytes mtu 0 w.next ++ drop w.len old) → IfSome r (λ w. new ≡ take (total_len bytes) bytes ++ drop w.len old)
call-copies None ident bytes old new mtu fits is = is
call-copies (Some w) ident bytes old new mtu fits is =
    let whole : nat_le (total_len bytes) mtu ≡ true = grind (arith, nat_tests, fits) in
    is ∙ ap (λ t. cond t (take (total_len bytes) bytes) (cut_bytes ident bytes 0 w.next) ++ drop w.len old) whole
