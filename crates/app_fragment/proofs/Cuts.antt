-- A fragment that was written, as a part of its packet.
use Rattle.std.proofs.Common.{ℕ, ◌≡◌, ◌≢◌, ◌≤◌, ◌<◌, ◌+◌, ◌-◌, ◌*◌, ◌%◌, ◌⊎◌, ◌↔◌, ◌==◌, inl, inr, Bool, true, false, IfSome, IsSome, None, Option, Some, List, ◌∷◌, ◌++◌, length, drop, get_or, slice_range, refl, sym, ap, subst, ◌∙◌, arith}
use Rattle.std.proofs.lemmas.Bool.Decides.{nat_tests}
use Rattle.std.proofs.lemmas.List.{get_or-drop, get_or-take}
use Rattle.ip_wire.specs.Diagram.{flag}
use Rattle.ip_wire.specs.Field.{field}
use Rattle.ip_wire.specs.Ipv4.{HasLengths, fragment_offset, header_len, more_frags_of, total_len}
use Rattle.ip_wire.specs.Ipv4 as ipv4
use Rattle.ip_wire.proofs.Spelled.{AreBytes}
use Rattle.app_fragment.proofs.Pieces.{IsFragment, is_fragment, length-part}
use Rattle.app_fragment.specs.Fragments.{Covers, Cut, FitsIn, Fragment, IsPartOf, byte_at, end_of}
use Rattle.app_fragment.specs.Ipv4Fragments.{MayBeFragmented, MayBegin, fragment_bytes, fragment_of, has_more, next_place, payload_len, payload_of}
use Rattle.app_fragment.specs.declared.ipv4.Written.{Written}

-- the fragment from place `at` up to `next` of a packet
pub record IsPiece (bytes : List ℕ) (at next : ℕ) (f : Fragment) : Type 0 where
  pub begins : 8 * f.first ≡ fragment_offset bytes + at
  pub more : f.more ≡ has_more bytes next
  pub bytes_of : f.bytes ≡ slice_range bytes (header_len bytes + at) (header_len bytes + next)
  pub long : length f.bytes ≡ next - at

flag-test : (b : Bool) → (flag b == 1) ≡ b
flag-test true = refl
flag-test false = refl

pub is_piece : (ident : Option ℕ) (bytes out : List ℕ) (at next : ℕ) → HasLengths bytes → at % 8 ≡ 0 → at ≤ next → next ≤ payload_len bytes
    → IsFragment ident bytes at next out → IsPiece bytes at next (fragment_of out)
is_piece ident bytes out at next v whole order within f = record {
  begins = omega (arith, f.first);
  more = ap (λ n. n == 1) f.more ∙ flag-test (has_more bytes next);
  bytes_of = f.payload;
  long = ap length f.payload ∙ length-part bytes (header_len bytes + at) (header_len bytes + next) (omega (arith, within, v.within, v.whole)) ∙ omega arith;
}

length-payload : (bytes : List ℕ) → HasLengths bytes → length (payload_of bytes) ≡ payload_len bytes
length-payload bytes v = length-part bytes (header_len bytes) (total_len bytes) v.whole

-- it ends where a packet with MF clear ends, or has MF
pub last_or_more : (bytes : List ℕ) (next : ℕ) → ((has_more bytes next ≡ false) × (next ≡ payload_len bytes) × ((more_frags_of bytes == 1) ≡ false))
    ⊎ ((has_more bytes next ≡ true) × ((next ≢ payload_len bytes) ⊎ ((more_frags_of bytes == 1) ≡ true)))
last_or_more bytes next = grind (arith, nat_tests)

-- whole blocks, unless it is the end of the payload
blocks_or_end : (bytes : List ℕ) (at mtu next : ℕ) → next ≡ next_place bytes at mtu → at ≤ payload_len bytes → (next ≡ payload_len bytes) ⊎ ((next - at) % 8 ≡ 0)
blocks_or_end bytes at mtu next is inside = grind (arith, nat_tests)

pub byte_of_part : (bytes : List ℕ) (a b i : ℕ) → i < b - a → get_or (slice_range bytes a b) i 0 ≡ get_or bytes (a + i) 0
byte_of_part bytes a b i low = get_or-take (b - a) (drop a bytes) i 0 low ∙ get_or-drop a bytes i 0

pub piece_is_part : (bytes whole : List ℕ) (at mtu next : ℕ) (f : Fragment) → HasLengths bytes → at % 8 ≡ 0 → at ≤ next → next ≤ payload_len bytes
    → next ≡ next_place bytes at mtu → IsPiece bytes at next f → IsPartOf (fragment_of bytes) whole → IsPartOf f whole
piece_is_part bytes whole at mtu next f v multiple order within is piece part = record { fits = fits; same = same }
  where
    all : length (payload_of bytes) ≡ payload_len bytes
    all = length-payload bytes v

    inner : end_of f ≤ length whole
    inner = let high : end_of (fragment_of bytes) ≤ length whole = part.fits.inside in omega (arith, piece.begins, piece.long, all)

    final : (has_more bytes next ≡ false) × (next ≡ payload_len bytes) × ((more_frags_of bytes == 1) ≡ false) → end_of f ≡ length whole
    final (clear, end, last) = let high : end_of (fragment_of bytes) ≡ length whole = part.fits.last last in omega (arith, piece.begins, piece.long, all)

    blocks : ((next ≢ payload_len bytes) ⊎ ((more_frags_of bytes == 1) ≡ true)) → length f.bytes % 8 ≡ 0
    blocks why = elim (blocks_or_end bytes at mtu next is (omega arith)) [
      | inr even ↦ omega (arith, piece.long)
      | inl end ↦ elim why [
        | inl other ↦ absurd (other end)
        | inr more ↦ let even : length (payload_of bytes) % 8 ≡ 0 = part.fits.blocks more in omega (arith, piece.long, all)
      ]
    ]

    fits : FitsIn f (length whole)
    fits = elim (last_or_more bytes next) [
      | inl end ↦ record { inside = inner; last = λ e. final end; blocks = λ e. absurd (cc (piece.more, end.0)) }
      | inr more ↦ record { inside = inner; last = λ e. absurd (cc (piece.more, more.0)); blocks = λ e. blocks more.1 }
    ]

    same : (p : ℕ) → Covers f p → get_or whole p 0 ≡ byte_at f p
    same p h =
        let low : fragment_offset bytes + at ≤ p = omega (arith, piece.begins) in
        let high : p < fragment_offset bytes + next = omega (arith, piece.begins, piece.long) in
        let here : p - 8 * f.first < (header_len bytes + next) - (header_len bytes + at) = omega (arith, piece.begins) in
        let there : p - 8 * field bytes 51 13 < total_len bytes - header_len bytes = omega arith in
        let place : header_len bytes + (p - 8 * field bytes 51 13) ≡ header_len bytes + at + (p - 8 * f.first) = omega (arith, piece.begins) in
        part.same p (omega arith, omega (arith, all))
        ∙ byte_of_part bytes (header_len bytes) (total_len bytes) (p - 8 * field bytes 51 13) there
        ∙ ap (λ i. get_or bytes i 0) place
        ∙ sym (ap (λ xs. get_or xs (p - 8 * f.first) 0) piece.bytes_of ∙ byte_of_part bytes (header_len bytes + at) (header_len bytes + next) (p - 8 * f.first) here)

-- a packet that is no fragment is the only fragment of its payload
whole_is_part : (bytes : List ℕ) → ipv4.is_fragment bytes ≡ false → IsPartOf (fragment_of bytes) (payload_of bytes)
whole_is_part bytes whole =
    let start : field bytes 51 13 ≡ 0 = grind (arith, nat_tests) in
    let clear : (more_frags_of bytes == 1) ≡ false = grind (arith, nat_tests) in
    record {
      fits = record { inside = omega arith; last = λ e. omega arith; blocks = λ e. absurd (cc) };
      same = λ p h. let at : p - 8 * field bytes 51 13 ≡ p = omega arith in ap (λ i. get_or (payload_of bytes) i 0) (sym at);
    }

pub piece_cuts : (bytes : List ℕ) (at mtu next : ℕ) (f : Fragment) (fs : List Fragment) → HasLengths bytes → ipv4.is_fragment bytes ≡ false → at % 8 ≡ 0 → at ≤ next
    → next ≤ payload_len bytes → next ≡ next_place bytes at mtu → IsPiece bytes at next f → Cut (payload_of bytes) next fs → Cut (payload_of bytes) at (f ∷ fs)
piece_cuts bytes at mtu next f fs v whole multiple order within is piece rest =
    let start : fragment_offset bytes ≡ 0 = grind (arith, nat_tests) in
    let clear : (more_frags_of bytes == 1) ≡ false = grind (arith, nat_tests) in
    let end : end_of f ≡ next = omega (arith, piece.begins, piece.long) in
    let more : (f.more ≡ false) ⊎ (end_of f < length (payload_of bytes)) = elim (last_or_more bytes next) [
      | inl last ↦ inl (piece.more ∙ last.0)
      | inr other ↦ elim other.1 [
        | inl short ↦ inr (omega (arith, length-payload bytes v))
        | inr set ↦ absurd (cc)
      ]
    ] in (
      omega (arith, piece.begins),
      piece_is_part bytes (payload_of bytes) at mtu next f v multiple order within is piece (whole_is_part bytes whole),
      more,
      subst (λ n. Cut (payload_of bytes) n fs) (sym end) rest,
    )

pub piece_covers : (bytes : List ℕ) (at next : ℕ) (f : Fragment) → at ≤ next → IsPiece bytes at next f
    → (p : ℕ) → Covers f p ↔ ((fragment_offset bytes + at ≤ p) × (p < fragment_offset bytes + next))
piece_covers bytes at next f order piece p = (
  λ h. (omega (arith, piece.begins, h.0), omega (arith, piece.begins, piece.long, h.1)),
  λ h. (omega (arith, piece.begins, h.0), omega (arith, piece.begins, piece.long, h.1)),
)

pub piece_last : (bytes : List ℕ) (at next : ℕ) (f : Fragment) → IsPiece bytes at next f
    → (f.more ≡ false) ↔ (((more_frags_of bytes == 1) ≡ false) × (next ≡ payload_len bytes))
piece_last bytes at next f piece = elim (last_or_more bytes next) [
  | inl end ↦ (λ e. (end.2, end.1), λ e. piece.more ∙ end.0)
  | inr more ↦ (λ e. absurd (cc (piece.more, more.0)), λ e. elim more.1 [ inl other ↦ absurd (other e.1) | inr set ↦ absurd (cc (set, e.0)) ])
]

-- ---- what the call wrote

-- a fragment ends after it begins, and in the payload
pub next-order : (bytes : List ℕ) (at mtu : ℕ) → MayBegin bytes at mtu → (at ≤ next_place bytes at mtu) × (next_place bytes at mtu ≤ payload_len bytes)
next-order bytes at mtu begins = grind (arith, nat_tests, begins.inside, begins.room)

-- the bytes begin with the fragment that the call promises
pub record IsWritten (ident : Option ℕ) (bytes : List ℕ) (at mtu next : ℕ) (new : List ℕ) : Type 0 where
  pub rest : List ℕ
  pub same : new ≡ fragment_bytes ident bytes at next ++ rest
  pub lengths : HasLengths bytes
  pub multiple : at % 8 ≡ 0
  pub order : at ≤ next
  pub within : next ≤ payload_len bytes
  pub is : next ≡ next_place bytes at mtu
  pub piece : IsPiece bytes at next (fragment_of new)

written : (ident : Option ℕ) (bytes old new : List ℕ) (at mtu len next : ℕ) → AreBytes bytes → MayBeFragmented ident bytes mtu → MayBegin bytes at mtu
    → next ≡ next_place bytes at mtu → new ≡ fragment_bytes ident bytes at next ++ drop len old → IsWritten ident bytes at mtu next new
written ident bytes old new at mtu len next are may begins is e =
    let order : at ≤ next = omega (arith, (next-order bytes at mtu begins).0) in
    let within : next ≤ payload_len bytes = omega (arith, (next-order bytes at mtu begins).1) in
    let f = subst (IsFragment ident bytes at next) (sym e) (is_fragment ident bytes (drop len old) at next are may.valid.lengths order within may.within) in
    record { rest = drop len old; same = e; lengths = may.valid.lengths; multiple = begins.multiple; order = order; within = within; is = is; piece = is_piece ident bytes new at next may.valid.lengths begins.multiple order within f }

pub call-writes : (r : Option Written) (ident : Option ℕ) (bytes old new : List ℕ) (at mtu : ℕ) → AreBytes bytes
    → (IsSome r → MayBeFragmented ident bytes mtu × MayBegin bytes at mtu)
    → IfSome r (λ w. w.next ≡ next_place bytes at mtu) → IfSome r (λ w. new ≡ fragment_bytes ident bytes at w.next ++ drop w.len old)
    → IfSome r (λ w. IsWritten ident bytes at mtu w.next new)
call-writes None ident bytes old new at mtu are accepted next is = next
call-writes (Some w) ident bytes old new at mtu are accepted next is =
    let may = accepted refl in written ident bytes old new at mtu w.len w.next are may.0 may.1 next is
