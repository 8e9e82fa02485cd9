-- A part of a payload as its fragment, and the fragments of successive numbers.
use Rattle.std.proofs.Common.{ℕ, suc, zero, ◌≡◌, ◌≤◌, ◌<◌, ◌+◌, ◌-◌, ◌*◌, ◌/◌, ◌%◌, ◌⊎◌, inl, inr, Bool, true, false, cond, nat_le, nat_lt, None, Some, List, [], ◌∷◌, length, slice_index, refl, sym, ap, subst, ◌∙◌, arith}
use Rattle.std.proofs.lemmas.Bool.Decides.{nat_tests}
use Rattle.std.specs.Option.{option_and_then}
use Rattle.app_fragment.proofs.Cuts.{byte_of_part}
use Rattle.app_fragment.proofs.Pieces.{length-part}
use Rattle.app_fragment.specs.Fragments.{AreNumbered, Cut, Fragment, IsPartOf, cut_len, end_of, numbered_place, piece_at, place_after}

-- the fragment has the payload from one place up to another: whole blocks, unless it is the end of the payload
pub record IsPiece (packet : List ℕ) (at next : ℕ) (f : Fragment) : Type 0 where
  pub begins : 8 * f.first ≡ at
  pub more : f.more ≡ nat_lt next (length packet)
  pub long : length f.bytes ≡ next - at
  pub same : (i : ℕ) → i < next - at → slice_index f.bytes i ≡ slice_index packet (at + i)
  pub order : at ≤ next
  pub within : next ≤ length packet
  pub blocks : (next ≡ length packet) ⊎ ((next - at) % 8 ≡ 0)

last_or_more : (next len : ℕ) → next ≤ len → ((nat_lt next len ≡ false) × (next ≡ len)) ⊎ ((nat_lt next len ≡ true) × (next < len))
last_or_more next len within = grind (arith, nat_tests, within)

pub piece-part : (packet : List ℕ) (at next : ℕ) (f : Fragment) → IsPiece packet at next f → IsPartOf f packet
piece-part packet at next f is = record {
  fits = elim (last_or_more next (length packet) is.within) [
    | inl end ↦ record { inside = omega (arith, is.begins, is.long, is.order, is.within); last = λ e. omega (arith, is.begins, is.long, is.order, end.1); blocks = λ e. absurd (cc (is.more, end.0)) }
    | inr more ↦ record {
      inside = omega (arith, is.begins, is.long, is.order, is.within);
      last = λ e. absurd (cc (is.more, more.0));
      blocks = λ e. elim is.blocks [ inl all ↦ absurd (omega (arith, all, more.1)) | inr whole ↦ omega (arith, whole, is.long) ];
    }
  ];
  same = λ p h.
      let i : p - 8 * f.first < next - at = omega (arith, h.0, h.1, is.begins, is.long, is.order) in
      let place : p ≡ at + (p - 8 * f.first) = omega (arith, h.0, is.begins) in
      ap (slice_index packet) place ∙ sym (is.same (p - 8 * f.first) i);
}

pub piece-cuts : (packet : List ℕ) (at next : ℕ) (f : Fragment) (fs : List Fragment) → IsPiece packet at next f → Cut packet next fs → Cut packet at (f ∷ fs)
piece-cuts packet at next f fs is rest =
    let end : end_of f ≡ next = omega (arith, is.begins, is.long, is.order) in
    let more : (f.more ≡ false) ⊎ (end_of f < length packet) = elim (last_or_more next (length packet) is.within) [
      | inl last ↦ inl (is.more ∙ last.0)
      | inr other ↦ inr (omega (arith, end, other.1))
    ] in
    (is.begins, piece-part packet at next f is, more, subst (λ n. Cut packet n fs) (sym end) rest)

-- ---- the fragments of successive numbers

blocks-or-end : (room len at : ℕ) → at ≤ len → (at + cut_len room (len - at) ≡ len) ⊎ (cut_len room (len - at) % 8 ≡ 0)
blocks-or-end room len at low = grind (arith, nat_tests, low)

pub end-within : (room len at : ℕ) → at ≤ len → at + cut_len room (len - at) ≤ len
end-within room len at low = grind (arith, nat_tests, low)

is-piece : (room : ℕ) (payload : List ℕ) (at : ℕ) → at % 8 ≡ 0 → at ≤ length payload
    → IsPiece payload at (at + cut_len room (length payload - at)) (piece_at room payload at)
is-piece room payload at multiple low =
    let n = cut_len room (length payload - at) in
    let within = end-within room (length payload) at low in
    record {
      begins = omega (arith, multiple);
      more = refl;
      long = length-part payload at (at + n) within;
      same = λ i small. byte_of_part payload at (at + n) i small;
      order = omega arith;
      within = within;
      blocks = elim (blocks-or-end room (length payload) at low) [ inl end ↦ inl end | inr whole ↦ inr (omega (arith, whole)) ];
    }

-- the place after this one
after-last : (room len at : ℕ) → nat_lt (at + cut_len room (len - at)) len ≡ false → place_after room len at ≡ None
after-last room len at e = ap (λ t. cond t (Some (at + cut_len room (len - at))) None) e

after-more : (room len at : ℕ) → nat_lt (at + cut_len room (len - at)) len ≡ true → place_after room len at ≡ Some (at + cut_len room (len - at))
after-more room len at e = ap (λ t. cond t (Some (at + cut_len room (len - at))) None) e

-- it is further on, by whole blocks
further : (room len at : ℕ) → (8 ≤ room) ⊎ (len ≤ room) → nat_lt (at + cut_len room (len - at)) len ≡ true → at % 8 ≡ 0
    → (at < at + cut_len room (len - at)) × ((at + cut_len room (len - at)) % 8 ≡ 0) × (at + cut_len room (len - at) < len)
further room len at some e multiple = by (nat_le (len - at) room) refl e
  where
    by : (b : Bool) → nat_le (len - at) room ≡ b → nat_lt (at + cond b (len - at) (room / 8 * 8)) len ≡ true
        → (at < at + cond b (len - at) (room / 8 * 8)) × ((at + cond b (len - at) (room / 8 * 8)) % 8 ≡ 0) × (at + cond b (len - at) (room / 8 * 8) < len)
    by true all more = absurd (grind (arith, nat_tests, all, more))
    by false part more =
        let low : at + room / 8 * 8 < len = grind (arith, nat_tests, more) in
        let long : room < len - at = grind (arith, nat_tests, part) in
        let least : 8 ≤ room = elim some [ inl enough ↦ enough | inr fits ↦ absurd (omega (arith, fits, long)) ] in
        (omega (arith, least), omega (arith, multiple), low)

numbered-from : (fuel room : ℕ) (payload : List ℕ) (number at : ℕ) → (8 ≤ room) ⊎ (length payload ≤ room) → length payload - at < fuel → at % 8 ≡ 0
    → at ≤ length payload → numbered_place room (length payload) number ≡ Some at
    → (fs : List Fragment) × AreNumbered room payload number fs × Cut payload at fs
numbered-from zero room payload number at some low multiple within is = absurd (omega (arith, low))
numbered-from (suc fuel) room payload number at some low multiple within is =
    by (nat_lt (at + cut_len room (length payload - at)) (length payload)) refl (numbered-from fuel room payload (suc number) (at + cut_len room (length payload - at)) some)
  where
    next : numbered_place room (length payload) (suc number) ≡ place_after room (length payload) at
    next = ap (option_and_then (place_after room (length payload))) is

    by : (b : Bool) → nat_lt (at + cut_len room (length payload - at)) (length payload) ≡ b
        → (length payload - (at + cut_len room (length payload - at)) < fuel → (at + cut_len room (length payload - at)) % 8 ≡ 0
        → at + cut_len room (length payload - at) ≤ length payload
        → numbered_place room (length payload) (suc number) ≡ Some (at + cut_len room (length payload - at))
        → (fs : List Fragment) × AreNumbered room payload (suc number) fs × Cut payload (at + cut_len room (length payload - at)) fs)
        → (fs : List Fragment) × AreNumbered room payload number fs × Cut payload at fs
    by true e others =
        let (more, whole, inner) = further room (length payload) at some e multiple in
        let rest = others (omega (arith, low, more, inner)) whole (omega (arith, inner)) (next ∙ after-more room (length payload) at e) in (
          piece_at room payload at ∷ rest.0,
          ((at, is, refl), rest.1),
          piece-cuts payload at (at + cut_len room (length payload - at)) (piece_at room payload at) rest.0 (is-piece room payload at multiple within) rest.2,
        )
    by false e others =
        let last : at + cut_len room (length payload - at) ≡ length payload = grind (arith, nat_tests, e, end-within room (length payload) at within) in (
          piece_at room payload at ∷ [],
          ((at, is, refl), next ∙ after-last room (length payload) at e),
          piece-cuts payload at (at + cut_len room (length payload - at)) (piece_at room payload at) [] (is-piece room payload at multiple within) last,
        )

pub numbered-cut : (room : ℕ) (payload : List ℕ) → (8 ≤ room) ⊎ (length payload ≤ room)
    → (fs : List Fragment) × AreNumbered room payload 0 fs × Cut payload 0 fs
numbered-cut room payload some = numbered-from (suc (length payload)) room payload 0 0 some (omega arith) refl (omega arith) refl
