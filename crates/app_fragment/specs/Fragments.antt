-- Fragments of a packet (RFC 791, section 3.2; RFC 8200, section 4.5), and the packet that they make.
-- Pinned by: `fragments/reassembly`, `FragmentsWorked`
use Rattle.std.specs.Prelude.{◌≡◌, ◌≢◌, ℕ, zero, suc, ◌+◌, ◌-◌, ◌*◌, ◌/◌, ◌%◌, ◌<◌, ◌≤◌, ◌⊎◌, nat_le, nat_lt, if◌then◌else◌, Bool, true, false, Option, None, Some, List, [], ◌∷◌, length, slice_index, slice_range}
use Rattle.std.specs.Option.{option_and_then}
use Rattle.app_fragment.specs.declared.reassembly.Ends.{Ends}

-- ---- fragments

-- A fragment: its offset in blocks of 8 bytes, the flag "more fragments", and its payload.
pub record Fragment : Type 0 where
  pub first : ℕ
  pub more : Bool
  pub bytes : List ℕ

-- the fragment with this offset, flag and payload
abbrev pub fragment : ℕ → Bool → List ℕ → Fragment
fragment first more bytes = record { first = first; more = more; bytes = bytes }

-- the place in the packet where the fragment ends
abbrev pub end_of : Fragment → ℕ
end_of f = 8 * f.first + length f.bytes

-- byte p of the packet is in the fragment
abbrev pub Covers : Fragment → ℕ → Type 0
Covers f p = (8 * f.first ≤ p) × (p < end_of f)

-- byte p of the packet, which is in the fragment
abbrev pub byte_at : Fragment → ℕ → ℕ
byte_at f p = slice_index f.bytes (p - 8 * f.first)

-- block i of the packet, its bytes from 8 * i on, begins in the bytes that are from block `first` on
abbrev pub IsBlockOf : ℕ → List ℕ → ℕ → Type 0
IsBlockOf first bytes i = (first ≤ i) × (8 * i < 8 * first + length bytes)

-- block i of the packet begins in the fragment
abbrev pub HasBlock : Fragment → ℕ → Type 0
HasBlock f i = IsBlockOf f.first f.bytes i

-- the claim is true of each fragment
abbrev pub Each : (Fragment → Type 0) → List Fragment → Type 0
Each P [] = Unit {0}
Each P (f ∷ fs) = P f × Each P fs

-- the claim is true of some fragment
abbrev pub One : (Fragment → Type 0) → List Fragment → Type 0
One P [] = ⊥
One P (f ∷ fs) = P f ⊎ One P fs

-- the fragment is in the list
abbrev pub Among : Fragment → List Fragment → Type 0
Among f fs = One (λ g. f ≡ g) fs

-- no byte of the packet is in both fragments
abbrev pub IsApart : Fragment → Fragment → Type 0
IsApart f g = (p : ℕ) → Covers f p → ¬ Covers g p

-- ---- the packet

-- The fragment fits in a packet with a payload of this length: it ends within it, the last one at its end. All others
-- have whole blocks.
pub record FitsIn (f : Fragment) (len : ℕ) : Type 0 where
  pub inside : end_of f ≤ len
  pub last : f.more ≡ false → end_of f ≡ len
  pub blocks : f.more ≡ true → length f.bytes % 8 ≡ 0

-- the fragment is one of the packet with this payload
pub record IsPartOf (f : Fragment) (packet : List ℕ) : Type 0 where
  pub fits : FitsIn f (length packet)
  pub same : (p : ℕ) → Covers f p → slice_index packet p ≡ byte_at f p

-- The fragments make the packet with this payload: all of them are parts of it, one is the last, and each byte of the
-- payload is in one.
pub record Make (fs : List Fragment) (packet : List ℕ) : Type 0 where
  pub parts : Each (λ f. IsPartOf f packet) fs
  pub ended : One (λ f. f.more ≡ false) fs
  pub whole : (p : ℕ) → p < length packet → One (λ f. Covers f p) fs

-- the fragment and the others are of one packet, and it repeats or does not overlap each of them
abbrev pub Agree : Fragment → List Fragment → Type 0
Agree f fs = (packet : List ℕ) × IsPartOf f packet × Each (λ g. IsPartOf g packet) fs × Each (λ g. IsApart f g ⊎ (f ≡ g)) fs

-- The payload from this place on is cut into these fragments: each begins where the one before it ends, and is the last
-- one or is followed by another.
abbrev pub Cut : List ℕ → ℕ → List Fragment → Type 0
Cut packet at [] = at ≡ length packet
Cut packet at (f ∷ fs) = (8 * f.first ≡ at) × IsPartOf f packet × ((f.more ≡ false) ⊎ (end_of f < length packet)) × Cut packet (end_of f) fs

-- The number of bytes that the next fragment takes of those that are left, if it has room for so many: all of them, or
-- as many whole blocks as fit.
abbrev pub cut_len : ℕ → ℕ → ℕ
cut_len room left = if nat_le left room then left else room / 8 * 8

-- the place in a payload of `len` bytes where the fragment ends that begins at a place, unless it is the last
abbrev pub place_after : ℕ → ℕ → ℕ → Option ℕ
place_after room len at = let end = at + cut_len room (len - at) in if nat_lt end len then Some end else None

-- The place in a payload of `len` bytes where the fragment of this number begins. The first one has number 0 and begins
-- at byte 0, each other where the one before it ends, and none comes after the last.
abbrev pub numbered_place : ℕ → ℕ → ℕ → Option ℕ
numbered_place room len zero = Some 0
numbered_place room len (suc n) = option_and_then (place_after room len) (numbered_place room len n)

-- the fragment that begins at this place of a payload, if each has at most `room` bytes of it
abbrev pub piece_at : ℕ → List ℕ → ℕ → Fragment
piece_at room payload at =
    let end = at + cut_len room (length payload - at) in
    fragment (at / 8) (nat_lt end (length payload)) (slice_range payload at end)

-- the fragment of this number
abbrev pub IsNumbered : ℕ → List ℕ → ℕ → Fragment → Type 0
IsNumbered room payload number f =
    (at : ℕ) × (numbered_place room (length payload) number ≡ Some at) × (f ≡ piece_at room payload at)

-- the fragments from this number on, up to the last one
abbrev pub AreNumbered : ℕ → List ℕ → ℕ → List Fragment → Type 0
AreNumbered room payload number [] = numbered_place room (length payload) number ≡ None
AreNumbered room payload number (f ∷ fs) = IsNumbered room payload number f × AreNumbered room payload (suc number) fs

-- A fragment may begin at this place of a payload of `len` bytes, after a header of `header` bytes: at a multiple of 8
-- within the payload, or at its beginning. The MTU has room for 8 bytes after the header, or for all that are left.
pub record BeginsAt (header len at mtu : ℕ) : Type 0 where
  pub multiple : at % 8 ≡ 0
  pub inside : (at < len) ⊎ (at ≡ 0)
  pub room : (header + 8 ≤ mtu) ⊎ (header + (len - at) ≤ mtu)

-- ---- the memory of one packet that is put together: a buffer, and a byte for each block that says whether it was
-- received (the data buffer and the fragment block bit table of RFC 791, section 3.2)

-- the fragment is in the buffer, and all its blocks count as received
pub record IsIn (buffer received : List ℕ) (f : Fragment) : Type 0 where
  pub blocks : (i : ℕ) → HasBlock f i → slice_index received i ≢ 0
  pub same : (p : ℕ) → Covers f p → slice_index buffer p ≡ byte_at f p

-- all these fragments are in the buffer, and each received block is of one of them
pub record Holds (buffer received : List ℕ) (fs : List Fragment) : Type 0 where
  pub all : Each (IsIn buffer received) fs
  pub only : (i : ℕ) → slice_index received i ≢ 0 → One (λ f. HasBlock f i) fs

-- the fragment has bytes, and whole blocks unless it is the last
pub record IsShaped (f : Fragment) : Type 0 where
  pub filled : 0 < length f.bytes
  pub blocks : f.more ≡ true → length f.bytes % 8 ≡ 0

-- `high` is the greatest end of the fragments, and `len` is the end of the last one, or 0 without one
pub record HasEnds (len high : ℕ) (fs : List Fragment) : Type 0 where
  pub shaped : Each IsShaped fs
  pub below : Each (λ f. end_of f ≤ high) fs
  pub last : Each (λ f. f.more ≡ false → end_of f ≡ len) fs
  pub ended : len ≢ 0 → One (λ f. f.more ≡ false) fs
  pub within : len ≢ 0 → high ≤ len
  pub least : (n : ℕ) → Each (λ f. end_of f ≤ n) fs → high ≤ n

-- one more fragment may end where this one does: no other fragment ends after the last one
pub record EndFits (len high : ℕ) (f : Fragment) : Type 0 where
  pub inner : f.more ≡ true → len ≢ 0 → end_of f ≤ len
  pub same : f.more ≡ false → len ≢ 0 → end_of f ≡ len
  pub above : f.more ≡ false → high ≤ end_of f

-- the memory has exactly these fragments
pub record Assembles (buffer received : List ℕ) (ends : Ends) (fs : List Fragment) : Type 0 where
  pub holds : Holds buffer received fs
  pub reached : HasEnds ends.len ends.high fs

-- the fragment overlaps none of the others, or all its bytes are in the buffer already
abbrev pub IsNewOrRepeated : List ℕ → List ℕ → Fragment → List Fragment → Type 0
IsNewOrRepeated buffer received f fs = Each (IsApart f) fs ⊎ IsIn buffer received f
