-- A checksum that covers none of the bytes that are replaced stays, and so do all bytes if none is replaced.
use Rattle.std.proofs.Common.{ℕ, ◌≡◌, ◌∙◌, ◌⊎◌, ◌+◌, ◌-◌, ◌/◌, ◌%◌, ◌<◌, ◌≤◌, ◌↔◌, Bool, IfSome, IsSomeAnd, List, [], None, Option, Some, add-zero, ap, arith, false, if◌then◌else◌, inl, inr, is_some, length, max, min, nat_le, refl, slice_index, slice_range, sym, true, unwrap_or}
use Rattle.std.proofs.lemmas.Bool.{cases_eq, cases_lt}
use Rattle.std.proofs.lemmas.Bool.Decides.{nat_tests}
use Rattle.std.proofs.lemmas.List.{ext_get_or}
use Rattle.std.specs.Option.{option_and_then}
use Rattle.byteorder.specs.Endian.{big_bytes}
use Rattle.ip_wire.proofs.Spelled.{AreBytes}
use Rattle.ip_wire.specs.Types.{IpProtocol, IpVersion}
use Rattle.ip_wire.specs.WordSum.{updated}
use Rattle.ip_wire.specs.declared.IpProtocol.TheVariants as protocol
use Rattle.ip_wire.specs.declared.IpVersion.TheVariants as version
use Rattle.app_edit.proofs.Covers.{above}
use Rattle.app_edit.proofs.Left.{left-protocol}
use Rattle.app_edit.proofs.PlacesStay.{edited-length}
use Rattle.app_edit.proofs.Stays.{addresses-order, header-length, least-end}
use Rattle.app_edit.proofs.Sums.{word-fits, word-is}
use Rattle.app_edit.proofs.Totals.{index-inside, index-outside, written-length}
use Rattle.app_edit.specs.Checksums.{sum_at}
use Rattle.app_edit.specs.Edited.{allows, bytes_set, can_be_left, edited, header_checksum, is_left, over_addresses, transport_checksum, updated_by, updated_checksum, updated_over, with_header_checksum, with_transport_checksum, with_word, word_at, written}
use Rattle.app_edit.specs.Outside.{AreOutside, BesideHeader, BesideTransport, IsOutside, OutsideHeaderChecksum, OutsideTransportChecksum}
use Rattle.app_edit.specs.Places.{Holds, HoldsCarried, addresses_end, addresses_start, checksum_place, places_of}
use Rattle.app_edit.specs.declared.places.Carried.{Carried}
use Rattle.app_edit.specs.declared.places.Carried.TheVariants as carried
use Rattle.app_edit.specs.declared.places.Places.{Places}
use Rattle.app_edit.specs.declared.places.Segment.{Segment}
use Rattle.app_edit.specs.declared.replace.Offload.{Offload}

-- ---- a checksum that covers no replaced byte

pub not-covered : (update : ℕ → ℕ → ℕ → ℕ) (field first last at : ℕ) (before after : List ℕ) → AreOutside first last at (at + length after)
    → updated_over update field first last at before after ≡ field
not-covered update field first last at before after out =
    let from = max at first in
    let to = min (at + length after) last in
    let both = update field (sum_at from (slice_range before (from - at) (to - at))) (sum_at from (slice_range after (from - at) (to - at))) in
    elim (cases_lt from to) [
      | inl meet ↦ elim (out from (omega arith) (omega (arith, meet))) [
        | inl low ↦ absurd (omega (arith, low))
        | inr high ↦ absurd (omega (arith, high, meet))
      ]
      | inr none ↦ ap (λ (b : Bool). if b then both else field) (above from to none)
    ]

-- ---- a word that is written over itself

pub word-byte : (zs xs : List ℕ) (c i : ℕ) → AreBytes xs → c + 2 ≤ length zs → c ≤ i → i < c + 2 → slice_index (with_word zs c (word_at xs c)) i ≡ slice_index xs i
word-byte zs xs c i are room low high = elim (cases_eq i c) [
  | inl here ↦
      let is : i ≡ c + 0 = omega (arith, here) in
      ap (slice_index (with_word zs c w)) is ∙ index-inside zs (big_bytes 2 w) c 0 room (omega arith) ∙ first ∙ ap (slice_index xs) (sym here)
  | inr next ↦
      let is : i ≡ c + 1 = omega (arith, low, high, next) in
      ap (slice_index (with_word zs c w)) is ∙ index-inside zs (big_bytes 2 w) c 1 room (omega arith) ∙ second ∙ ap (slice_index xs) (sym is)
]
  where
    w : ℕ
    w = word_at xs c

    first : w / 256 % 256 ≡ slice_index xs c
    first = omega (arith, word-is xs c, are c, are (c + 1))

    second : w % 256 ≡ slice_index xs (c + 1)
    second = omega (arith, word-is xs c, are c, are (c + 1))

kept-word : (zs xs : List ℕ) (c i : ℕ) → AreBytes xs → c + 2 ≤ length zs → slice_index zs i ≡ slice_index xs i → slice_index (with_word zs c (word_at xs c)) i ≡ slice_index xs i
kept-word zs xs c i are room same = elim (cases_lt i c) [
  | inl before ↦ index-outside zs (big_bytes 2 (word_at xs c)) c i room (inl before) ∙ same
  | inr from ↦ elim (cases_lt i (c + 2)) [
    | inl to ↦ word-byte zs xs c i are room from to
    | inr after ↦ index-outside zs (big_bytes 2 (word_at xs c)) c i room (inr after) ∙ same
  ]
]

-- ---- a byte beside the bytes that are replaced

header-byte : (v : IpVersion) (xs zs bytes : List ℕ) (start at i : ℕ) → AreBytes xs → 26 ≤ length zs
    → OutsideHeaderChecksum v i ⊎ BesideHeader v start at (at + length bytes) → slice_index zs i ≡ slice_index xs i
    → slice_index (with_header_checksum v zs (header_checksum v start xs at bytes)) i ≡ slice_index xs i
header-byte version.Ipv4 xs zs bytes start at i are room (inl out) same = index-outside zs (big_bytes 2 (header_checksum version.Ipv4 start xs at bytes)) 24 i room out ∙ same
header-byte version.Ipv4 xs zs bytes start at i are room (inr beside) same =
    ap (λ n. slice_index (with_word zs 24 n) i) (not-covered updated (word_at xs 24) 14 start at (slice_range xs at (at + length bytes)) bytes beside)
    ∙ kept-word zs xs 24 i are room same
header-byte version.Ipv6 xs zs bytes start at i are room beside same = same

pub over-kept : (q : IpProtocol) (v : IpVersion) (field at : ℕ) (before after : List ℕ) → (q ≡ protocol.Icmp) ⊎ AreOutside (addresses_start v) (addresses_end v) at (at + length after)
    → over_addresses q v field at before after ≡ field
over-kept protocol.Icmp v field at before after out = refl
over-kept q v field at before after (inl icmp) = absurd (cc)
over-kept q v field at before after (inr out) = not-covered (updated_by q) field (addresses_start v) (addresses_end v) at before after out

pub transport-kept : (o : Offload) (v : IpVersion) (s : Segment) (xs bytes : List ℕ) (at : ℕ) → AreBytes xs → BesideTransport (carried.Segment s) v at (at + length bytes)
    → updated_checksum o v s xs at (slice_range xs at (at + length bytes)) bytes ≡ word_at xs (checksum_place s)
transport-kept o v s xs bytes at are beside = by-test (is_left o v s xs) refl
  where
    field : ℕ
    field = word_at xs (checksum_place s)

    before : List ℕ
    before = slice_range xs at (at + length bytes)

    by-test : (b : Bool) → is_left o v s xs ≡ b
        → (if b then 65535 - updated_over updated (65535 - field) (addresses_start v) (addresses_end v) at before bytes
        else updated_over (updated_by s.protocol) (over_addresses s.protocol v field at before bytes) s.start s.end at before bytes) ≡ field
    by-test false here =
        not-covered (updated_by s.protocol) (over_addresses s.protocol v field at before bytes) s.start s.end at before bytes beside.0
        ∙ over-kept s.protocol v field at before bytes beside.1
    by-test true left = elim beside.1 [
      | inl icmp ↦ let none : false ≡ true = sym (ap can_be_left icmp) ∙ left-protocol o v s xs left in absurd (cc)
      | inr out ↦
          ap (λ n. 65535 - n) (not-covered updated (65535 - field) (addresses_start v) (addresses_end v) at before bytes out)
          ∙ let same : 65535 - (65535 - field) ≡ field = omega (arith, word-fits xs (checksum_place s) are) in same
    ]

carried-byte : (k : Carried) (o : Offload) (v : IpVersion) (xs zs bytes : List ℕ) (start at i : ℕ) → AreBytes xs → length zs ≡ length xs → HoldsCarried k v start xs
    → OutsideTransportChecksum k i ⊎ BesideTransport k v at (at + length bytes) → slice_index zs i ≡ slice_index xs i
    → slice_index (with_transport_checksum k zs (transport_checksum o k v xs at bytes)) i ≡ slice_index xs i
carried-byte (carried.Segment s) o v xs zs bytes start at i are long h (inl out) same =
    index-outside zs (big_bytes 2 (transport_checksum o (carried.Segment s) v xs at bytes)) (checksum_place s) i (omega (arith, long, h.0.least, h.0.inside)) out ∙ same
carried-byte (carried.Segment s) o v xs zs bytes start at i are long h (inr beside) same =
    ap (λ n. slice_index (with_word zs (checksum_place s) n) i) (transport-kept o v s xs bytes at are beside)
    ∙ kept-word zs xs (checksum_place s) i are (omega (arith, long, h.0.least, h.0.inside)) same
carried-byte k o v xs zs bytes start at i are long h beside same = same

-- it stays, if it is in no checksum that covers a replaced byte
pub stays-byte : (o : Offload) (p : Places) (xs bytes : List ℕ) (at i : ℕ) → Holds p xs → AreBytes xs → at + length bytes ≤ length xs → IsOutside at (at + length bytes) i
    → OutsideHeaderChecksum p.version i ⊎ BesideHeader p.version p.start at (at + length bytes)
    → OutsideTransportChecksum p.carried i ⊎ BesideTransport p.carried p.version at (at + length bytes)
    → slice_index (edited o p xs at bytes) i ≡ slice_index xs i
stays-byte o p xs bytes at i h are room out header transport =
    let new = written xs at bytes in
    let n = header_checksum p.version p.start xs at bytes in
    let long = written-length xs bytes at room in
    let fits : 26 ≤ length new = omega (arith, long, least-end p.version, h.header, h.inside, h.whole) in
    carried-byte p.carried o p.version xs (with_header_checksum p.version new n) bytes p.start at i are (header-length p.version new n fits ∙ long) h.carried transport
    (header-byte p.version xs new bytes p.start at i are fits header (index-outside xs bytes at i room out))

-- ---- an edit that no transport checksum covers

-- bytes before the addresses
pub front-beside : (k : Carried) (v : IpVersion) (xs : List ℕ) (start at n : ℕ) → HoldsCarried k v start xs → at + n ≤ addresses_start v → BesideTransport k v at (at + n)
front-beside (carried.Segment s) v xs start at n h before =
    let order = addresses-order v in (λ i a b. inl (omega (arith, b, before, order, h.0.starts)), inr (λ i a b. inl (omega (arith, b, before))))
front-beside k v xs start at n h before = tt

-- it does not matter whether the checksum is left to the device
pub any-offload : (o said : Offload) (p : Places) (xs bytes : List ℕ) (at : ℕ) → AreBytes xs → BesideTransport p.carried p.version at (at + length bytes)
    → edited o p xs at bytes ≡ edited said p xs at bytes
any-offload o said p xs bytes at are beside =
    by-carried p.carried (with_header_checksum p.version (written xs at bytes) (header_checksum p.version p.start xs at bytes)) beside
  where
    by-carried : (k : Carried) (zs : List ℕ) → BesideTransport k p.version at (at + length bytes)
        → with_transport_checksum k zs (transport_checksum o k p.version xs at bytes) ≡ with_transport_checksum k zs (transport_checksum said k p.version xs at bytes)
    by-carried (carried.Segment s) zs out =
        ap (λ n. with_word zs (checksum_place s) n) (transport-kept o p.version s xs bytes at are out ∙ sym (transport-kept said p.version s xs bytes at are out))
    by-carried k zs out = refl

-- ---- an edit of no bytes

none-outside : (first last at : ℕ) → AreOutside first last at (at + 0)
none-outside first last at i a b = absurd (omega (arith, a, b))

none-header : (v : IpVersion) (start at : ℕ) → BesideHeader v start at (at + 0)
none-header version.Ipv4 start at = none-outside 14 start at
none-header version.Ipv6 start at = tt

none-transport : (k : Carried) (v : IpVersion) (at : ℕ) → BesideTransport k v at (at + 0)
none-transport (carried.Segment s) v at = (none-outside s.start s.end at, inr (none-outside (addresses_start v) (addresses_end v) at))
none-transport k v at = tt

nothing-edited : (o : Offload) (p : Places) (xs : List ℕ) (at : ℕ) → Holds p xs → AreBytes xs → at + 0 ≤ length xs → edited o p xs at [] ≡ xs
nothing-edited o p xs at h are room =
    let long = edited-length o p xs [] at h room in
    ext_get_or 0 (edited o p xs at []) xs long
    (λ i inside. stays-byte o p xs [] at i h are room (beside i) (inr (none-header p.version p.start at)) (inr (none-transport p.carried p.version at)))
  where
    beside : (i : ℕ) → IsOutside at (at + 0) i
    beside i = elim (cases_lt i at) [
      | inl low ↦ inl low
      | inr high ↦ inr (omega (arith, high))
    ]

-- the frame is unchanged
pub nothing-set : (r : Option Places) (o : Offload) (xs : List ℕ) (at : ℕ) → r ≡ places_of xs → IfSome r (λ p. Holds p xs) → AreBytes xs → unwrap_or (bytes_set o xs at []) xs ≡ xs
unfolding bytes_set
nothing-set r o xs at is h are =
    ap (λ (q : Option Places). unwrap_or (if nat_le (at + 0) (length xs) then option_and_then choice q else None) xs) (sym is) ∙ by-length (nat_le (at + 0) (length xs)) refl r h
  where
    choice : Places → Option (List ℕ)
    choice p = if allows p at (at + 0) then Some (edited o p xs at []) else None

    by-test : (b : Bool) (p : Places) → at + 0 ≤ length xs → Holds p xs → unwrap_or (if b then Some (edited o p xs at []) else None) xs ≡ xs
    by-test true p room holds = nothing-edited o p xs at holds are room
    by-test false p room holds = refl

    by-length : (b : Bool) → nat_le (at + 0) (length xs) ≡ b → (q : Option Places) → IfSome q (λ p. Holds p xs) → unwrap_or (if b then option_and_then choice q else None) xs ≡ xs
    by-length false e q holds = refl
    by-length true e None holds = refl
    by-length true e (Some p) holds = by-test (allows p at (at + 0)) p (grind (arith, nat_tests)) holds

-- whether there is such a place
pub nothing-done : (o : Offload) (xs : List ℕ) (at : ℕ) → (is_some (bytes_set o xs at []) ≡ true) ↔ ((at ≤ length xs) × IsSomeAnd (places_of xs) (λ p. allows p at at ≡ true))
unfolding bytes_set
nothing-done o xs at = by-length (nat_le (at + 0) (length xs)) refl (places_of xs)
  where
    choice : Places → Option (List ℕ)
    choice p = if allows p at (at + 0) then Some (edited o p xs at []) else None

    some : (b : Bool) (l : List ℕ) → is_some (if b then Some l else None) ≡ b
    some true l = refl
    some false l = refl

    by-length : (b : Bool) → nat_le (at + 0) (length xs) ≡ b → (q : Option Places)
        → (is_some (if b then option_and_then choice q else None) ≡ true) ↔ ((at ≤ length xs) × IsSomeAnd q (λ p. allows p at at ≡ true))
    by-length false e q = (λ no. absurd (cc), λ w. let low = w.0 in absurd (grind (arith, nat_tests)))
    by-length true e None = (λ no. absurd (cc), λ w. absurd w.1)
    by-length true e (Some p) =
        let is : allows p at (at + 0) ≡ allows p at at = ap (allows p at) (add-zero at) in
        let answer = some (allows p at (at + 0)) (edited o p xs at []) in
        (λ yes. (grind (arith, nat_tests), sym is ∙ sym answer ∙ yes), λ w. answer ∙ is ∙ w.1)
