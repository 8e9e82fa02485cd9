-- The checksums after an address or a port is written.
use Rattle.std.proofs.Common.{ℕ, ◌≡◌, ◌≢◌, ◌∙◌, ◌+◌, ◌-◌, ◌%◌, ◌<◌, ◌≤◌, ◌==◌, ◌∷◌, Bool, List, ap, ap₂, arith, false, if◌then◌else◌, inl, inr, length, max, min, nat_lt, refl, slice_range, true}
use Rattle.std.proofs.lemmas.Bool.Decides.{nat_tests}
use Rattle.std.proofs.lemmas.List.{take_all}
use Rattle.ip_wire.proofs.Spelled.{AreBytes}
use Rattle.ip_wire.specs.Types.{IpProtocol, IpVersion}
use Rattle.ip_wire.specs.WordSum.{sum_of_bytes, updated}
use Rattle.ip_wire.specs.declared.IpProtocol.TheVariants as protocol
use Rattle.ip_wire.specs.declared.IpVersion.TheVariants as version
use Rattle.app_edit.proofs.Beside.{word-itself}
use Rattle.app_edit.proofs.OtherBytes.{not-covered, over-kept}
use Rattle.app_edit.proofs.Totals.{index-outside, range-length, written-length}
use Rattle.app_edit.specs.Checksums.{sum_at}
use Rattle.app_edit.specs.Edited.{header_checksum, is_left, over_addresses, updated_by, updated_checksum, updated_over, with_header_checksum, with_word, word_at, written}
use Rattle.app_edit.specs.Outside.{AreOutside}
use Rattle.app_edit.specs.Places.{InFrame, addresses_end, addresses_start, checksum_place}
use Rattle.app_edit.specs.declared.places.Segment.{Segment}
use Rattle.app_edit.specs.declared.replace.Offload.{Offload}

-- ---- a checksum that covers all of the bytes

whole-range : (l : List ℕ) (n : ℕ) → length l ≡ n → slice_range l 0 n ≡ l
whole-range l n long = take_all (n - 0) l (omega (arith, long))

covered-whole : (u : ℕ → ℕ → ℕ → ℕ) (f first last at : ℕ) (before after : List ℕ) → first ≤ at → at + length after ≤ last → 0 < length after → length before ≡ length after
    → updated_over u f first last at before after ≡ u f (sum_at at before) (sum_at at after)
covered-whole u f first last at before after a b some same =
    let n = length after in
    let from : max at first ≡ at = omega (arith, a) in
    let to : min (at + n) last ≡ at + n = omega (arith, b) in
    let meet : nat_lt at (at + n) ≡ true = grind (arith, nat_tests, some) in
    let start : at - at ≡ 0 = omega arith in
    let end : at + n - at ≡ n = omega arith in
    (λ i. if nat_lt (from i) (to i)
    then u f (sum_at (from i) (slice_range before (from i - at) (to i - at))) (sum_at (from i) (slice_range after (from i - at) (to i - at)))
    else f)
    ∙ (λ i. if meet i then u f (sum_at at (slice_range before (start i) (end i))) (sum_at at (slice_range after (start i) (end i))) else f)
    ∙ ap₂ (λ (x y : List ℕ). u f (sum_at at x) (sum_at at y)) (whole-range before n same) (whole-range after n refl)

-- the bytes before
range-long : (xs : List ℕ) (at n : ℕ) → at + n ≤ length xs → length (slice_range xs at (at + n)) ≡ n
range-long xs at n room = range-length xs at (at + n) (omega arith) room ∙ let same : at + n - at ≡ n = omega arith in same

-- ---- an address

pub header-covered : (xs bytes : List ℕ) (start at : ℕ) → 0 < length bytes → 14 ≤ at → at + length bytes ≤ start → start ≤ length xs
    → header_checksum version.Ipv4 start xs at bytes ≡ updated (word_at xs 24) (sum_at at (slice_range xs at (at + length bytes))) (sum_at at bytes)
header-covered xs bytes start at some a b room =
    covered-whole updated (word_at xs 24) 14 start at (slice_range xs at (at + length bytes)) bytes a b some (range-long xs at (length bytes) (omega (arith, b, room)))

-- the field of a transport checksum after an address changed; ICMP covers none over IPv4
abbrev pub by_address : IpProtocol → ℕ → ℕ → ℕ → ℕ
by_address protocol.Icmp field old new = field
by_address q field old new = updated_by q field old new

pub by-other : (q : IpProtocol) (field old new : ℕ) → q ≢ protocol.Icmp → by_address q field old new ≡ updated_by q field old new
by-other protocol.Icmp field old new other = absurd (other refl)
by-other q field old new other = refl

over-covered : (q : IpProtocol) (v : IpVersion) (field at : ℕ) (before after : List ℕ) → addresses_start v ≤ at → at + length after ≤ addresses_end v → 0 < length after
    → length before ≡ length after → over_addresses q v field at before after ≡ by_address q field (sum_at at before) (sum_at at after)
over-covered protocol.Icmp v field at before after a b some same = refl
over-covered q v field at before after a b some same = covered-whole (updated_by q) field (addresses_start v) (addresses_end v) at before after a b some same

pub address-checksum : (o : Offload) (v : IpVersion) (s : Segment) (xs bytes : List ℕ) (at : ℕ) → InFrame v s xs → 0 < length bytes → addresses_start v ≤ at
    → at + length bytes ≤ addresses_end v
    → updated_checksum o v s xs at (slice_range xs at (at + length bytes)) bytes
    ≡ (if is_left o v s xs
    then 65535 - updated (65535 - word_at xs (checksum_place s)) (sum_at at (slice_range xs at (at + length bytes))) (sum_at at bytes)
    else by_address s.protocol (word_at xs (checksum_place s)) (sum_at at (slice_range xs at (at + length bytes))) (sum_at at bytes))
address-checksum o v s xs bytes at h some a b = λ i. if is_left o v s xs then left i else right i
  where
    field : ℕ
    field = word_at xs (checksum_place s)

    before : List ℕ
    before = slice_range xs at (at + length bytes)

    same : length before ≡ length bytes
    same = range-long xs at (length bytes) (omega (arith, b, h.starts, h.least, h.inside))

    left : 65535 - updated_over updated (65535 - field) (addresses_start v) (addresses_end v) at before bytes ≡ 65535 - updated (65535 - field) (sum_at at before) (sum_at at bytes)
    left = ap (λ n. 65535 - n) (covered-whole updated (65535 - field) (addresses_start v) (addresses_end v) at before bytes a b some same)

    right : updated_over (updated_by s.protocol) (over_addresses s.protocol v field at before bytes) s.start s.end at before bytes
        ≡ by_address s.protocol field (sum_at at before) (sum_at at bytes)
    right =
        not-covered (updated_by s.protocol) (over_addresses s.protocol v field at before bytes) s.start s.end at before bytes (λ i from to. inl (omega (arith, to, b, h.starts)))
        ∙ over-covered s.protocol v field at before bytes a b some same

-- ---- a port

pub header-untouched : (v : IpVersion) (xs bytes : List ℕ) (start at : ℕ) → AreBytes xs → 34 ≤ start → start ≤ at → at + length bytes ≤ length xs
    → with_header_checksum v (written xs at bytes) (header_checksum v start xs at bytes) ≡ written xs at bytes
header-untouched version.Ipv4 xs bytes start at are least after room =
    let new = written xs at bytes in
    let long = written-length xs bytes at room in
    ap (λ n. with_word new 24 n) (not-covered updated (word_at xs 24) 14 start at (slice_range xs at (at + length bytes)) bytes (λ i from to. inr (omega (arith, after, from))))
    ∙ word-itself new xs 24 are (omega (arith, long, room, least, after)) (index-outside xs bytes at 24 room (inl (omega (arith, least, after))))
    (index-outside xs bytes at (24 + 1) room (inl (omega (arith, least, after))))
header-untouched version.Ipv6 xs bytes start at are least after room = refl

pub port-checksum : (o : Offload) (v : IpVersion) (s : Segment) (xs bytes : List ℕ) (at : ℕ) → InFrame v s xs → length bytes ≡ 2 → at % 2 ≡ 0 → s.start ≤ at → at + 2 ≤ s.end
    → is_left o v s xs ≡ false
    → updated_checksum o v s xs at (slice_range xs at (at + length bytes)) bytes
    ≡ updated_by s.protocol (word_at xs (checksum_place s)) (sum_at 0 (slice_range xs at (at + length bytes))) (sum_at 0 bytes)
port-checksum o v s xs bytes at h two even a b none =
    ap (λ (left : Bool). if left
    then 65535 - updated_over updated (65535 - field) (addresses_start v) (addresses_end v) at before bytes
    else updated_over (updated_by s.protocol) (over_addresses s.protocol v field at before bytes) s.start s.end at before bytes) none
    ∙ covered-whole (updated_by s.protocol) (over_addresses s.protocol v field at before bytes) s.start s.end at before bytes a (omega (arith, two, b)) (omega (arith, two)) same
    ∙ ap (λ f. updated_by s.protocol f (sum_at at before) (sum_at at bytes)) (over-kept s.protocol v field at before bytes (inr out))
    ∙ ap₂ (λ x y. updated_by s.protocol field x y) (even-sum before) (even-sum bytes)
  where
    field : ℕ
    field = word_at xs (checksum_place s)

    before : List ℕ
    before = slice_range xs at (at + length bytes)

    same : length before ≡ length bytes
    same = range-long xs at (length bytes) (omega (arith, two, b, h.inside))

    out : AreOutside (addresses_start v) (addresses_end v) at (at + length bytes)
    out = λ i from to. inr (omega (arith, h.starts, a, from))

    even-sum : (l : List ℕ) → sum_at at l ≡ sum_at 0 l
    even-sum l = ap (λ k. sum_of_bytes (if k == 0 then l else 0 ∷ l)) even
