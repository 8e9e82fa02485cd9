-- A packet that is its only fragment.
use Rattle.std.proofs.Common.{ℕ, ◌≡◌, ◌≢◌, ◌≤◌, ◌<◌, ◌+◌, ◌-◌, ◌*◌, ◌/◌, ◌%◌, IfSome, IsSome, None, Option, Some, List, [], ◌∷◌, ◌++◌, length, drop, get_or, slice_range, sum, take, refl, sym, ap, ◌∙◌, arith, append_assoc}
use Rattle.std.proofs.Math.Seq.{take-add}
use Rattle.std.proofs.lemmas.Bool.Decides.{nat_tests}
use Rattle.std.proofs.lemmas.List.{length-take-le, take_all, take_at}
use Rattle.ip_wire.specs.Diagram.{flag}
use Rattle.ip_wire.specs.Field.{field, with_field, with_part, word_at}
use Rattle.ip_wire.specs.Ipv4.{HasChecksum, HasLengths, checksum_of, fragment_offset, header_len, ip_version_of, more_frags_of, total_len, with_checksum, with_checksum_field}
use Rattle.ip_wire.specs.WordSum.{residue, sum_of_bytes, words}
use Rattle.ip_wire.proofs.ByteLists.{AreBytes-take}
use Rattle.ip_wire.proofs.Cells.{cells-drop, word_high, word_low}
use Rattle.ip_wire.proofs.Following.{drop-with_field}
use Rattle.ip_wire.proofs.Residues.{residue-bound, residue-quotient, residue-zero}
use Rattle.ip_wire.proofs.Spelled.{AreBytes}
use Rattle.ip_wire.proofs.WordLists.{sum-words-append, sum-words-cons}
use Rattle.app_fragment.proofs.Headers.{header-parts, keeps-field}
use Rattle.app_fragment.specs.declared.ipv4.Written.{Written}
use Rattle.app_fragment.specs.Ipv4Fragments.{MayBeFragmented, fragment_bytes, fragment_header, has_more, header_at, next_place, payload_len, unsummed_header, with_place}

-- ---- a field that is written with its own number

same-total : (h : List ℕ) → AreBytes h → 20 ≤ length h → with_field h 16 16 (field h 16 16) ≡ h
same-total h are room = rw (cells-drop 20 h room) (grind (arith, are 2, are 3))

same-more : (h : List ℕ) → AreBytes h → 20 ≤ length h → with_field h 50 1 (field h 50 1) ≡ h
same-more h are room = rw (cells-drop 20 h room) (grind (arith, are 6))

same-offset : (h : List ℕ) → AreBytes h → 20 ≤ length h → with_field h 51 13 (field h 51 13) ≡ h
same-offset h are room = rw (cells-drop 20 h room) (grind (arith, are 6, are 7))

-- ---- the checksum

-- a header with another checksum
with-sum : (h : List ℕ) (x : ℕ) → with_checksum_field h x ≡ take 10 h ++ (x / 256 % 256 ∷ x % 256 ∷ drop 12 h)
with-sum h x =
    append_assoc (take 10 h) _ (drop 12 h)
    ∙ ap (λ n. take 10 h ++ (n ∷ with_part (word_at h 80 16) 0 16 x % 256 ∷ drop 12 h)) (word_high (word_at h 80 16) x)
    ∙ ap (λ n. take 10 h ++ (x / 256 % 256 ∷ n ∷ drop 12 h)) (word_low (word_at h 80 16) x)

-- a header by its checksum
sum-parts : (h : List ℕ) → 20 ≤ length h → h ≡ take 10 h ++ (get_or h 10 0 ∷ get_or h 11 0 ∷ drop 12 h)
sum-parts h room = rw (cells-drop 20 h room) refl

checksum-number : (h : List ℕ) → AreBytes h → checksum_of h ≡ 256 * get_or h 10 0 + get_or h 11 0
checksum-number h are = omega (arith, are 10, are 11)

length-ten : (h : List ℕ) → 20 ≤ length h → length (take 10 h) ≡ 10
length-ten h room = length-take-le 10 h (omega arith)

sum-with : (h : List ℕ) (a b : ℕ) → 20 ≤ length h → sum (words (take 10 h ++ (a ∷ b ∷ drop 12 h))) ≡ sum (words (take 10 h)) + (256 * a + b + sum (words (drop 12 h)))
sum-with h a b room = sum-words-append (take 10 h) (a ∷ b ∷ drop 12 h) (omega (arith, length-ten h room)) ∙ ap (λ n. sum (words (take 10 h)) + n) (sum-words-cons a b (drop 12 h))

-- a header is not all zeros
some-sum : (h : List ℕ) → AreBytes h → 20 ≤ length h → ip_version_of h ≡ 4 → 0 < sum (words (take 10 h))
some-sum [] are room four = absurd (omega arith)
some-sum (x ∷ []) are room four = absurd (omega arith)
some-sum (x ∷ y ∷ rest) are room four = omega (arith, sum-words-cons x y (take 8 rest), are 0)

-- the one number that makes a sum valid, other than 0xffff
one-complement : (t c : ℕ) → 0 < t → c < 65535 → residue (t + c) ≡ 65535 → 65535 - residue t ≡ c
one-complement t c some small valid =
    let (k, whole) = residue-quotient t in
    let (j, more) = residue-quotient (t + c) in
    let bound = residue-bound t in
    let least : residue t ≢ 0 = λ z. let none = residue-zero t z in omega arith in
    omega arith

-- a valid checksum is the computed one
checksum-stays : (h : List ℕ) → AreBytes h → 20 ≤ length h → length h ≡ header_len h → ip_version_of h ≡ 4 → checksum_of h ≢ 65535
    → residue (sum (words h)) ≡ 65535 → with_checksum h ≡ h
checksum-stays h are room long four other valid =
    let c = 256 * get_or h 10 0 + get_or h 11 0 in
    let z = with_checksum_field h 0 in
    let x = 65535 - sum_of_bytes (take (header_len h) (with_checksum_field h 0)) in
    let zeroed : with_checksum_field h 0 ≡ take 10 h ++ (0 ∷ 0 ∷ drop 12 h) = with-sum h 0 in
    let k = keeps-field h 80 16 0 are room (omega arith) (omega arith) (omega arith) in
    let all : take (header_len h) (with_checksum_field h 0) ≡ with_checksum_field h 0 = take_all (header_len h) (with_checksum_field h 0) (omega (arith, k.long, long)) in
    let total : sum (words (take (header_len h) (with_checksum_field h 0))) ≡ sum (words (take 10 h)) + sum (words (drop 12 h)) =
    ap (λ l. sum (words l)) (all ∙ zeroed) ∙ sum-with h 0 0 room ∙ omega arith in
    let whole : sum (words h) ≡ sum (words (take 10 h)) + sum (words (drop 12 h)) + c = ap (λ l. sum (words l)) (sum-parts h room) ∙ sum-with h (get_or h 10 0) (get_or h 11 0) room ∙ omega arith in
    let number = checksum-number h are in
    let same : 65535 - residue (sum (words (take 10 h)) + sum (words (drop 12 h))) ≡ c =
    one-complement (sum (words (take 10 h)) + sum (words (drop 12 h))) c (omega (arith, some-sum h are room four)) (omega (arith, number, other, are 10, are 11)) (sym (ap residue whole) ∙ valid) in
    let is : x ≡ c = ap (λ n. 65535 - residue n) total ∙ same in
    let front : take 10 (with_checksum_field h 0) ≡ take 10 h = ap (take 10) zeroed ∙ take_at (take 10 h) (0 ∷ 0 ∷ drop 12 h) 10 (length-ten h room) in
    let back : drop 12 (with_checksum_field h 0) ≡ drop 12 h = drop-with_field h 80 16 0 12 (omega arith) (omega arith) (omega arith) in
    with-sum (with_checksum_field h 0) x
    ∙ ap (λ n. take 10 (with_checksum_field h 0) ++ (n / 256 % 256 ∷ n % 256 ∷ drop 12 (with_checksum_field h 0))) is
    ∙ ap (λ l. l ++ (c / 256 % 256 ∷ c % 256 ∷ drop 12 (with_checksum_field h 0))) front
    ∙ ap (λ l. take 10 h ++ (c / 256 % 256 ∷ c % 256 ∷ l)) back
    ∙ ap (λ n. take 10 h ++ (n ∷ c % 256 ∷ drop 12 h)) (omega (arith, are 10, are 11))
    ∙ ap (λ n. take 10 h ++ (get_or h 10 0 ∷ n ∷ drop 12 h)) (omega (arith, are 10, are 11))
    ∙ sym (sum-parts h room)

-- ---- the packet

header-whole : (bytes : List ℕ) → HasLengths bytes → header_at bytes 0 ≡ take (header_len bytes) bytes
header-whole bytes v = sym (header-parts bytes (header_len bytes) v.header)

more-flag : (bytes : List ℕ) → flag (has_more bytes (payload_len bytes)) ≡ more_frags_of bytes
more-flag bytes = grind (arith, nat_tests)

-- a packet that fits ends where its only fragment does
pub next-end : (bytes : List ℕ) (mtu : ℕ) → HasLengths bytes → total_len bytes ≤ mtu → next_place bytes 0 mtu ≡ payload_len bytes
next-end bytes mtu v fits = grind (arith, nat_tests, v.within)

-- the fields of bytes that begin with a header
fields-front : (bytes rest : List ℕ) → 20 ≤ length bytes → (ip_version_of (take 20 bytes ++ rest) ≡ ip_version_of bytes) × (header_len (take 20 bytes ++ rest) ≡ header_len bytes)
    × (total_len (take 20 bytes ++ rest) ≡ total_len bytes) × (more_frags_of (take 20 bytes ++ rest) ≡ more_frags_of bytes)
    × (field (take 20 bytes ++ rest) 51 13 ≡ field bytes 51 13) × (checksum_of (take 20 bytes ++ rest) ≡ checksum_of bytes)
fields-front bytes rest room = rw (cells-drop 20 bytes room) (refl, refl, refl, refl, refl, refl)

eighth : (n : ℕ) → 8 * n / 8 ≡ n
eighth n = omega arith

pub copied : (bytes : List ℕ) → AreBytes bytes → HasLengths bytes → ip_version_of bytes ≡ 4 → HasChecksum bytes → checksum_of bytes ≢ 65535
    → fragment_bytes None bytes 0 (payload_len bytes) ≡ take (total_len bytes) bytes
copied bytes are v four valid other =
    let n = header_len bytes in
    let p = payload_len bytes in
    let h = take (header_len bytes) bytes in
    let room : header_len bytes ≤ length bytes = omega (arith, v.within, v.whole) in
    let long : length (take (header_len bytes) bytes) ≡ header_len bytes = length-take-le (header_len bytes) bytes room in
    let least : 20 ≤ length (take (header_len bytes) bytes) = omega (arith, long, v.header) in
    let bytes_are : AreBytes (take (header_len bytes) bytes) = AreBytes-take (header_len bytes) bytes are in
    let parts = header-parts bytes (header_len bytes) v.header in
    let (version, header, total, more, offset, checksum) = fields-front bytes (slice_range bytes 20 (header_len bytes)) v.least in
    let placed : with_place (total_len bytes) (has_more bytes p) (fragment_offset bytes) h ≡ h =
    ap (λ k. with_field (with_field (with_field h 16 16 k) 50 1 (flag (has_more bytes p))) 51 13 (fragment_offset bytes / 8)) (sym (ap total_len parts ∙ total))
    ∙ ap (λ l. with_field (with_field l 50 1 (flag (has_more bytes p))) 51 13 (fragment_offset bytes / 8)) (same-total h bytes_are least)
    ∙ ap (λ k. with_field (with_field h 50 1 k) 51 13 (fragment_offset bytes / 8)) (more-flag bytes ∙ sym (ap more_frags_of parts ∙ more))
    ∙ ap (λ l. with_field l 51 13 (fragment_offset bytes / 8)) (same-more h bytes_are least)
    ∙ ap (with_field h 51 13) (eighth (field bytes 51 13) ∙ sym (ap (λ l. field l 51 13) parts ∙ offset))
    ∙ same-offset h bytes_are least in
    let unsummed : unsummed_header None bytes 0 p ≡ h =
    ap (with_place (header_len bytes + (p - 0)) (has_more bytes p) (fragment_offset bytes + 0)) (header-whole bytes v)
    ∙ ap (λ k. with_place k (has_more bytes p) (fragment_offset bytes + 0) h) (omega (arith, v.within))
    ∙ ap (λ k. with_place (total_len bytes) (has_more bytes p) k h) (omega arith)
    ∙ placed in
    let summed : fragment_header None bytes 0 p ≡ h =
    ap with_checksum unsummed
    ∙ checksum-stays h bytes_are least (long ∙ sym (ap header_len parts ∙ header)) (ap ip_version_of parts ∙ version ∙ four) (λ e. other (sym (ap checksum_of parts ∙ checksum) ∙ e)) valid in
    ap (λ l. l ++ slice_range bytes (n + 0) (n + p)) summed
    ∙ ap (λ k. h ++ slice_range bytes k (n + p)) (omega arith)
    ∙ ap (λ k. h ++ take k (drop n bytes)) (omega arith)
    ∙ sym (take-add n p bytes) ∙ ap (λ k. take k bytes) (omega (arith, v.within))

pub call-copies : (r : Option Written) (bytes old new : List ℕ) (mtu : ℕ) → AreBytes bytes → total_len bytes ≤ mtu → checksum_of bytes ≢ 65535
    → (IsSome r → MayBeFragmented None bytes mtu)
    → IfSome r (λ w. w.next ≡ next_place bytes 0 mtu) → IfSome r (λ w. new ≡ fragment_bytes None bytes 0 w.next ++ drop w.len old)
    → IfSome r (λ w. new ≡ take (total_len bytes) bytes ++ drop w.len old)
call-copies None bytes old new mtu are fits other accepted next is = next
call-copies (Some w) bytes old new mtu are fits other accepted next is =
    let may = accepted refl in
    is ∙ ap (λ k. fragment_bytes None bytes 0 k ++ drop w.len old) (next ∙ next-end bytes mtu may.valid.lengths fits)
    ∙ ap (λ l. l ++ drop w.len old) (copied bytes are may.valid.lengths may.valid.version may.valid.checksum other)
