-- The laws of edits, over the places in a frame.
use Rattle.std.proofs.Common.{ℕ, ◌≡◌, ◌≢◌, ◌∙◌, ◌+◌, ◌-◌, ◌%◌, ◌≤◌, Bool, IfSome, List, Option, Some, ap, ap₂, arith, false, if◌then◌else◌, inr, length, refl, slice_range, subst, sym}
use Rattle.byteorder.specs.Endian.{big_bytes}
use Rattle.ip_wire.specs.Types.{IpProtocol, IpVersion}
use Rattle.ip_wire.specs.declared.IpProtocol.TheVariants as protocol
use Rattle.ip_wire.specs.declared.IpVersion.TheVariants as version
use Rattle.ip_wire.specs.WordSum.{sum_of_bytes, updated}
use Rattle.ip_wire.proofs.Spelled.{AreBytes}
use Rattle.app_edit.proofs.Covers.{covered, sum_over, updated-keeps}
use Rattle.app_edit.proofs.Stays.{IsEdit, field_by, made, residue-mod, stays}
use Rattle.app_edit.proofs.Sums.{IsApart, plain-fits, sum-apart, sum-word, updated-fits, word-apart, word-fits}
use Rattle.app_edit.proofs.Totals.{written-length}
use Rattle.app_edit.specs.Edited.{edited, header_checksum, is_left, segment_sum, transport_checksum, updated_over, with_header_checksum, with_transport_checksum, with_word, word_at, written}
use Rattle.app_edit.specs.Places.{Holds, HoldsCarried, InFrame, addresses_end, addresses_start, checksum_offset, checksum_place, places_of}
use Rattle.app_edit.specs.declared.places.Carried.{Carried}
use Rattle.app_edit.specs.declared.places.Carried.TheVariants as carried
use Rattle.app_edit.specs.declared.places.Places.{Places}
use Rattle.app_edit.specs.declared.places.Segment.{Segment}
use Rattle.app_edit.specs.declared.replace.Offload.{Offload}

pub offset-even : (q : IpProtocol) → checksum_offset q % 2 ≡ 0
offset-even protocol.Tcp = omega arith
offset-even protocol.Udp = omega arith
offset-even q = omega arith

-- what is known of places that were found
pub found : (o : Option Places) (xs : List ℕ) (p : Places) → o ≡ places_of xs → IfSome o (λ q. Holds q xs) → places_of xs ≡ Some p → Holds p xs
found o xs p is holds e = subst (λ (r : Option Places). IfSome r (λ q. Holds q xs)) (is ∙ e) holds

pub in-frame : (p : Places) (s : Segment) (xs : List ℕ) → Holds p xs → p.carried ≡ carried.Segment s → InFrame p.version s xs
in-frame p s xs h is = (subst (λ (k : Carried). HoldsCarried k p.version p.start xs) is h.carried).0

pub is-edit : (p : Places) (s : Segment) (xs bytes : List ℕ) (at : ℕ) → Holds p xs → p.carried ≡ carried.Segment s → AreBytes xs → at + length bytes ≤ length xs
    → IsApart at (length bytes) (checksum_place s) (checksum_place s + 2) → IsEdit p.version s.start s.end (checksum_place s) xs bytes at
is-edit p s xs bytes at h is are room apart =
    let f = in-frame p s xs h is in
    record {
      starts = f.starts;
      even = f.even;
      field_even = omega (arith, f.even, offset-even s.protocol);
      begins = omega arith;
      ends = f.least;
      inside = f.inside;
      room = room;
      apart = apart;
      are = are;
    }

-- the edited frame, for a packet whose checksum is not left to the device
pub edited-is : (o : Offload) (p : Places) (s : Segment) (xs bytes : List ℕ) (at : ℕ) → p.carried ≡ carried.Segment s → is_left o p.version s xs ≡ false
    → edited o p xs at bytes ≡ made p.version (checksum_place s) xs bytes at (header_checksum p.version p.start xs at bytes) (field_by s.protocol p.version s (checksum_place s) xs bytes at)
edited-is o p s xs bytes at is here =
    let h = with_header_checksum p.version (written xs at bytes) (header_checksum p.version p.start xs at bytes) in
    ap (λ k. with_transport_checksum k h (transport_checksum o k p.version xs at bytes)) is
    ∙ ap (λ (b : Bool). with_word h (checksum_place s) (if b
    then 65535 - updated_over updated (65535 - word_at xs (checksum_place s)) (addresses_start p.version) (addresses_end p.version) at (slice_range xs at (at + length bytes)) bytes
    else field_by s.protocol p.version s (checksum_place s) xs bytes at)) here

pub segment-stays : (o : Offload) (p : Places) (s : Segment) (xs bytes : List ℕ) (at : ℕ) → Holds p xs → p.carried ≡ carried.Segment s → AreBytes xs → at + length bytes ≤ length xs
    → IsApart at (length bytes) (checksum_place s) (checksum_place s + 2) → is_left o p.version s xs ≡ false → (s.protocol ≡ protocol.Udp → word_at xs (checksum_place s) ≢ 0)
    → segment_sum p.version s (edited o p xs at bytes) % 65535 ≡ segment_sum p.version s xs % 65535
segment-stays o p s xs bytes at h is are room apart here some =
    ap (λ l. segment_sum p.version s l % 65535) (edited-is o p s xs bytes at is here)
    ∙ stays s.protocol p.version s (checksum_place s) xs bytes at (header_checksum p.version p.start xs at bytes) (is-edit p s xs bytes at h is are room apart) some

-- ---- the IPv4 header

-- the transport checksum is after the header
transport-apart : (k : Carried) (v : IpVersion) (ys xs : List ℕ) (start f : ℕ) → length ys ≡ length xs → HoldsCarried k v start xs → 14 ≤ start → start ≤ length xs
    → sum_over (with_transport_checksum k ys f) 14 start ≡ sum_over ys 14 start
transport-apart (carried.Segment s) v ys xs start f long h least room =
    sum-apart ys (big_bytes 2 f) (checksum_place s) 14 start (omega arith) least (omega (arith, long, room)) (omega (arith, long, h.0.least, h.0.inside)) (inr (omega (arith, h.1)))
transport-apart k v ys xs start f long h least room = refl

-- the sum of an IPv4 header after an edit beside its checksum field
pub header-stays : (o : Offload) (p : Places) (xs bytes : List ℕ) (at : ℕ) → Holds p xs → p.version ≡ version.Ipv4 → AreBytes xs → at + length bytes ≤ length xs
    → IsApart at (length bytes) 24 26 → sum_of_bytes (slice_range (edited o p xs at bytes) 14 p.start) % 65535 ≡ sum_of_bytes (slice_range xs 14 p.start) % 65535
header-stays o p xs bytes at h is are room apart =
    let new = written xs at bytes in
    let n = header_checksum p.version p.start xs at bytes in
    let field = word_at xs 24 in
    let plain = updated_over updated field 14 p.start at (slice_range xs at (at + length bytes)) bytes in
    let least : 34 ≤ p.start = omega (arith, subst (λ v. addresses_end v ≤ p.start) is h.header) in
    let whole : p.start ≤ length xs = omega (arith, h.inside, h.whole) in
    let same_field : n ≡ plain = ap (λ v. header_checksum v p.start xs at bytes) is in
    let fits = word-fits xs 24 are in
    let small = updated-fits updated field 14 p.start at (slice_range xs at (at + length bytes)) bytes fits (plain-fits field) in
    let long = written-length xs bytes at room in
    let head : with_header_checksum p.version new n ≡ with_word new 24 plain = ap₂ (λ v k. with_header_checksum v new k) is same_field in
    let head_long = written-length new (big_bytes 2 plain) 24 (omega (arith, long, least, whole)) in
    let carried_apart = transport-apart p.carried p.version (with_word new 24 plain) xs p.start (transport_checksum o p.carried p.version xs at bytes)
    (head_long ∙ long) h.carried (omega (arith, least)) whole
    in
    let cover = covered updated xs bytes at 14 p.start field (omega arith) (omega (arith, least)) whole room (updated-keeps field fits) in
    let word = sum-word new 24 plain 14 p.start (omega arith) (omega arith) (omega arith) (omega (arith, least)) (omega (arith, long, whole)) small in
    let kept = word-apart xs bytes at 24 room apart in
    ap (λ l. sum_of_bytes (slice_range (with_transport_checksum p.carried l (transport_checksum o p.carried p.version xs at bytes)) 14 p.start) % 65535) head
    ∙ residue-mod (sum_over (with_transport_checksum p.carried (with_word new 24 plain) (transport_checksum o p.carried p.version xs at bytes)) 14 p.start)
    ∙ omega (arith, carried_apart, cover, word, kept) ∙ sym (residue-mod (sum_over xs 14 p.start))
