-- Each edit writes bytes beside the checksums, or nothing.
use Rattle.std.proofs.Common.{Bor, IfSome, ℕ, ◌≡◌, ◌∙◌, ◌⊎◌, ◌+◌, ◌%◌, ◌<◌, ◌≤◌, ◌↔◌, Bool, List, [], ◌∷◌, None, Option, Some, ap, arith, false, if◌then◌else◌, inl, inr, length, nat_le, nat_lt, refl, slice_index, slice_range, subst, sym, true, unwrap_or}
use Rattle.std.proofs.lemmas.Bool.Decides.{nat_tests}
use Rattle.std.specs.Option.{option_and_then, option_map}
use Rattle.byteorder.specs.Endian.{big_bytes}
use Rattle.ip_wire.proofs.Readings.{if-Some}
use Rattle.ip_wire.proofs.Spelled.{AreBytes}
use Rattle.ip_wire.specs.IpAddress.{IsAddress, address_bytes}
use Rattle.ip_wire.specs.Types.{IpAddress, IpVersion}
use Rattle.ip_wire.specs.WordSum.{sum_of_bytes}
use Rattle.ip_wire.specs.declared.IpProtocol.TheVariants as protocol
use Rattle.ip_wire.specs.declared.IpVersion.TheVariants as version
use Rattle.app_edit.proofs.Found.{tells}
use Rattle.app_edit.proofs.Kept.{found, header-stays, in-frame}
use Rattle.app_edit.proofs.Left.{left-is, left-stays}
use Rattle.app_edit.proofs.OtherBytes.{any-offload, front-beside}
use Rattle.app_edit.proofs.PlacesStay.{both-true, dscp-length, edited-byte, port-in, port-room, two-bytes}
use Rattle.app_edit.proofs.ReadBack.{address-beside, header-apart, offset-left, transport-apart}
use Rattle.app_edit.proofs.Stays.{least-end}
use Rattle.app_edit.proofs.StaysValid.{Alike, alike, alike-back, alike-same, header-valid, transport-valid, valid-not-left}
use Rattle.app_edit.proofs.Sums.{IsApart}
use Rattle.app_edit.specs.Edited.{addr_set, address_place, allows, bytes_set, can_be_left, dscp_set, edited, hop_limit_place, hop_limit_set, is_left, keeps_carried, keeps_header, port_place, port_set, pseudo_header_sum, segment_bytes, takes_address, with_dscp, word_at}
use Rattle.app_edit.specs.Edits.{HasAddress, IsBeside, edit_made}
use Rattle.app_edit.specs.Outside.{IsOutside, OutsideHeaderChecksum, OutsideTransportChecksum}
use Rattle.app_edit.specs.Places.{Holds, addresses_start, checksum_place, places_of}
use Rattle.app_edit.specs.Valid.{HasHeaderChecksum, HasTransportChecksum}
use Rattle.app_edit.specs.declared.laws.Edit.{Edit}
use Rattle.app_edit.specs.declared.laws.Edit.TheVariants as edit
use Rattle.app_edit.specs.declared.places.Carried.{Carried}
use Rattle.app_edit.specs.declared.places.Carried.TheVariants as carried
use Rattle.app_edit.specs.declared.places.Places.{Places}
use Rattle.app_edit.specs.declared.places.Segment.{Segment}
use Rattle.app_edit.specs.declared.replace.Offload.{Offload}
use Rattle.app_edit.specs.declared.replace.Offload.TheVariants as offload
use Rattle.app_edit.specs.declared.side.Side.{Side}
use Rattle.app_edit.specs.declared.side.Side.TheVariants.{Source, Destination}

-- ---- what an edit writes

-- the frame after an edit
pub record Writes (o : Offload) (e : Edit) (p : Places) (xs ys : List ℕ) : Type 0 where
  pub at : ℕ
  pub bytes : List ℕ
  pub room : at + length bytes ≤ length xs
  pub set : (i : ℕ) → IsBeside e p i → IsOutside at (at + length bytes) i
  pub header : p.version ≡ version.Ipv4 → IsApart at (length bytes) 24 26
  pub transport : (s : Segment) → p.carried ≡ carried.Segment s → IsApart at (length bytes) (checksum_place s) (checksum_place s + 2)
  pub is : ys ≡ edited o p xs at bytes

-- it is unchanged, or it has these bytes
abbrev Makes : Offload → Edit → Places → List ℕ → List ℕ → Type 0
Makes o e p xs ys = (ys ≡ xs) ⊎ Writes o e p xs ys

-- a field before the checksum of an IPv4 header and the addresses: no transport checksum covers it
in-front : (o : Offload) (e : Edit) (p : Places) (xs bytes : List ℕ) (at : ℕ) → Holds p xs → AreBytes xs → ((i : ℕ) → IsBeside e p i → IsOutside at (at + length bytes) i) → at + length bytes ≤ 24 → at + length bytes ≤ addresses_start p.version
    → Writes o e p xs (edited offload.Complete p xs at bytes)
in-front o e p xs bytes at h are set low before =
    let least = least-end p.version in
    record {
      at = at;
      bytes = bytes;
      room = omega (arith, low, least, h.header, h.inside, h.whole);
      set = set;
      header = λ four. inl low;
      transport = λ s is. let f = in-frame p s xs h is in inl (omega (arith, low, least, f.starts));
      is = any-offload offload.Complete o p xs bytes at are (front-beside p.carried p.version xs p.start at (length bytes) h.carried before);
    }

hop_limit-end : (v : IpVersion) → (hop_limit_place v + 1 ≤ 24) × (hop_limit_place v + 1 ≤ addresses_start v)
hop_limit-end version.Ipv4 = (omega arith, omega arith)
hop_limit-end version.Ipv6 = (omega arith, omega arith)

addresses-least : (v : IpVersion) → 22 ≤ addresses_start v
addresses-least version.Ipv4 = omega arith
addresses-least version.Ipv6 = omega arith

makes-hop_limit : (o : Offload) (p : Places) (xs : List ℕ) (n : ℕ) → Holds p xs → AreBytes xs → places_of xs ≡ Some p → Makes o (edit.HopLimit n) p xs (unwrap_or (hop_limit_set xs n) xs)
unfolding hop_limit_set
makes-hop_limit o p xs n h are is =
    subst (λ (q : Option Places). Makes o (edit.HopLimit n) p xs (unwrap_or (option_map (λ (r : Places). edited offload.Complete r xs (hop_limit_place r.version) (n ∷ [])) q) xs)) (sym is)
    (let end = hop_limit-end p.version in inr (in-front o (edit.HopLimit n) p xs (n ∷ []) (hop_limit_place p.version) h are (λ i out. out) end.0 end.1))

makes-dscp : (o : Offload) (p : Places) (xs : List ℕ) (n : ℕ) → Holds p xs → AreBytes xs → places_of xs ≡ Some p → Makes o (edit.Dscp n) p xs (unwrap_or (dscp_set xs n) xs)
unfolding dscp_set
makes-dscp o p xs n h are is =
    subst (λ (q : Option Places). Makes o (edit.Dscp n) p xs (unwrap_or (if nat_lt 63 n then None else option_map write q) xs)) (sym is) (by-test (nat_lt 63 n))
  where
    write : Places → List ℕ
    write q = edited offload.Complete q xs 14 (with_dscp q.version (slice_range xs 14 16) n)

    bytes : List ℕ
    bytes = with_dscp p.version (slice_range xs 14 16) n

    long : length bytes ≡ 2
    long =
        let whole : 16 ≤ length xs = omega (arith, least-end p.version, h.header, h.inside, h.whole) in
        ap (λ l. length (with_dscp p.version l n)) (two-bytes xs whole) ∙ dscp-length p.version (slice_index xs 14) (slice_index xs 15) n

    by-test : (b : Bool) → Makes o (edit.Dscp n) p xs (unwrap_or (if b then None else Some (write p)) xs)
    by-test true = inl refl
    by-test false = inr (in-front o (edit.Dscp n) p xs bytes 14 h are (λ i out. subst (λ k. IsOutside 14 (14 + k) i) (sym long) out) (omega (arith, long)) (omega (arith, long, addresses-least p.version)))

makes-addr : (o : Offload) (p : Places) (xs : List ℕ) (side : Side) (a : IpAddress) → Holds p xs → places_of xs ≡ Some p → IsAddress a → Makes o (edit.Addr side a) p xs (unwrap_or (addr_set o xs side a) xs)
unfolding addr_set
makes-addr o p xs side a h is are = subst (λ (q : Option Places). Makes o (edit.Addr side a) p xs (unwrap_or (option_and_then choice q) xs)) (sym is) (by-test (takes_address p a) refl)
  where
    write : Places → List ℕ
    write q = edited o q xs (address_place side q.version) (address_bytes a)

    choice : Places → Option (List ℕ)
    choice q = if takes_address q a then Some (write q) else None

    by-test : (b : Bool) → takes_address p a ≡ b → Makes o (edit.Addr side a) p xs (unwrap_or (if b then Some (write p) else None) xs)
    by-test false takes = inl refl
    by-test true takes =
        let beside = address-beside p xs side a h takes are in
        inr (record {
          at = address_place side p.version;
          bytes = address_bytes a;
          room = beside.0;
          set = λ i out. out;
          header = beside.1;
          transport = beside.2;
          is = refl;
        })

-- a port is before the checksum
port-end : (side : Side) (s : Segment) (at : ℕ) → port_place side (carried.Segment s) ≡ Some at → at + 2 ≤ checksum_place s
port-end Source s at is = let both = (if-Some (can_be_left s.protocol) s.start at).0 is in omega (arith, both.1, offset-left s.protocol both.0)
port-end Destination s at is = let both = (if-Some (can_be_left s.protocol) (s.start + 2) at).0 is in omega (arith, both.1, offset-left s.protocol both.0)

makes-port : (o : Offload) (p : Places) (xs : List ℕ) (side : Side) (n : ℕ) → Holds p xs → places_of xs ≡ Some p → Makes o (edit.Port side n) p xs (unwrap_or (port_set o xs side n) xs)
unfolding port_set
makes-port o p xs side n h is = subst (λ (q : Option Places). Makes o (edit.Port side n) p xs (unwrap_or (option_and_then choice q) xs)) (sym is) (by-place (port_place side p.carried) refl)
  where
    write : Places → ℕ → List ℕ
    write q at = edited o q xs at (big_bytes 2 n)

    choice : Places → Option (List ℕ)
    choice q = option_map (write q) (port_place side q.carried)

    by-place : (k : Option ℕ) → port_place side p.carried ≡ k → Makes o (edit.Port side n) p xs (unwrap_or (option_map (write p) k) xs)
    by-place None here = inl refl
    by-place (Some at) here =
        let within = port-in side p.carried p.version xs p.start at h.carried here in
        let least = least-end p.version in
        inr (record {
          at = at;
          bytes = big_bytes 2 n;
          room = omega (arith, within.1, port-room side p.carried p.version xs p.start at h.carried here);
          set = λ i out. out at here;
          header = λ four. inr (omega (arith, within.0, h.header, least));
          transport = λ s carries. inl (port-end side s at (subst (λ (c : Carried). port_place side c ≡ Some at) carries here));
          is = refl;
        })

makes-bytes : (o : Offload) (p : Places) (xs : List ℕ) (at : ℕ) (bor : Bor (List ℕ)) → Holds p xs → places_of xs ≡ Some p → Makes o (edit.Bytes at bor) p xs (unwrap_or (bytes_set o xs at bor.now) xs)
unfolding bytes_set
makes-bytes o p xs at bor h is =
    subst (λ (q : Option Places). Makes o (edit.Bytes at bor) p xs (unwrap_or (if nat_le (at + length bor.now) (length xs) then option_and_then choice q else None) xs)) (sym is)
    (by-length (nat_le (at + length bor.now) (length xs)) refl)
  where
    bytes : List ℕ
    bytes = bor.now

    choice : Places → Option (List ℕ)
    choice q = if allows q at (at + length bytes) then Some (edited o q xs at bytes) else None

    by-test : (b : Bool) → at + length bytes ≤ length xs → allows p at (at + length bytes) ≡ b → Makes o (edit.Bytes at bor) p xs (unwrap_or (if b then Some (edited o p xs at bytes) else None) xs)
    by-test false room allowed = inl refl
    by-test true room allowed =
        let n = length bytes in
        let both = both-true (keeps_header p.version p.start at (at + n)) (keeps_carried p.carried p at (at + n)) allowed in
        inr (record {
          at = at;
          bytes = bytes;
          room = room;
          set = λ i out. out;
          header = header-apart p.version p.start at n both.0;
          transport = λ s carries. transport-apart p.carried s p at n both.1 carries;
          is = refl;
        })

    by-length : (b : Bool) → nat_le (at + length bytes) (length xs) ≡ b → Makes o (edit.Bytes at bor) p xs (unwrap_or (if b then choice p else None) xs)
    by-length false fits = inl refl
    by-length true fits = by-test (allows p at (at + length bytes)) (grind (arith, nat_tests)) refl

makes : (o : Offload) (p : Places) (xs : List ℕ) (e : Edit) → Holds p xs → AreBytes xs → places_of xs ≡ Some p → HasAddress e → Makes o e p xs (unwrap_or (edit_made o xs e) xs)
makes o p xs (edit.HopLimit n) h all is are = makes-hop_limit o p xs n h all is
makes o p xs (edit.Dscp n) h all is are = makes-dscp o p xs n h all is
makes o p xs (edit.Addr side a) h all is are = makes-addr o p xs side a h is are
makes o p xs (edit.Port side n) h all is are = makes-port o p xs side n h is
makes o p xs (edit.Bytes at bytes) h all is are = makes-bytes o p xs at bytes h is

-- ---- the frame before and after an edit

-- what is known of both before and after an edit
pub record Known (o : Offload) (e : Edit) (xs ys : List ℕ) (p : Places) : Type 0 where
  pub is : places_of xs ≡ Some p
  pub stays : places_of ys ≡ Some p
  pub before : Holds p xs
  pub after : Holds p ys
  pub are : AreBytes xs
  pub now : AreBytes ys
  pub address : HasAddress e
  pub made : ys ≡ unwrap_or (edit_made o xs e) xs

pub known : (o : Offload) (e : Edit) (xs ys : List ℕ) (p : Places) (old new : Option Places) → old ≡ places_of xs → IfSome old (λ q. Holds q xs) → new ≡ places_of ys
    → IfSome new (λ q. Holds q ys) → places_of ys ≡ places_of xs → AreBytes xs → AreBytes ys → HasAddress e → ys ≡ unwrap_or (edit_made o xs e) xs → places_of xs ≡ Some p
    → Known o e xs ys p
known o e xs ys p old new was before now after stays are are_new address made is = record {
  is = is;
  stays = stays ∙ is;
  before = found old xs p was before is;
  after = found new ys p now after (stays ∙ is);
  are = are;
  now = are_new;
  address = address;
  made = made;
}

-- a byte that is not set
pub other-kept : (o : Offload) (e : Edit) (xs ys : List ℕ) (p : Places) (i : ℕ) → Known o e xs ys p → IsBeside e p i → OutsideHeaderChecksum p.version i
    → OutsideTransportChecksum p.carried i → slice_index ys i ≡ slice_index xs i
other-kept o e xs ys p i k beside header transport = elim (makes o p xs e k.before k.are k.is k.address) [
  | inl same ↦ ap (λ l. slice_index l i) (k.made ∙ same)
  | inr w ↦ ap (λ l. slice_index l i) (k.made ∙ w.is) ∙ edited-byte o p xs w.bytes w.at i k.before w.room (w.set i beside) header transport
]

-- the sum of an IPv4 header
header-same : (o : Offload) (e : Edit) (xs ys : List ℕ) (p : Places) → Known o e xs ys p → p.version ≡ version.Ipv4
    → sum_of_bytes (slice_range ys 14 p.start) % 65535 ≡ sum_of_bytes (slice_range xs 14 p.start) % 65535
header-same o e xs ys p k four = elim (makes o p xs e k.before k.are k.is k.address) [
  | inl same ↦ ap (λ l. sum_of_bytes (slice_range l 14 p.start) % 65535) (k.made ∙ same)
  | inr w ↦ ap (λ l. sum_of_bytes (slice_range l 14 p.start) % 65535) (k.made ∙ w.is) ∙ header-stays o p xs w.bytes w.at k.before four k.are w.room (w.header four)
]

pub header-kept : (o : Offload) (e : Edit) (xs ys : List ℕ) (p : Places) → Known o e xs ys p → p.version ≡ version.Ipv4 → HasHeaderChecksum xs ↔ HasHeaderChecksum ys
header-kept o e xs ys p k four =
    let old = tells xs p k.is in
    let new = tells ys p k.stays in
    let same = header-same o e xs ys p k four in
    (λ valid. header-valid p xs ys k.after old new four same valid, λ valid. header-valid p ys xs k.before new old four (sym same) valid)

-- the sum of a transport packet whose checksum is not left to the device
like : (o : Offload) (e : Edit) (xs ys : List ℕ) (p : Places) (s : Segment) → Known o e xs ys p → p.carried ≡ carried.Segment s → is_left o p.version s xs ≡ false
    → Alike s.protocol p.version s xs ys
like o e xs ys p s k is here = elim (makes o p xs e k.before k.are k.is k.address) [
  | inl same ↦ alike-same s.protocol p.version s xs ys (k.made ∙ same)
  | inr w ↦
      subst (λ (l : List ℕ). Alike s.protocol p.version s xs l) (sym (k.made ∙ w.is))
      (alike o p s xs w.bytes w.at k.before is k.are w.room (w.transport s is) here)
]

pub valid-kept : (o : Offload) (e : Edit) (xs ys : List ℕ) (p : Places) (s : Segment) → Known o e xs ys p → p.carried ≡ carried.Segment s
    → (o ≡ offload.Offloaded → can_be_left s.protocol ≡ false) → (s.protocol ≡ protocol.Icmp → 0 < sum_of_bytes (segment_bytes s ys))
    → HasTransportChecksum p.version s xs → HasTransportChecksum p.version s ys
valid-kept o e xs ys p s k is told some valid =
    let old = tells xs p k.is in
    let here = valid-not-left o p s xs k.before is old k.are told valid in
    transport-valid p s xs ys k.before k.after is old (tells ys p k.stays) k.are k.now (like o e xs ys p s k is here) some valid

pub wrong-kept : (o : Offload) (e : Edit) (xs ys : List ℕ) (p : Places) (s : Segment) → Known o e xs ys p → p.carried ≡ carried.Segment s → is_left o p.version s xs ≡ false
    → (s.protocol ≡ protocol.Icmp → 0 < sum_of_bytes (segment_bytes s xs)) → HasTransportChecksum p.version s ys → HasTransportChecksum p.version s xs
wrong-kept o e xs ys p s k is here some valid =
    transport-valid p s ys xs k.after k.before is (tells ys p k.stays) (tells xs p k.is) k.now k.are
    (alike-back s.protocol p.version s xs ys (like o e xs ys p s k is here)) some valid

-- one that is left to the device
pub left-kept : (o : Offload) (e : Edit) (xs ys : List ℕ) (p : Places) (s : Segment) → Known o e xs ys p → p.carried ≡ carried.Segment s → is_left o p.version s xs ≡ true
    → (o ≡ offload.Offloaded → word_at xs (checksum_place s) ≡ pseudo_header_sum p.version s xs) → word_at ys (checksum_place s) ≡ pseudo_header_sum p.version s ys
left-kept o e xs ys p s k is left said = elim (makes o p xs e k.before k.are k.is k.address) [
  | inl same ↦ subst (λ (l : List ℕ). word_at l (checksum_place s) ≡ pseudo_header_sum p.version s l) (sym (k.made ∙ same)) (left-is o p.version s xs left said)
  | inr w ↦
      subst (λ (l : List ℕ). word_at l (checksum_place s) ≡ pseudo_header_sum p.version s l) (sym (k.made ∙ w.is))
      (left-stays o p s xs w.bytes w.at k.before is k.are w.room (w.transport s is) left said)
]
