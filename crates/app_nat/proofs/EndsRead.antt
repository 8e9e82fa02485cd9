-- What a packet is read as with another port, after an address of its pseudo-header changed.
use Rattle.std.proofs.Common.{ℕ, ◌≡◌, ◌≤◌, ◌<◌, ◌-◌, ◌==◌, if◌then◌else◌, Bool, true, false, List, length, refl, arith}
use Rattle.ip_wire.proofs.Spelled.{AreBytes}
use Rattle.ip_wire.proofs.TcpChanged as tcp_changed
use Rattle.ip_wire.proofs.UdpChanged as udp_changed
use Rattle.ip_wire.specs.Field.{field, with_field}
use Rattle.ip_wire.specs.TcpRepr as tcp_repr
use Rattle.ip_wire.specs.TcpRepr.{TcpHeader}
use Rattle.ip_wire.specs.Types.{Ipv4Repr, UdpRepr}
use Rattle.ip_wire.specs.Udp as udp
use Rattle.ip_wire.specs.WordSum.{sum_of_bytes, updated}
use Rattle.ip_wire.specs.declared.IpAddress.TheVariants as address
use Rattle.ip_wire.proofs.Written.{AreBytes-with_field, length_with_field}
use Rattle.ip_wire.proofs.Sums.{valid-dst_addr, valid-src_addr, valid_word}
use Rattle.ip_wire.proofs.UdpUpdated.{reads-updated, valid-addresses, valid-port}
use Rattle.app_nat.proofs.Translates.{even, moved-end}
use Rattle.app_edit.specs.Sides.{opposite}
use Rattle.app_nat.specs.Nat.{Rewrites, addr_of, datagram, segment, with_tcp_end, with_tcp_port, with_udp_end, with_udp_port}
use Rattle.app_edit.specs.declared.side.Side.{Side}
use Rattle.app_edit.specs.declared.side.Side.TheVariants.{Source, Destination}

-- ---- TCP

pub tcp-rewrites : (side : Side) (v : Ipv4Repr) (l old new : List ℕ) (x : ℕ) (u : TcpHeader) (payload : List ℕ) → AreBytes l → 18 ≤ length l → x < 65536
    → length old ≡ 4 → length new ≡ 4 → length (addr_of (opposite side) v) ≡ 4 → addr_of side v ≡ old → Rewrites v l (with_tcp_end side old new x l) side new x (segment u payload)
tcp-rewrites Source v l old new x u payload are room fits o n far own a r =
    let sum = updated (field l 128 16) (sum_of_bytes old) (sum_of_bytes new) in
    let mid = with_field l 128 16 sum in
    let mid_are : AreBytes mid = AreBytes-with_field l 128 16 sum are (omega arith) (omega (arith, room)) in
    let long : length mid ≡ length l = length_with_field l 128 16 sum (omega arith) (omega (arith, room)) in (
      r.0,
      moved-end tcp_repr.Reads (with_tcp_port Source x) l mid (with_tcp_end Source old new x l) new v.src_addr v.dst_addr old own n far
          (λ d b w q f g. tcp_changed.reads-summed l mid _ (address.Ipv4 old) d (address.Ipv4 new) d b b w q refl g
          (λ on. valid-src_addr (address.Ipv4 old) d (address.Ipv4 new) l are (even old o) f (even new n) room (g.checksum on)))
          (λ s d b w q f g h. tcp_changed.reads-summed (with_field mid 0 16 x) (with_tcp_end Source old new x l) _ s d s d false b (record w { src_port = x }) q refl
          (tcp_changed.reads-src_port mid x s d b false w q fits a h (λ no. cc)) (λ on. valid_word s d mid 0 x mid_are fits (omega arith) f g (omega (arith, long, room)) (h.checksum on)))
          u payload r.1,
    )
tcp-rewrites Destination v l old new x u payload are room fits o n far own a r =
    let sum = updated (field l 128 16) (sum_of_bytes old) (sum_of_bytes new) in
    let mid = with_field l 128 16 sum in
    let mid_are : AreBytes mid = AreBytes-with_field l 128 16 sum are (omega arith) (omega (arith, room)) in
    let long : length mid ≡ length l = length_with_field l 128 16 sum (omega arith) (omega (arith, room)) in (
      r.0,
      moved-end (λ m d s. tcp_repr.Reads m s d) (with_tcp_port Destination x) l mid (with_tcp_end Destination old new x l) new v.dst_addr v.src_addr old own n far
          (λ s b w q f g. tcp_changed.reads-summed l mid _ s (address.Ipv4 old) s (address.Ipv4 new) b b w q refl g
          (λ on. valid-dst_addr s (address.Ipv4 old) (address.Ipv4 new) l are f (even old o) (even new n) room (g.checksum on)))
          (λ d s b w q g f h. tcp_changed.reads-summed (with_field mid 16 16 x) (with_tcp_end Destination old new x l) _ s d s d false b (record w { dst_port = x }) q refl
          (tcp_changed.reads-dst_port mid x s d b false w q fits a h (λ no. cc)) (λ on. valid_word s d mid 1 x mid_are fits (omega arith) f g (omega (arith, long, room)) (h.checksum on)))
          u payload r.1,
    )

-- ---- UDP

AreBytes-updated : (l : List ℕ) (a b : ℕ) → AreBytes l → 8 ≤ length l → AreBytes (udp.with_updated_checksum l a b)
AreBytes-updated l a b are room = by_case (field l 48 16 == 0)
  where
    by_case : (none : Bool) → AreBytes (if none then l else with_field l 48 16 (udp.checksum_for (65535 - updated (field l 48 16) a b)))
    by_case true = are
    by_case false = AreBytes-with_field l 48 16 (udp.checksum_for (65535 - updated (field l 48 16) a b)) are (omega arith) (omega (arith, room))

pub udp-rewrites : (side : Side) (v : Ipv4Repr) (l old new : List ℕ) (x : ℕ) (u : UdpRepr) (payload : List ℕ) → AreBytes l → 8 ≤ length l → x < 65536
    → length old ≡ 4 → length new ≡ 4 → length (addr_of (opposite side) v) ≡ 4 → addr_of side v ≡ old → Rewrites v l (with_udp_end side old new x l) side new x (datagram u payload)
udp-rewrites Source v l old new x u payload are room fits o n far own a r =
    let mid = udp.with_updated_checksum l (sum_of_bytes old) (sum_of_bytes new) in
    let mid_are : AreBytes mid = AreBytes-updated l (sum_of_bytes old) (sum_of_bytes new) are room in
    let done = with_udp_end Source old new x l in (
      r.0,
      moved-end udp.Reads (with_udp_port Source x) l mid done new v.src_addr v.dst_addr old own n far
          (λ d b w q f g. reads-updated l mid (sum_of_bytes old) (sum_of_bytes new) (address.Ipv4 old) d (address.Ipv4 new) d b b w q refl g
          (λ on. valid-addresses (address.Ipv4 old) d (address.Ipv4 new) d l old new are (even old o) f (even new n) f refl g.lengths (omega arith) (g.checksum on)))
          (λ s d b w q f g h. reads-updated (with_field mid 0 16 x) done (field mid 0 16) x s d s d false b (record w { src_port = x }) q refl
          (udp_changed.reads-src_port mid x s d b false w q fits h (λ no. cc)) (λ on. valid-port s d mid 0 x mid_are fits (omega arith) f g h.lengths (h.checksum on)))
          u payload r.1,
    )
udp-rewrites Destination v l old new x u payload are room fits o n far own a r =
    let mid = udp.with_updated_checksum l (sum_of_bytes old) (sum_of_bytes new) in
    let mid_are : AreBytes mid = AreBytes-updated l (sum_of_bytes old) (sum_of_bytes new) are room in
    let done = with_udp_end Destination old new x l in (
      r.0,
      moved-end (λ m d s. udp.Reads m s d) (with_udp_port Destination x) l mid done new v.dst_addr v.src_addr old own n far
          (λ s b w q f g. reads-updated l mid (sum_of_bytes old) (sum_of_bytes new) s (address.Ipv4 old) s (address.Ipv4 new) b b w q refl g
          (λ on. valid-addresses s (address.Ipv4 old) s (address.Ipv4 new) l old new are f (even old o) f (even new n) refl g.lengths (omega arith) (g.checksum on)))
          (λ d s b w q g f h. reads-updated (with_field mid 16 16 x) done (field mid 16 16) x s d s d false b (record w { dst_port = x }) q refl
          (udp_changed.reads-dst_port mid x s d b false w q fits a h (λ no. cc)) (λ on. valid-port s d mid 1 x mid_are fits (omega arith) f g h.lengths (h.checksum on)))
          u payload r.1,
    )
