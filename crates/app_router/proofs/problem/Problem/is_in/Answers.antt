use Rattle.std.proofs.Common.{◌≡◌, ◌↔◌, ◌<◌, IsTrue, arith, drop, length, rules, subst, sym, true}
use Rattle.app_router.proofs.Problems.{no_packet, same_packet, short}
use Rattle.ip_wire.specs.Ip.{Reads, packet_bytes}
use Rattle.ip_wire.specs.Checksum.{verifies}
use Rattle.app_router.proofs.problem.Problem.is_in.Goals as goal

pub returns-then-frame-lt-ETHERNET_HEADER_LEN : goal.returns-then-frame-lt-ETHERNET_HEADER_LEN
returns-then-frame-lt-ETHERNET_HEADER_LEN c =
    let few : length c.args.frame.now < 14 = search (arith, rules) in
    (λ on. absurd cc, λ is. absurd (short c.args.frame.now c.args.self.now few is))

pub returns-in-Err : goal.returns-in-Err
returns-in-Err c =
    let verified : verifies c.default-caps.result.ipv4 ≡ true = search rules in
    let inside : packet_bytes c.new_unchecked-2.result ≡ drop 14 c.args.frame.now = search rules in
    let reads = rw (verified, inside) at c.parse.ensures.reads in
    (λ on. absurd cc, λ is. absurd (no_packet c.args.frame.now c.args.self.now (λ v r. let ok = (reads v).1 r in absurd (let other = c.in-Err.is in cc)) is))

pub returns-in-Ok : goal.returns-in-Ok
returns-in-Ok c =
    let frame = c.args.frame.now in
    let verified : verifies c.default-caps.result.ipv4 ≡ true = search rules in
    let inside : packet_bytes c.new_unchecked-2.result ≡ drop 14 frame = search rules in
    let reads = rw (verified, inside) at c.parse.ensures.reads in
    let following : c.payload-packet.result.now ≡ drop 14 frame = search rules in
    let has = rw following at c.is_of.ensures in
    let read = (reads c.in-Ok.header).0 c.in-Ok.is in
    (λ on. record { header = c.in-Ok.header; long = omega arith; reads = read; has = has.0 on }, λ is. has.1 (same_packet frame c.args.self.now c.in-Ok.header read is))

pub is_of-requires : goal.is_of-requires
is_of-requires c =
    let frame = c.args.frame.now in
    let verified : verifies c.default-caps.result.ipv4 ≡ true = search rules in
    let inside : packet_bytes c.new_unchecked-2.result ≡ drop 14 frame = search rules in
    let reads = rw (verified, inside) at c.parse.ensures.reads in
    let following : c.payload-packet.result.now ≡ drop 14 frame = search rules in
    subst (λ b. Reads b true c.in-Ok.header) (sym following) ((reads c.in-Ok.header).0 c.in-Ok.is)
