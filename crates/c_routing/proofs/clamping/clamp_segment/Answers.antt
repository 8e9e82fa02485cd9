use Rattle.std.proofs.Common.{◌≡◌, None, false, rules, true}
use Rattle.c_routing.proofs.Clampings.{is-syn, none-left, put-back}
use Rattle.c_routing.specs.Clamped.{with_size}
use Rattle.ip_wire.specs.Ip.{dst_addr_of, src_addr_of}
use Rattle.c_routing.proofs.clamping.clamp_segment.Goals as goal

pub returns-then-not-clamp-clause-when : goal.returns-then-not-clamp-clause-when
returns-then-not-clamp-clause-when c v payload r =
    let no : c.clamp.result ≡ false = search rules in
    (rw no at c.clamp.ensures.when) (src_addr_of c.args.header.now) (dst_addr_of c.args.header.now) false v payload r

pub returns-then-not-clamp-clause-lowered : goal.returns-then-not-clamp-clause-lowered
returns-then-not-clamp-clause-lowered c verified v payload said s d r above =
    let no : c.clamp.result ≡ false = search rules in
    let yes : c.clamp.result ≡ true = (c.clamp.ensures.when (src_addr_of c.args.header.now) (dst_addr_of c.args.header.now) verified v payload r).1 above in
    absurd (cc)

pub returns-in-Some-clause-when : goal.returns-in-Some-clause-when
returns-in-Some-clause-when c v payload r =
    let yes : c.clamp.result ≡ true = search rules in
    (rw yes at c.clamp.ensures.when) (src_addr_of c.args.header.now) (dst_addr_of c.args.header.now) false v payload r

pub returns-in-Some-clause-lowered : goal.returns-in-Some-clause-lowered
returns-in-Some-clause-lowered c verified v payload said s d r above =
    let src = src_addr_of c.args.header.now in
    let dst = dst_addr_of c.args.header.now in
    put-back c.args.offload src dst c.args.segment.now c.clamp.new.segment _ c.in-Some.sum verified v (with_size c.args.limit v) payload (search rules)
    said c.in-Some.ensures.some.1 r (c.clamp.ensures.lowered src dst verified v payload s d r above)

pub returns-in_default-clause-when : goal.returns-in_default-clause-when
returns-in_default-clause-when c v payload r =
    let yes : c.clamp.result ≡ true = search rules in
    (rw yes at c.clamp.ensures.when) (src_addr_of c.args.header.now) (dst_addr_of c.args.header.now) false v payload r

pub returns-in_default-clause-lowered : goal.returns-in_default-clause-lowered
returns-in_default-clause-lowered c verified v payload said s d r above =
    c.clamp.ensures.lowered (src_addr_of c.args.header.now) (dst_addr_of c.args.header.now) verified v payload s d r above

pub returns-in_default-clause-bytes : goal.returns-in_default-clause-bytes
returns-in_default-clause-bytes c =
    let src = src_addr_of c.args.header.now in
    let dst = dst_addr_of c.args.header.now in
    let (v, payload, r) = c.requires in
    let yes : c.clamp.result ≡ true = search rules in
    let above = (c.clamp.ensures.when src dst false v payload r).0 yes in
    let none : c.sum_left_to_device-left.result ≡ None = search rules in
    none-left c.args.offload src dst c.args.segment.now c.clamp.new.segment c.args.limit (rw yes at c.clamp.ensures.bytes)
    (c.sum_left_to_device-left.ensures.none none (is-syn c.args.segment.now src dst false v payload c.args.limit above r))
