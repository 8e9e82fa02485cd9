use Rattle.std.proofs.Common.{◌≡◌, ◌∙◌, drop, false, refl, rules, sym, true}
use Rattle.app_host.proofs.KindReplies.{unread}
use Rattle.app_host.proofs.Skips.{itself, without-ipv4}
use Rattle.ip_wire.proofs.Found.{reads-nothing}
use Rattle.ip_wire.specs.Checksum.{verifies}
use Rattle.ip_wire.specs.Frame.{all_checked}
use Rattle.ip_wire.specs.Ipv4 as ipv4
use Rattle.ip_wire.specs.declared.Carried.TheVariants as carried
use Rattle.app_host.proofs.kinds.answer_ipv4.Goals as goal

pub returns-in-Ok : goal.returns-in-Ok
returns-in-Ok c =
    let frame = c.args.frame.now in
    let verified : verifies c.default.result.ipv4 ≡ true = search rules in
    let inside : ipv4.packet_bytes c.new_unchecked-packet.result ≡ drop 14 frame = search rules in
    let reads = rw (verified, inside) at c.parse.ensures.reads in
    let part : ipv4.is_fragment (drop 14 frame) ≡ true = search rules in
    unread c.args.host.now frame (record { header = c.args.link; carried = carried.Fragment c.new_unchecked-packet.result }) c.args.out.now
    (itself frame _ (without-ipv4 frame c.args.link c.requires.link c.requires.ethertype)
    (record { header = c.requires.link; carried = (inside, part, (_, (c.requires.ethertype, (reads c.in-Ok.field-0).0 c.in-Ok.is))) }))
    refl

pub answer_packet-requires-clause-link : goal.answer_packet-requires-clause-link
answer_packet-requires-clause-link c = rw (without-ipv4 c.args.frame.now c.args.link c.requires.link c.requires.ethertype) c.requires.link

pub answer_packet-requires-clause-header : goal.answer_packet-requires-clause-header
answer_packet-requires-clause-header c =
    let frame = c.args.frame.now in
    let verified : verifies c.default.result.ipv4 ≡ true = search rules in
    let inside : ipv4.packet_bytes c.new_unchecked-packet.result ≡ drop 14 frame = search rules in
    let reads = rw (verified, inside) at c.parse.ensures.reads in
    let whole : ipv4.is_fragment (drop 14 frame) ≡ false = search rules in
    rw (without-ipv4 frame c.args.link c.requires.link c.requires.ethertype) ((reads c.in-Ok.field-0).0 c.in-Ok.is, whole)

pub answer_packet-requires-clause-payload : goal.answer_packet-requires-clause-payload
answer_packet-requires-clause-payload c =
    let inside : ipv4.packet_bytes c.new_unchecked-packet.result ≡ drop 14 c.args.frame.now = search rules in
    rw (without-ipv4 c.args.frame.now c.args.link c.requires.link c.requires.ethertype) (rw inside at c.payload.ensures)

pub returns-in-Err : goal.returns-in-Err
returns-in-Err c =
    let frame = c.args.frame.now in
    let verified : verifies c.default.result.ipv4 ≡ true = search rules in
    let inside : ipv4.packet_bytes c.new_unchecked-packet.result ≡ drop 14 frame = search rules in
    let reads = rw (verified, inside) at c.parse.ensures.reads in
    let link = c.args.link in
    unread c.args.host.now frame (record { header = link; carried = carried.Unread c.args.bytes }) c.args.out.now
    (itself frame _ (without-ipv4 frame link c.requires.link c.requires.ethertype) (record {
      header = c.requires.link;
      carried = (
        reads-nothing all_checked link.ethertype (drop 14 frame) (λ w type r. let apart = sym c.requires.ethertype ∙ type in cc)
            (λ w type r. let ok = (reads w).1 r in let is = c.in-Err.is in cc) (λ w type r. let apart = sym c.requires.ethertype ∙ type in cc),
        c.requires.bytes,
      );
    }))
    refl
