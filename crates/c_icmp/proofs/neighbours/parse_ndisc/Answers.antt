use Rattle.std.proofs.Common.{◌≡◌, drop, rules}
use Rattle.ip_wire.specs.Ethernet as ethernet
use Rattle.ip_wire.specs.Ipv6 as ipv6
use Rattle.ip_wire.specs.declared.EthernetProtocol.TheVariants as ethertype
use Rattle.c_icmp.proofs.Ndiscs.{in-packet, no-header, no-packet, other-type}
use Rattle.c_icmp.proofs.neighbours.parse_ndisc.Goals as goal

pub returns-in-Ok-parse : goal.returns-in-Ok-parse
returns-in-Ok-parse c =
    let frame = c.args.frame.now in
    let view : ethernet.frame_bytes c.new_unchecked-view.result ≡ frame = search rules in
    let reads = rw view at c.parse.ensures.reads in
    let inside : ipv6.packet_bytes c.new_unchecked-packet.result ≡ drop 14 frame = search rules in
    let reads_packet = rw inside at c.parse-2.ensures.reads in
    let following : c.payload-in-Ok-parse.result.now ≡ ipv6.payload_of (drop 14 frame) = search rules in
    let type : c.in-Ok.link.ethertype ≡ ethertype.Ipv6 = search rules in
    in-packet frame c.payload-in-Ok-parse.result.now c.in-Ok.link c.in-Ok-parse.ip c.parse_message.result ((reads c.in-Ok.link).0 c.in-Ok.is) type
    ((reads_packet c.in-Ok-parse.ip).0 c.in-Ok-parse.is) (λ w r. let ok = (reads_packet w).1 r in let is = c.in-Ok-parse.is in cc) following c.parse_message.ensures

pub returns-in-Err : goal.returns-in-Err
returns-in-Err c =
    let frame = c.args.frame.now in
    let inside : ipv6.packet_bytes c.new_unchecked-packet.result ≡ drop 14 frame = search rules in
    let reads_packet = rw inside at c.parse-2.ensures.reads in
    no-packet frame (λ w r. absurd (let ok = (reads_packet w).1 r in let is = c.in-Err.is in cc))

pub returns-then-ne : goal.returns-then-ne
returns-then-ne c =
    let frame = c.args.frame.now in
    let view : ethernet.frame_bytes c.new_unchecked-view.result ≡ frame = search rules in
    let reads = rw view at c.parse.ensures.reads in
    other-type frame c.in-Ok.link (λ h r. let ok = (reads h).1 r in let is = c.in-Ok.is in cc) (search rules)

pub returns-in_default : goal.returns-in_default
returns-in_default c =
    let view : ethernet.frame_bytes c.new_unchecked-view.result ≡ c.args.frame.now = search rules in
    let reads = rw view at c.parse.ensures.reads in
    no-header c.args.frame.now (λ h r. let ok = (reads h).1 r in absurd (let other = c.in_default.is in cc))
