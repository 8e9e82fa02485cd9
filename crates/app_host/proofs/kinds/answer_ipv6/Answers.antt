use Rattle.std.proofs.Common.{ℕ, ◌≡◌, ◌∙◌, List, ap, arith, drop, refl, rules, subst, sym}
use Rattle.app_host.proofs.KindReplies.{unread}
use Rattle.app_host.proofs.Skips.{ReadsPast, itself, taken, without-packet}
use Rattle.app_host.specs.Skipped.{past, without_extensions}
use Rattle.ip_wire.proofs.Found.{reads-nothing}
use Rattle.ip_wire.proofs.PacketPayloads.{packet_payload-fits, packet_payload-len}
use Rattle.ip_wire.specs.Frame.{all_checked}
use Rattle.ip_wire.specs.Ethernet as ethernet
use Rattle.ip_wire.specs.Ipv6 as ipv6
use Rattle.ip_wire.specs.Types.{EthernetRepr, Ipv6, Ipv6Repr}
use Rattle.ip_wire.specs.declared.EthernetProtocol.TheVariants as ethertype
use Rattle.ip_wire.specs.declared.Carried.TheVariants as carried
use Rattle.app_host.proofs.kinds.answer_ipv6.Goals as goal

-- the packet without the extension headers that are skipped
left : (frame payload : List ℕ) (link : EthernetRepr) (v w : Ipv6Repr) (m : List ℕ) → ethernet.Reads frame link → link.ethertype ≡ ethertype.Ipv6 → ipv6.Reads (drop 14 frame) v
    → payload ≡ ipv6.payload_of (drop 14 frame) → (w, m) ≡ past v payload → ReadsPast (without_extensions frame) link w m
left frame payload link v w m link_reads type reads inner is =
    let all : (w, m) ≡ past v (ipv6.payload_of (drop 14 frame)) = is ∙ ap (past v) inner in
    subst (λ (x : Ipv6Repr × List ℕ). ReadsPast (without_extensions frame) link x.0 x.1) (sym all) (taken frame link v link_reads type reads)

pub without_extensions-value-requires : goal.without_extensions-value-requires
without_extensions-value-requires c =
    let inside : ipv6.packet_bytes c.new_unchecked-packet.result ≡ drop 14 c.args.frame.now = search rules in
    let reads = (rw inside at c.parse.ensures.reads) in
    let v = c.in-Ok.value in
    let read = (reads v).0 c.in-Ok.is in
    let payload : c.payload.result.now ≡ ipv6.payload_of (drop 14 c.args.frame.now) = rw inside at c.payload.ensures in
    rw payload (omega (arith, packet_payload-len all_checked (drop 14 c.args.frame.now) (Ipv6 v) read, packet_payload-fits all_checked (drop 14 c.args.frame.now) (Ipv6 v) read))

pub answer_packet-requires-clause-link : goal.answer_packet-requires-clause-link
answer_packet-requires-clause-link c =
    let inside : ipv6.packet_bytes c.new_unchecked-packet.result ≡ drop 14 c.args.frame.now = search rules in
    let reads = (rw inside at c.parse.ensures.reads) in
    (left c.args.frame.now c.payload.result.now c.args.link c.in-Ok.value c.without_extensions-value.result.0 c.without_extensions-value.result.1.now c.requires.link c.requires.ethertype
    ((reads c.in-Ok.value).0 c.in-Ok.is) (rw inside at c.payload.ensures) c.without_extensions-value.ensures).reads_link

pub answer_packet-requires-clause-header : goal.answer_packet-requires-clause-header
answer_packet-requires-clause-header c =
    let inside : ipv6.packet_bytes c.new_unchecked-packet.result ≡ drop 14 c.args.frame.now = search rules in
    let reads = (rw inside at c.parse.ensures.reads) in
    (left c.args.frame.now c.payload.result.now c.args.link c.in-Ok.value c.without_extensions-value.result.0 c.without_extensions-value.result.1.now c.requires.link c.requires.ethertype
    ((reads c.in-Ok.value).0 c.in-Ok.is) (rw inside at c.payload.ensures) c.without_extensions-value.ensures).header

pub answer_packet-requires-clause-payload : goal.answer_packet-requires-clause-payload
answer_packet-requires-clause-payload c =
    let inside : ipv6.packet_bytes c.new_unchecked-packet.result ≡ drop 14 c.args.frame.now = search rules in
    let reads = (rw inside at c.parse.ensures.reads) in
    (left c.args.frame.now c.payload.result.now c.args.link c.in-Ok.value c.without_extensions-value.result.0 c.without_extensions-value.result.1.now c.requires.link c.requires.ethertype
    ((reads c.in-Ok.value).0 c.in-Ok.is) (rw inside at c.payload.ensures) c.without_extensions-value.ensures).payload

pub returns-in-Err : goal.returns-in-Err
returns-in-Err c =
    let frame = c.args.frame.now in
    let inside : ipv6.packet_bytes c.new_unchecked-packet.result ≡ drop 14 frame = search rules in
    let reads = rw inside at c.parse.ensures.reads in
    let link = c.args.link in
    unread c.args.host.now frame (record { header = link; carried = carried.Unread c.args.bytes }) c.args.out.now
    (itself frame _ (without-packet frame link c.requires.link c.requires.ethertype (λ w r. let ok = (reads w).1 r in let is = c.in-Err.is in cc)) (record {
      header = c.requires.link;
      carried = (
        reads-nothing all_checked link.ethertype (drop 14 frame) (λ w type r. let apart = sym c.requires.ethertype ∙ type in cc)
            (λ w type r. let apart = sym c.requires.ethertype ∙ type in cc) (λ w type r. let ok = (reads w).1 r in let is = c.in-Err.is in cc),
        c.requires.bytes,
      );
    }))
    refl
