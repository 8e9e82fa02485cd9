use Rattle.std.proofs.Common.{ℕ, ◌≡◌, ◌<◌, ◌^◌, List, ◌++◌, ap, length, rules, subst, sym, append_assoc, arith}
use Rattle.ip_wire.proofs.EthernetLayer.{drop-bytes_of}
use Rattle.ip_wire.specs.Frame.{ReadsFrame, message}
use Rattle.wire_arp.proofs.ArpEmitted as arp_packet
use Rattle.wire_ethernet.proofs.EthernetEmitted as ethernet_header
use Rattle.wire_arp.specs.Arp as arp
use Rattle.wire_ethernet.specs.Ethernet as ethernet
use Rattle.ip_wire.proofs.laws.back.frame_composes_arp.Goals as goal

pub returns : goal.returns
returns c =
    let header = c.args.header in
    let value = c.args.value in
    let carried = arp.bytes_of value ++ c.args.padding.now in
    let dst : length header.dst_addr.0 ≡ 6 = search rules in
    let src : length header.src_addr.0 ≡ 6 = search rules in
    let number : ethernet.number_of header.ethertype < 2 ^ 16 = rw c.requires (omega arith) in
    let in_range : arp_packet.IsInRange value = search rules in
    let read = arp_packet.reads_bytes_of value c.args.padding.now in_range in
    let inner = subst (λ (bytes : List ℕ). arp.Reads bytes (arp.normal value)) (sym (drop-bytes_of header carried dst src)) read in
    subst (λ (bytes : List ℕ). ReadsFrame c.args.received bytes (ethernet.normal header) (message (arp.normal value)))
    (sym (append_assoc (ethernet.bytes_of header) (arp.bytes_of value) c.args.padding.now))
    (record {
      reads_header = ethernet_header.reads_bytes_of header carried dst src number;
      reads_carried = (ap ethernet.protocol_of c.requires, inner);
    })
