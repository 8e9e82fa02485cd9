use Rattle.std.proofs.Common.{◌≡◌, rules}
use Rattle.app_short.proofs.Rejected.{rejected}
use Rattle.ip_wire.specs.Udp.{packet_bytes}
use Rattle.ip_wire.specs.declared.IpAddress.TheVariants.{Ipv4}
use Rattle.ip_wire.specs.Checksum.{verifies}
use Rattle.app_short.proofs.verify_checksum.parse_udp_ports.Goals as goal

pub returns-clause-reads : goal.returns-clause-reads
returns-clause-reads c =
    let bytes : packet_bytes c.new_unchecked-packet.result ≡ c.args.packet.now = search rules in
    rw bytes at c.parse.ensures.reads

pub returns-clause-rejected : goal.returns-clause-rejected
returns-clause-rejected c =
    let bytes : packet_bytes c.new_unchecked-packet.result ≡ c.args.packet.now = search rules in
    rejected c.args.packet.now (Ipv4 c.args.src_addr) (Ipv4 c.args.dst_addr) (verifies c.args.caps.now.udp) _ (rw bytes at c.parse.ensures.reads)
