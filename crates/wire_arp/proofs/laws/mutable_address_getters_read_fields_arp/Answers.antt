use Rattle.std.proofs.Common.{◌≤◌, length, arith, subst, sym}
use Rattle.net_base.proofs.Spelled.{AreBytes}
use Rattle.net_base.specs.Diagram.{end_of}
use Rattle.wire_arp.specs.Arp.{hardware_len, packet_bytes_mut, source_hardware_end}
use Rattle.wire_arp.specs.ArpFields.{IsGot, address_of, widths}
use Rattle.wire_arp.specs.declared.laws.ArpAddressGetting.{ArpAddressGetting}
use Rattle.wire_arp.proofs.ArpNumbers.{address_read}
use Rattle.wire_arp.proofs.laws.mutable_address_getters_read_fields_arp.Goals as goal
use Rattle.std.proofs.lemmas.Grind.{common_steps}
use Rattle.std.proofs.lemmas.Bool.Decides.{nat_tests}

pub returns-in-SourceHardwareAddr : goal.returns-in-SourceHardwareAddr
returns-in-SourceHardwareAddr c =
    let room = subst (λ (g : ArpAddressGetting). end_of (widths (packet_bytes_mut c.args.packet.now)) (address_of g) ≤ length (packet_bytes_mut c.args.packet.now)) c.in-SourceHardwareAddr.is c.requires in
    let (long, number) = address_read (packet_bytes_mut c.args.packet.now) c.source_hardware_addr.result.now 8 (source_hardware_end (packet_bytes_mut c.args.packet.now)) (hardware_len (packet_bytes_mut c.args.packet.now)) _ (subst AreBytes c.as_bytes.ensures c.bytes_fit.ensures) c.source_hardware_addr.ensures (omega (arith, room)) (omega arith) (omega arith) in
    subst (λ (g : ArpAddressGetting). IsGot g c.source_hardware_addr.result.now (packet_bytes_mut c.args.packet.now)) (sym c.in-SourceHardwareAddr.is) (record { width = omega (arith, long); number = number })

pub returns-in-SourceProtocolAddr : goal.returns-in-SourceProtocolAddr
returns-in-SourceProtocolAddr c =
    let room = subst (λ (g : ArpAddressGetting). end_of (widths (packet_bytes_mut c.args.packet.now)) (address_of g) ≤ length (packet_bytes_mut c.args.packet.now)) c.in-SourceProtocolAddr.is c.requires in
    grind (arith, common_steps, nat_tests, address_read, room)

pub returns-in-TargetHardwareAddr : goal.returns-in-TargetHardwareAddr
returns-in-TargetHardwareAddr c =
    let room = subst (λ (g : ArpAddressGetting). end_of (widths (packet_bytes_mut c.args.packet.now)) (address_of g) ≤ length (packet_bytes_mut c.args.packet.now)) c.in-TargetHardwareAddr.is c.requires in
    grind (arith, common_steps, nat_tests, address_read, room)

pub returns-in-TargetProtocolAddr : goal.returns-in-TargetProtocolAddr
returns-in-TargetProtocolAddr c = grind (arith, common_steps, nat_tests, address_read)
