use Rattle.std.proofs.Common.{◌≡◌, ◌∙◌, arith, subst, sym}
use Rattle.wire_arp.specs.Arp.{hardware_len, packet_bytes_mut, protocol_len, source_hardware_end, source_protocol_end, target_hardware_end, target_protocol_end}
use Rattle.wire_arp.specs.ArpFields.{Fits, after}
use Rattle.wire_arp.specs.declared.laws.ArpSetting.{ArpSetting}
use Rattle.wire_arp.proofs.ArpNumbers.{address-written}
use Rattle.wire_arp.proofs.laws.setter_writes_one_field_arp.Goals as goal

pub returns-in-SourceHardwareAddr : goal.returns-in-SourceHardwareAddr
returns-in-SourceHardwareAddr c =
    let long = subst (λ (s : ArpSetting). Fits s (packet_bytes_mut c.args.packet.now)) c.in-SourceHardwareAddr.is c.requires.fits in
    subst (λ (s : ArpSetting). packet_bytes_mut c.set_source_hardware_addr.new.self ≡ after s (packet_bytes_mut c.args.packet.now)) (sym c.in-SourceHardwareAddr.is)
    (c.set_source_hardware_addr.ensures.holds ∙ address-written (packet_bytes_mut c.args.packet.now) c.in-SourceHardwareAddr.x.now 8 (source_hardware_end (packet_bytes_mut c.args.packet.now)) (hardware_len (packet_bytes_mut c.args.packet.now)) 64 c.bytes_fit.ensures long (omega arith) (omega arith))

pub returns-in-SourceProtocolAddr : goal.returns-in-SourceProtocolAddr
returns-in-SourceProtocolAddr c =
    let long = subst (λ (s : ArpSetting). Fits s (packet_bytes_mut c.args.packet.now)) c.in-SourceProtocolAddr.is c.requires.fits in
    subst (λ (s : ArpSetting). packet_bytes_mut c.set_source_protocol_addr.new.self ≡ after s (packet_bytes_mut c.args.packet.now)) (sym c.in-SourceProtocolAddr.is)
    (c.set_source_protocol_addr.ensures.holds ∙ address-written (packet_bytes_mut c.args.packet.now) c.in-SourceProtocolAddr.x.now (source_hardware_end (packet_bytes_mut c.args.packet.now)) (source_protocol_end (packet_bytes_mut c.args.packet.now)) (protocol_len (packet_bytes_mut c.args.packet.now)) _ c.bytes_fit-in-SourceProtocolAddr.ensures long (omega arith) (omega arith))

pub returns-in-TargetHardwareAddr : goal.returns-in-TargetHardwareAddr
returns-in-TargetHardwareAddr c =
    let long = subst (λ (s : ArpSetting). Fits s (packet_bytes_mut c.args.packet.now)) c.in-TargetHardwareAddr.is c.requires.fits in
    subst (λ (s : ArpSetting). packet_bytes_mut c.set_target_hardware_addr.new.self ≡ after s (packet_bytes_mut c.args.packet.now)) (sym c.in-TargetHardwareAddr.is)
    (c.set_target_hardware_addr.ensures.holds ∙ address-written (packet_bytes_mut c.args.packet.now) c.in-TargetHardwareAddr.x.now (source_protocol_end (packet_bytes_mut c.args.packet.now)) (target_hardware_end (packet_bytes_mut c.args.packet.now)) (hardware_len (packet_bytes_mut c.args.packet.now)) _ c.bytes_fit-in-TargetHardwareAddr.ensures long (omega arith) (omega arith))

pub returns-in-TargetProtocolAddr : goal.returns-in-TargetProtocolAddr
returns-in-TargetProtocolAddr c =
    let long = subst (λ (s : ArpSetting). Fits s (packet_bytes_mut c.args.packet.now)) c.in-TargetProtocolAddr.is c.requires.fits in
    subst (λ (s : ArpSetting). packet_bytes_mut c.set_target_protocol_addr.new.self ≡ after s (packet_bytes_mut c.args.packet.now)) (sym c.in-TargetProtocolAddr.is)
    (c.set_target_protocol_addr.ensures.holds ∙ address-written (packet_bytes_mut c.args.packet.now) c.in-TargetProtocolAddr.x.now (target_hardware_end (packet_bytes_mut c.args.packet.now)) (target_protocol_end (packet_bytes_mut c.args.packet.now)) (protocol_len (packet_bytes_mut c.args.packet.now)) _ c.bytes_fit-in-TargetProtocolAddr.ensures long (omega arith) (omega arith))
