-- `new_checked` accepts bytes with a whole header and the length that it names. Assumes `Logic`.
use Rattle.net_base.proofs.Checks.{error, makes_checked}
use Rattle.wire_udp.specs.Udp.{HasLengths}
use Rattle.wire_udp.proofs.UdpViewed.{view}
use Rattle.wire_udp.proofs.udp.packet_mut.check.Symbol as check
use Rattle.wire_udp.proofs.udp.packet_mut.check.Met.{met}
use Rattle.wire_udp.specs.contracts.udp.packet_mut.UdpPacketMut.new_checked.Key as key
use Rattle.wire_udp.proofs.udp.packet_mut.UdpPacketMut.new_checked.Statement.{statement}
use Rattle.wire_udp.proofs.udp.packet_mut.UdpPacketMut.new_checked.Code as code

pub new_checked_spec : {M : Type 1} → statement M
new_checked_spec 𝓤 𝓛 𝓜 𝓡 wired =
    makes_checked view error HasLengths 𝓛 𝓜 𝓡 check.name (met 𝓤 𝓛 𝓜 𝓡 (code.calls-wire_udp::udp::packet_mut::check 𝓡.env wired))
    key.name (code.unfolded 𝓤 𝓛.H 𝓜 𝓡 wired)
