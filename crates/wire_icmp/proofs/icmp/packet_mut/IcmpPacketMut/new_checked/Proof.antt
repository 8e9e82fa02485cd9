-- `new_checked` accepts bytes with a whole header. Assumes `Logic`.
use Rattle.net_base.proofs.Checks.{error, makes_checked}
use Rattle.wire_icmp.specs.Icmp.{HasHeader}
use Rattle.wire_icmp.proofs.IcmpViewed.{view}
use Rattle.wire_icmp.proofs.icmp.packet_mut.check.Symbol as check
use Rattle.wire_icmp.proofs.icmp.packet_mut.check.Met.{met}
use Rattle.wire_icmp.specs.contracts.icmp.packet_mut.IcmpPacketMut.new_checked.Key as key
use Rattle.wire_icmp.proofs.icmp.packet_mut.IcmpPacketMut.new_checked.Statement.{statement}
use Rattle.wire_icmp.proofs.icmp.packet_mut.IcmpPacketMut.new_checked.Code as code

pub new_checked_spec : {M : Type 1} → statement M
new_checked_spec 𝓤 𝓛 𝓜 𝓡 wired =
    makes_checked view error HasHeader 𝓛 𝓜 𝓡 check.name (met 𝓤 𝓛 𝓜 𝓡 (code.calls-wire_icmp::icmp::packet_mut::check 𝓡.env wired))
    key.name (code.unfolded 𝓤 𝓛.H 𝓜 𝓡 wired)
