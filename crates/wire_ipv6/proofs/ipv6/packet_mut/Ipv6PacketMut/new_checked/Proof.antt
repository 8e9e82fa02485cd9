-- `new_checked` accepts bytes with a whole header and the payload length that it names. Assumes `Logic`.
use Rattle.net_base.proofs.Checks.{error, makes_checked}
use Rattle.wire_ipv6.specs.Ipv6.{HasLengths}
use Rattle.wire_ipv6.proofs.Ipv6Viewed.{view}
use Rattle.wire_ipv6.proofs.ipv6.packet_mut.check.Symbol as check
use Rattle.wire_ipv6.proofs.ipv6.packet_mut.check.Met.{met}
use Rattle.wire_ipv6.specs.contracts.ipv6.packet_mut.Ipv6PacketMut.new_checked.Key as key
use Rattle.wire_ipv6.proofs.ipv6.packet_mut.Ipv6PacketMut.new_checked.Statement.{statement}
use Rattle.wire_ipv6.proofs.ipv6.packet_mut.Ipv6PacketMut.new_checked.Code as code

pub new_checked_spec : {M : Type 1} → statement M
new_checked_spec 𝓤 𝓛 𝓜 𝓡 wired =
    makes_checked view error HasLengths 𝓛 𝓜 𝓡 check.name (met 𝓤 𝓛 𝓜 𝓡 (code.calls-wire_ipv6::ipv6::packet_mut::check 𝓡.env wired))
    key.name (code.unfolded 𝓤 𝓛.H 𝓜 𝓡 wired)
