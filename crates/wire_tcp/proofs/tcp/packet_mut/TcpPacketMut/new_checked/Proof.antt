-- `new_checked` accepts bytes with a whole header. Assumes `Logic`.
use Rattle.net_base.proofs.Checks.{makes_checked}
use Rattle.wire_tcp.specs.Tcp.{HasLengths}
use Rattle.net_base.proofs.Checks.{error}
use Rattle.wire_tcp.proofs.TcpViewed.{view}
use Rattle.wire_tcp.proofs.tcp.packet_mut.check.Symbol as check
use Rattle.wire_tcp.proofs.tcp.packet_mut.check.Met.{met}
use Rattle.wire_tcp.specs.contracts.tcp.packet_mut.TcpPacketMut.new_checked.Key as key
use Rattle.wire_tcp.proofs.tcp.packet_mut.TcpPacketMut.new_checked.Statement.{statement}
use Rattle.wire_tcp.proofs.tcp.packet_mut.TcpPacketMut.new_checked.Code as code

pub new_checked_spec : {M : Type 1} → statement M
new_checked_spec 𝓤 𝓛 𝓜 𝓡 wired =
    makes_checked view error HasLengths 𝓛 𝓜 𝓡 check.name (met 𝓤 𝓛 𝓜 𝓡 (code.calls-wire_tcp::tcp::packet_mut::check 𝓡.env wired))
    key.name (code.unfolded 𝓤 𝓛.H 𝓜 𝓡 wired)
