-- `new_checked` takes bytes that hold the four addresses, by the lengths that they name. Assumes `Logic`.
use Rattle.net_base.proofs.Checks.{error, makes_checked}
use Rattle.wire_arp.specs.Arp.{HasLengths}
use Rattle.wire_arp.proofs.ArpViewed.{view}
use Rattle.wire_arp.proofs.arp.packet_mut.check.Symbol as check
use Rattle.wire_arp.proofs.arp.packet_mut.check.Met.{met}
use Rattle.wire_arp.specs.contracts.arp.packet_mut.ArpPacketMut.new_checked.Key as key
use Rattle.wire_arp.proofs.arp.packet_mut.ArpPacketMut.new_checked.Statement.{statement}
use Rattle.wire_arp.proofs.arp.packet_mut.ArpPacketMut.new_checked.Code as code

pub new_checked_spec : {M : Type 1} → statement M
new_checked_spec 𝓤 𝓛 𝓜 𝓡 wired =
    makes_checked view error HasLengths 𝓛 𝓜 𝓡 check.name (met 𝓤 𝓛 𝓜 𝓡 (code.calls-wire_arp::arp::packet_mut::check 𝓡.env wired))
    key.name (code.unfolded 𝓤 𝓛.H 𝓜 𝓡 wired)
