-- `payload_mut` borrows the bytes after the header. Assumes `Logic`.
use mathlib.Core.List.{[], ◌∷◌}
use Rattle.net_base.proofs.Views.{Place, between, borrows_located}
use Rattle.wire_udp.specs.Udp.{HasLengths, packet_len}
use Rattle.wire_udp.proofs.UdpViewed.{view}
use Rattle.wire_udp.proofs.udp.packet_mut.locate_payload.Symbol as locate
use Rattle.wire_udp.proofs.udp.packet_mut.locate_payload.Met.{met}
use Rattle.wire_udp.specs.contracts.udp.packet_mut.UdpPacketMut.payload_mut.Key as key
use Rattle.wire_udp.proofs.udp.packet_mut.UdpPacketMut.payload_mut.Statement.{statement}
use Rattle.wire_udp.proofs.udp.packet_mut.UdpPacketMut.payload_mut.Code as code

abbrev payload : Place
payload = between (λ bytes. HasLengths bytes ∷ []) (λ bytes. 8) packet_len (λ bytes h. h.header) (λ bytes h. h.whole)

pub payload_mut_spec : {M : Type 1} → statement M
payload_mut_spec 𝓤 𝓛 𝓜 𝓡 wired =
    borrows_located view payload 𝓛 𝓜 𝓡 locate.name (met 𝓤 𝓛 𝓜 𝓡 (code.calls-wire_udp::udp::packet_mut::locate_payload 𝓡.env wired))
    (code.calls-net_base::located::Located::into_slice 𝓡.env wired) key.name (code.unfolded 𝓤 𝓛.H 𝓜 𝓡 wired)
