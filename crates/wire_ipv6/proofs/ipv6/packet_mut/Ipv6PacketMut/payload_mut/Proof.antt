-- `payload_mut` borrows the bytes after the header. Assumes `Logic`.
use mathlib.Core.List.{[], ◌∷◌}
use native.Mathlib.Omega.{arith}
use Rattle.net_base.proofs.Views.{Place, between, borrows_located}
use Rattle.wire_ipv6.specs.Ipv6.{HasLengths, total_len}
use Rattle.wire_ipv6.proofs.Ipv6Viewed.{view}
use Rattle.wire_ipv6.proofs.ipv6.packet_mut.locate_payload.Symbol as locate
use Rattle.wire_ipv6.proofs.ipv6.packet_mut.locate_payload.Met.{met}
use Rattle.wire_ipv6.specs.contracts.ipv6.packet_mut.Ipv6PacketMut.payload_mut.Key as key
use Rattle.wire_ipv6.proofs.ipv6.packet_mut.Ipv6PacketMut.payload_mut.Statement.{statement}
use Rattle.wire_ipv6.proofs.ipv6.packet_mut.Ipv6PacketMut.payload_mut.Code as code

abbrev payload : Place
payload = between (λ bytes. HasLengths bytes ∷ []) (λ bytes. 40) total_len (λ bytes h. omega arith) (λ bytes h. h)

pub payload_mut_spec : {M : Type 1} → statement M
payload_mut_spec 𝓤 𝓛 𝓜 𝓡 wired =
    borrows_located view payload 𝓛 𝓜 𝓡 locate.name (met 𝓤 𝓛 𝓜 𝓡 (code.calls-wire_ipv6::ipv6::packet_mut::locate_payload 𝓡.env wired))
    (code.calls-net_base::located::Located::into_slice 𝓡.env wired) key.name (code.unfolded 𝓤 𝓛.H 𝓜 𝓡 wired)
