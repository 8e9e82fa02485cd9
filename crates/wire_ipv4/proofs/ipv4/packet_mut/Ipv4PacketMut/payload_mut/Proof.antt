-- `payload_mut` borrows the bytes after the header. Assumes `Logic`.
use mathlib.Core.List.{[], ◌∷◌}
use Prim.Native.Nat.{◌≤◌}
use lib.ListN.{length}
use Rattle.net_base.proofs.Views.{Place, between, borrows_located}
use Rattle.wire_ipv4.specs.Ipv4.{header_len, total_len}
use Rattle.wire_ipv4.proofs.Ipv4Viewed.{view}
use Rattle.wire_ipv4.proofs.ipv4.packet_mut.locate_payload.Symbol as locate
use Rattle.wire_ipv4.proofs.ipv4.packet_mut.locate_payload.Met.{met}
use Rattle.wire_ipv4.specs.contracts.ipv4.packet_mut.Ipv4PacketMut.payload_mut.Key as key
use Rattle.wire_ipv4.proofs.ipv4.packet_mut.Ipv4PacketMut.payload_mut.Statement.{statement}
use Rattle.wire_ipv4.proofs.ipv4.packet_mut.Ipv4PacketMut.payload_mut.Code as code

abbrev payload : Place
payload = between (λ bytes. (4 ≤ length bytes) ∷ (header_len bytes ≤ total_len bytes) ∷ (total_len bytes ≤ length bytes) ∷ []) header_len total_len (λ bytes h. h.1.0) (λ bytes h. h.1.1)

pub payload_mut_spec : {M : Type 1} → statement M
payload_mut_spec 𝓤 𝓛 𝓜 𝓡 wired =
    borrows_located view payload 𝓛 𝓜 𝓡 locate.name (met 𝓤 𝓛 𝓜 𝓡 (code.calls-wire_ipv4::ipv4::packet_mut::locate_payload 𝓡.env wired))
    (code.calls-net_base::located::Located::into_slice 𝓡.env wired) key.name (code.unfolded 𝓤 𝓛.H 𝓜 𝓡 wired)
