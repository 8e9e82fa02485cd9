-- `options_mut` borrows the options. Assumes `Logic`.
use mathlib.Core.List.{[], ◌∷◌}
use Prim.Native.Nat.{◌≤◌}
use lib.ListN.{length}
use Rattle.net_base.proofs.Views.{Place, between, borrows_located}
use Rattle.wire_tcp.specs.Tcp.{header_len}
use Rattle.wire_tcp.proofs.TcpViewed.{view}
use Rattle.wire_tcp.proofs.tcp.packet_mut.locate_options.Symbol as locate
use Rattle.wire_tcp.proofs.tcp.packet_mut.locate_options.Met.{met}
use Rattle.wire_tcp.specs.contracts.tcp.packet_mut.TcpPacketMut.options_mut.Key as key
use Rattle.wire_tcp.proofs.tcp.packet_mut.TcpPacketMut.options_mut.Statement.{statement}
use Rattle.wire_tcp.proofs.tcp.packet_mut.TcpPacketMut.options_mut.Code as code

abbrev options : Place
options = between (λ bytes. (20 ≤ header_len bytes) ∷ (header_len bytes ≤ length bytes) ∷ []) (λ bytes. 20) header_len (λ bytes h. h.0) (λ bytes h. h.1)

pub options_mut_spec : {M : Type 1} → statement M
options_mut_spec 𝓤 𝓛 𝓜 𝓡 wired =
    borrows_located view options 𝓛 𝓜 𝓡 locate.name (met 𝓤 𝓛 𝓜 𝓡 (code.calls-wire_tcp::tcp::packet_mut::locate_options 𝓡.env wired))
    (code.calls-net_base::located::Located::into_slice 𝓡.env wired) key.name (code.unfolded 𝓤 𝓛.H 𝓜 𝓡 wired)
