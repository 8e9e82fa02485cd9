-- `payload_mut` borrows the bytes after the header. Assumes `Logic`.
use mathlib.Core.Path.{sym, ap, ◌∙◌}
use mathlib.Core.List.{List, [], ◌∷◌, ◌++◌}
use Prim.Native.Nat.{ℕ, ◌≤◌}
use native.Mathlib.Omega.{arith}
use lib.ListN.{length, take, drop, length-drop}
use Rattle.std.proofs.Math.Seq.{drop-length, take-length}
use Rattle.std.proofs.lemmas.List.{append-nil}
use Rattle.net_base.proofs.Views.{Place, borrows_located}
use Rattle.wire_tcp.specs.Tcp.{header_len}
use Rattle.wire_tcp.proofs.TcpViewed.{view}
use Rattle.wire_tcp.proofs.tcp.packet_mut.locate_payload.Symbol as locate
use Rattle.wire_tcp.proofs.tcp.packet_mut.locate_payload.Met.{met}
use Rattle.wire_tcp.specs.contracts.tcp.packet_mut.TcpPacketMut.payload_mut.Key as key
use Rattle.wire_tcp.proofs.tcp.packet_mut.TcpPacketMut.payload_mut.Statement.{statement}
use Rattle.wire_tcp.proofs.tcp.packet_mut.TcpPacketMut.payload_mut.Code as code

abbrev payload : Place
payload = record {
  conditions = λ bytes. (13 ≤ length bytes) ∷ (header_len bytes ≤ length bytes) ∷ [];
  first = header_len;
  last = length;
  order = λ bytes h. h.1;
  in_bounds = λ bytes h. omega arith;
  part = λ bytes. drop (header_len bytes) bytes;
  part_is = λ bytes. ap (λ (k : ℕ). take k (drop (header_len bytes) bytes)) (sym (length-drop (header_len bytes) bytes)) ∙ take-length (drop (header_len bytes) bytes);
  left = λ bytes w. take (header_len bytes) bytes ++ w;
  left_is = λ bytes w. ap (λ (l : List ℕ). take (header_len bytes) bytes ++ w ++ l) (drop-length bytes) ∙ append-nil (take (header_len bytes) bytes ++ w);
}

pub payload_mut_spec : {M : Type 1} → statement M
payload_mut_spec 𝓤 𝓛 𝓜 𝓡 wired =
    borrows_located view payload 𝓛 𝓜 𝓡 locate.name (met 𝓤 𝓛 𝓜 𝓡 (code.calls-wire_tcp::tcp::packet_mut::locate_payload 𝓡.env wired))
    (code.calls-net_base::located::Located::into_slice 𝓡.env wired) key.name (code.unfolded 𝓤 𝓛.H 𝓜 𝓡 wired)
