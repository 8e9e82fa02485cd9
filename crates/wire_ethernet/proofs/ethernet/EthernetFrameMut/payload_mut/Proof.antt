-- `payload_mut` borrows the bytes after the header. Assumes `Logic`.
use Rattle.net_base.proofs.Views.{from_byte, borrows_located}
use Rattle.wire_ethernet.proofs.EthernetViewed.{view}
use Rattle.wire_ethernet.proofs.ethernet.locate_payload.Symbol as locate
use Rattle.wire_ethernet.proofs.ethernet.locate_payload.Met.{met}
use Rattle.wire_ethernet.specs.contracts.ethernet.EthernetFrameMut.payload_mut.Key as key
use Rattle.wire_ethernet.proofs.ethernet.EthernetFrameMut.payload_mut.Statement.{statement}
use Rattle.wire_ethernet.proofs.ethernet.EthernetFrameMut.payload_mut.Code as code

pub payload_mut_spec : {M : Type 1} → statement M
payload_mut_spec 𝓤 𝓛 𝓜 𝓡 wired =
    borrows_located view (from_byte 14) 𝓛 𝓜 𝓡 locate.name (met 𝓤 𝓛 𝓜 𝓡 (code.calls-wire_ethernet::ethernet::locate_payload 𝓡.env wired))
    (code.calls-net_base::located::Located::into_slice 𝓡.env wired) key.name (code.unfolded 𝓤 𝓛.H 𝓜 𝓡 wired)
