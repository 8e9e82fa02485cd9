use Rattle.std.proofs.Common.{ℕ, List, subst, sym}
use Rattle.ip_wire.proofs.Packets.{reads-by-version}
use Rattle.ip_wire.specs.Frame.{ReadsCarried, packet}
use Rattle.ip_wire.proofs.laws.packet_in_frame.Goals as goal

pub returns : goal.returns
returns c = λ v t.
    let caps = c.args.caps.now in
    let type = c.args.link.ethertype in
    let single = c.parse.ensures.reads v t in
    let framed = c.parse-2.ensures.reads c.args.link (packet v t) in
    let Carries : List ℕ → Type 0 = λ bytes. ReadsCarried caps type bytes (packet v t) in
    let same = reads-by-version caps type c.args.bytes.now v t (λ i. (c.type_inv.bytes i).fits) c.requires.names in (
      (λ gives.
          framed.1 (record { reads_header = c.requires.header; reads_carried = subst Carries c.requires.bytes (same.1 (single.0 gives)) })),
      (λ gives.
          single.1 (same.0 (subst Carries (sym c.requires.bytes) (framed.0 gives).reads_carried))),
    )
