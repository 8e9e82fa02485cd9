use Rattle.std.proofs.Common.{ℕ, ◌≡◌, ◌+◌, ◌++◌, ◌∙◌, Bor, List, ap, ap₂, drop, length, subst, sym}
use Rattle.ip_wire.specs.Udp.{Reads, bytes_of, packet_bytes, payload_of}
use Rattle.ip_wire.specs.Checksum.{computes, verifies}
use Rattle.promises.proofs.rewrites.parse_then_emit_udp.Goals as goal

pub returns-clause-written : goal.returns-clause-written
returns-clause-written c = λ v read.
    let src = c.args.src_addr.now in
    let dst = c.args.dst_addr.now in
    let payload = c.payload-payload.result.now in
    let at : packet_bytes c.new_unchecked-packet.result ≡ c.args.bytes.now = ap (λ (b : Bor (List ℕ)). b.now) c.new_unchecked-packet.ensures in
    let is = (c.in_ok-value.ensures.reads v).1 (subst (λ b. Reads b src dst (verifies c.args.caps.now.udp) v (payload_of b)) (sym at) read) in
    let same : c.in_ok-value.value ≡ v = cc in
    let body : payload ≡ payload_of c.args.bytes.now = c.payload-payload.ensures ∙ ap payload_of at in
    c.emit_udp.ensures ∙ ap₂ (λ w p. bytes_of w p src dst (computes c.args.caps.now.udp) ++ drop (8 + length payload) c.args.out.now) same body
