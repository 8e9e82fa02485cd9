use Rattle.std.proofs.Common.{ℕ, ◌≡◌, ◌∙◌, [], Bor, List, ap, subst, sym}
use Rattle.ip_wire.specs.TcpRepr.{Reads, TcpHeader, bytes_of, header_of, normal}
use Rattle.ip_wire.specs.Checksum.{computes, verifies}
use Rattle.promises.proofs.Parsed.{parsed}
use Rattle.promises.proofs.values.emit_then_parse_tcp.Goals as goal

pub returns : goal.returns
returns c =
    let value = header_of c.args.value.now in
    let payload = c.args.value.now.payload.now in
    let src = c.args.src_addr.now in
    let dst = c.args.dst_addr.now in
    let verified = verifies c.args.received.now.tcp in
    let found = c.new_unchecked.result.buffer.now in
    let bytes = bytes_of value payload src dst (computes c.args.sent.now.tcp) [] in
    let same : found ≡ c.emit_only_tcp.new.buffer = ap (λ (b : Bor (List ℕ)). b.now) c.new_unchecked.ensures in
    let written : found ≡ bytes = same ∙ c.emit_only_tcp.ensures in
    let law : Reads bytes src dst verified (normal value) payload = rw (← c.tx.ensures, ← c.rx.ensures) c.emit_reads_back_tcp.ensures in
    let read : Reads found src dst verified (normal value) payload = subst (λ b. Reads b src dst verified (normal value) payload) (sym written) law in
    let once = λ (v w : TcpHeader) (p q : List ℕ) (a : Reads found src dst verified v p) (b : Reads found src dst verified w q).
    c.one_reading_tcp.ensures v w p q (rw (c.rx-2.ensures) (subst (λ b. Reads b src dst verified v p) same a)) (rw (c.rx-2.ensures) (subst (λ b. Reads b src dst verified w q) same b))
    in
    let both = parsed (λ v p. Reads found src dst verified v p) (normal value) payload c.parse.result read once c.parse.ensures.ok c.parse.ensures.err in
    record { value = both.0; payload = both.1 }
