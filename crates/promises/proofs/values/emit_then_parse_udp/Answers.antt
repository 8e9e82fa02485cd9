use Rattle.std.proofs.Common.{ℕ, ◌≡◌, ◌+◌, ◌-◌, ◌++◌, ◌∙◌, Bor, List, ap, drop, length, subst, sym, take}
use Rattle.ip_wire.specs.Udp.{Reads, bytes_of}
use Rattle.ip_wire.specs.Checksum.{computes, verifies}
use Rattle.std.proofs.lemmas.List.{take_rest}
use Rattle.promises.proofs.values.emit_then_parse_udp.Goals as goal

pub returns-clause-value : goal.returns-clause-value
returns-clause-value c =
    let value = c.args.value in
    let payload = c.args.payload.now in
    let src = c.args.src_addr.now in
    let dst = c.args.dst_addr.now in
    let computed = computes c.args.sent.now.udp in
    let verified = verifies c.args.received.now.udp in
    let found = c.new_unchecked.result.buffer.now in
    let whole = bytes_of value payload src dst computed ++ drop (8 + length payload) c.args.buffer.now in
    let written : found ≡ whole = ap (λ (b : Bor (List ℕ)). b.now) c.new_unchecked.ensures ∙ c.emit_udp.ensures in
    let len = 8 + length payload in
    let rest = take (length c.args.buffer.now - len) (drop len c.args.buffer.now) in
    let back : Reads (bytes_of value payload src dst computed ++ rest) src dst verified value payload = rw (← c.tx.ensures, ← c.rx.ensures) c.emit_reads_back_udp.ensures in
    let law = subst (λ rest. Reads (bytes_of value payload src dst computed ++ rest) src dst verified value payload) (take_rest c.args.buffer.now len) back in
    let read : Reads found src dst verified value payload = subst (λ bytes. Reads bytes src dst verified value payload) (sym written) law in
    (c.parse.ensures.reads value).1 (subst (λ p. Reads found src dst verified value p) read.body read)
