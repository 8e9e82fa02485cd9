use Rattle.std.proofs.Common.{◌∙◌, ◌++◌, if◌then◌else◌, ap, sym}
use Rattle.ip_wire.specs.Tcp.{with_checksum}
use Rattle.c_write.specs.Headers.{front_bytes}
use Rattle.c_write.proofs.tcp.front.Goals as goal

pub returns-then-computed : goal.returns-then-computed
returns-then-computed c =
    let bytes = front_bytes c.args.header.now c.args.ports.0 c.args.ports.1 c.args.header_len ++ c.args.rest.now in
    c.summed.ensures ∙ ap (λ l. with_checksum c.args.src_addr c.args.dst_addr (l ++ c.args.rest.now)) c.words-words.ensures.value
    ∙ ap (λ b. if b then with_checksum c.args.src_addr c.args.dst_addr bytes else bytes) (sym c.if-computed.true)
