use Rattle.std.proofs.Common.{◌≡◌, ◌+◌, ◌++◌, ◌∙◌, [], ap, append-nil, arith, drop, length}
use Rattle.std.proofs.lemmas.List.{drop_all}
use Rattle.ip_wire.specs.TcpRepr.{bytes_of, header_len_of, header_of}
use Rattle.ip_wire.specs.Checksum.{computes}
use Rattle.promises.proofs.emit.emit_only_tcp.Goals as goal

pub returns : goal.returns
returns c =
    let value = header_of c.args.value.now in
    let payload = c.args.value.now.payload.now in
    let bytes = bytes_of value payload c.args.src_addr.now c.args.dst_addr.now (computes c.args.caps.now.tcp) in
    let none : drop (header_len_of value + length payload) c.args.buffer.now ≡ [] = drop_all _ c.args.buffer.now (omega (arith, c.requires.room)) in
    c.emit_tcp.ensures ∙ ap (λ rest. bytes rest ++ rest) none ∙ append-nil (bytes [])
