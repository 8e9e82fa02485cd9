use Rattle.std.proofs.Common.{◌≡◌, ◌+◌, ◌++◌, ◌∙◌, [], ap, append-nil, arith, drop, length, subst}
use Rattle.std.proofs.lemmas.List.{drop_all}
use Rattle.ip_wire.specs.Tcp.{Becomes, packet_bytes_mut}
use Rattle.ip_wire.specs.TcpRepr.{bytes_of, header_len_of, header_of}
use Rattle.ip_wire.specs.Checksum.{computes}
use Rattle.promises.proofs.views.fill_tcp.Goals as goal

pub returns : goal.returns
returns c =
    let value = header_of c.args.value.now in
    let payload = c.args.value.now.payload.now in
    let old = c.args.packet.now in
    let bytes = bytes_of value payload c.args.src_addr.now c.args.dst_addr.now (computes c.args.caps.now.tcp) in
    let none : drop (header_len_of value + length payload) (packet_bytes_mut old) ≡ [] = drop_all _ (packet_bytes_mut old) (omega (arith, c.requires.room)) in
    subst (λ b. Becomes old c.emit.new.packet b) (ap (λ rest. bytes rest ++ rest) none ∙ append-nil (bytes [])) c.emit.ensures
