use Rattle.std.proofs.Common.{ℕ, ◌≡◌, ◌+◌, arith, rules}
use Rattle.net_base.specs.Checksum.{verifies}
use Rattle.net_base.specs.Field.{field}
use Rattle.wire_tcp.specs.Tcp.{packet_bytes}
use Rattle.wire_tcp.specs.TcpRepr.{header_of}
use Rattle.wire_tcp.proofs.TcpCounted.{agree, empty}
use Rattle.wire_tcp.proofs.laws.value_is_empty_as_segment_tcp.Goals as goal

pub returns-in-Ok : goal.returns-in-Ok
returns-in-Ok c =
    let v = c.in-Ok.value in
    let bytes = packet_bytes c.args.packet.now in
    let either = empty bytes c.args.src_addr.now c.args.dst_addr.now (verifies c.args.caps.now.tcp) (header_of v) v.payload.now c.in-Ok.ensures.ok in
    let rst : c.from-rst.result ≡ field bytes 109 1 = search rules in
    let sum : (n : ℕ) → c.segment_len.result + c.from-rst.result ≡ n → c.segment_len.result + field bytes 109 1 ≡ n = λ n e. omega (arith, rst, e) in
    agree c.is_empty.result (c.segment_len.result + c.from-rst.result)
    (λ e. omega (arith, rst, either.0 (c.is_empty.ensures.0 e), c.segment_len.ensures))
    (λ e. c.is_empty.ensures.1 (either.1 (omega (arith, rst, e, c.segment_len.ensures))))
