use Rattle.std.proofs.Common.{◌∙◌, ◌≤◌, arith, length, sym}
use Rattle.c_icmp.proofs.Packets.{message-filled}
use Rattle.c_icmp.proofs.emit.emit_icmp.Goals as goal

pub returns : goal.returns
returns c =
    let fits : length c.args.payload.now ≤ 65527 = omega (arith, c.if-payload-gt-MAX_PAYLOAD_LEN.false) in
    message-filled c.args.header.now c.header_value.result c.args.payload.now c.args.src.now c.args.dst.now _ _ c.args.computed _ _ _ _ fits
    (sym c.pair.ensures.value ∙ c.in_ok-src_addr.was) c.header_value.ensures (c.checksums-caps.ensures _) c.try_emit.ensures
