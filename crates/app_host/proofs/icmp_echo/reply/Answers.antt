use Rattle.std.proofs.Common.{◌∙◌, Some, None, ap}
use Rattle.ip_wire.specs.Frame.{other, packet}
use Rattle.ip_wire.specs.FrameValue.{carried_of}
use Rattle.ip_wire.specs.declared.Carried.TheVariants as carried
use Rattle.app_host.proofs.IcmpReplies.{in_frame, with-dscp}
use Rattle.app_host.specs.IcmpEcho.{IsIcmpEcho}
use Rattle.app_host.proofs.icmp_echo.reply.Goals as goal

pub returns-in-Some-clause-reply : goal.returns-in-Some-clause-reply
returns-in-Some-clause-reply c =
    let asked = packet c.in-Packet.header (other c.in-Other.bytes.now) in
    in_frame (IsIcmpEcho c.args.ours.now) c.args.request.now asked (Some (record c.in-Some.reply { dscp = c.args.dscp }))
    (ap carried_of (c.in-Packet.is ∙ ap (carried.Packet c.in-Packet.header) c.in-Other.is))
    (with-dscp (IsIcmpEcho c.args.ours.now c.args.request.now.header asked) c.in-Some.reply c.args.dscp c.requires c.in-Some.ensures)

pub returns-in-None-clause-reply : goal.returns-in-None-clause-reply
returns-in-None-clause-reply c =
    in_frame (IsIcmpEcho c.args.ours.now) c.args.request.now (packet c.in-Packet.header (other c.in-Other.bytes.now)) None
    (ap carried_of (c.in-Packet.is ∙ ap (carried.Packet c.in-Packet.header) c.in-Other.is)) c.in-None.ensures
