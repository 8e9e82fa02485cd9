use Rattle.std.proofs.Common.{◌∙◌, ap}
use Rattle.ip_wire.specs.Frame.{other, packet}
use Rattle.ip_wire.specs.FrameValue.{carried_of}
use Rattle.ip_wire.specs.Types.{Ipv6}
use Rattle.ip_wire.specs.declared.Carried.TheVariants as carried
use Rattle.app_host.proofs.IcmpReplies.{in_frame}
use Rattle.app_host.specs.Neighbour.{IsNeighbourReply}
use Rattle.app_host.proofs.neighbour.reply.Goals as goal

pub returns-in-Other-clause-reply : goal.returns-in-Other-clause-reply
returns-in-Other-clause-reply c =
    in_frame (IsNeighbourReply c.args.ours.now) c.args.request.now (packet (Ipv6 c.in-Ipv6.header) (other c.in-Other.bytes.now)) c.reply_to.result
    (ap carried_of (c.in-Packet.is ∙ ap (λ h. carried.Packet h c.in-Packet.inner) c.in-Ipv6.is ∙ ap (carried.Packet (Ipv6 c.in-Ipv6.header)) c.in-Other.is)) c.reply_to.ensures.reply
