use Rattle.std.proofs.Common.{◌≡◌, ◌∙◌, None, ap, refl, rules}
use Rattle.ip_wire.specs.Frame.{other, packet}
use Rattle.ip_wire.specs.FrameValue.{carried_of}
use Rattle.ip_wire.specs.Types.{Ipv6}
use Rattle.ip_wire.specs.declared.Carried.TheVariants as carried
use Rattle.ip_wire.specs.declared.IpProtocol.TheVariants as protocol
use Rattle.app_host.proofs.IcmpReplies.{in_frame}
use Rattle.app_host.proofs.MessageEnds.{icmp-faultless}
use Rattle.app_host.specs.ParameterProblem.{IsParameterProblem}
use Rattle.app_host.proofs.parameter_problem.reply.Goals as goal

pub returns-then-eq-clause-reply : goal.returns-then-eq-clause-reply
returns-then-eq-clause-reply c =
    let ours = c.args.ours.now in
    let bytes = c.args.frame.now in
    let ip = c.in-Ipv6.header in
    let payload = c.in-Other.payload.now in
    let asked = packet (Ipv6 ip) (other payload) in
    let icmp : ip.next_header ≡ protocol.Icmpv6 = search rules in
    in_frame (λ asked_header one. IsParameterProblem ours bytes one) c.args.request.now asked None
    (ap carried_of (c.in-Packet.is ∙ ap (λ h. carried.Packet h c.in-Packet.inner) c.in-Ipv6.is ∙ ap (carried.Packet (Ipv6 ip)) c.in-Other.is))
    (λ header carried e. icmp-faultless ours bytes header asked carried (Ipv6 ip) payload refl icmp e)

pub returns-else-eq-clause-reply : goal.returns-else-eq-clause-reply
returns-else-eq-clause-reply c =
    in_frame (λ asked_header asked. IsParameterProblem c.args.ours.now c.args.frame.now asked) c.args.request.now (packet (Ipv6 c.in-Ipv6.header) (other c.in-Other.payload.now)) c.reply_to.result
    (ap carried_of (c.in-Packet.is ∙ ap (λ h. carried.Packet h c.in-Packet.inner) c.in-Ipv6.is ∙ ap (carried.Packet (Ipv6 c.in-Ipv6.header)) c.in-Other.is)) c.reply_to.ensures.reply
