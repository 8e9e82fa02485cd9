use Rattle.std.proofs.Common.{Some}
use Rattle.app_host.proofs.EchoDscp.{advert-marked, echo-marked, error-marked, keeps, no-echo, problem-dscp}
use Rattle.app_host.proofs.HostReplies.{by_icmp, by_neighbour, by_problem}
use Rattle.app_host.proofs.KindReplies.{by-message, no-other}
use Rattle.app_host.specs.ParameterProblem.{ProblemFrame}
use Rattle.ip_wire.specs.declared.Carried.TheVariants as carried
use Rattle.ip_wire.specs.declared.Frame.{Frame}
use Rattle.ip_wire.specs.declared.Transport.TheVariants as transport
use Rattle.app_host.proofs.kinds.answer_other.Goals as goal

pub returns-in-Some : goal.returns-in-Some
returns-in-Some c =
    let host = c.args.host.now in
    let bytes = c.args.frame.now in
    let request : Frame = record { header = c.args.link; carried = carried.Packet c.args.header (transport.Other c.args.payload) } in
    let reply = c.in-Some.reply in
    by-message host bytes request c.args.out.now c.send.new.out c.send.result c.requires
    (record {
      reply = reply;
      gives = by_icmp host bytes request reply c.in-Some.ensures.reply;
      sends = c.send.ensures.sends;
      marks = c.send.ensures.marked;
      keeps = keeps host.interface request bytes reply c.dscp_in.result c.in-Some.ensures.reply c.in-Some.ensures.dscp c.dscp_in.ensures.is;
      dscp = echo-marked host.interface request bytes reply c.dscp_in.result c.in-Some.ensures.reply c.in-Some.ensures.dscp c.dscp_in.ensures.is;
    })

pub returns-in-Some-reply : goal.returns-in-Some-reply
returns-in-Some-reply c =
    let host = c.args.host.now in
    let bytes = c.args.frame.now in
    let request : Frame = record { header = c.args.link; carried = carried.Packet c.args.header (transport.Other c.args.payload) } in
    let advert = c.in-Some-reply.advert in
    by-message host bytes request c.args.out.now c.send-in-Some-reply.new.out c.send-in-Some-reply.result c.requires
    (record {
      reply = advert;
      gives = by_neighbour host bytes request advert c.in-Some-reply.ensures.reply;
      sends = c.send-in-Some-reply.ensures.sends;
      marks = c.send-in-Some-reply.ensures.marked;
      keeps = no-echo host.interface request bytes (Some advert) (rw c.in_default.is at c.reply.ensures.reply);
      dscp = λ long. advert-marked host.interface request bytes advert c.in-Some-reply.ensures.reply c.in-Some-reply.ensures.unmarked;
    })

pub returns-in-Some-reply-2 : goal.returns-in-Some-reply-2
returns-in-Some-reply-2 c =
    let host = c.args.host.now in
    let bytes = c.args.frame.now in
    let request : Frame = record { header = c.args.link; carried = carried.Packet c.args.header (transport.Other c.args.payload) } in
    let error = c.in-Some-reply-2.error in
    by-message host bytes request c.args.out.now c.send-in-Some-reply-2.new.out c.send-in-Some-reply-2.result c.requires
    (record {
      reply = error;
      gives = by_problem host bytes request error c.in-Some-reply-2.ensures.reply;
      sends = c.send-in-Some-reply-2.ensures.sends;
      marks = c.send-in-Some-reply-2.ensures.marked;
      keeps = no-echo host.interface request bytes (Some error) (rw c.in_default.is at c.reply.ensures.reply);
      dscp = λ long. error-marked (ProblemFrame host.interface bytes request) bytes error (problem-dscp host.interface request bytes) c.in-Some-reply-2.ensures.reply c.in-Some-reply-2.ensures.unmarked;
    })

pub returns-in-None : goal.returns-in-None
returns-in-None c =
    no-other c.args.host.now c.args.frame.now c.args.link c.args.header c.args.payload c.args.out.now (rw c.in_default.is at c.reply.ensures.reply) (rw c.in_default-reply.is at c.reply-2.ensures.reply)
    c.in-None.ensures.reply c.requires

pub send-requires : goal.send-requires
send-requires c = c.in-Some.ensures.reply.0

pub send-requires-in-Some-reply : goal.send-requires-in-Some-reply
send-requires-in-Some-reply c = c.in-Some-reply.ensures.reply.0

pub send-requires-in-Some-reply-2 : goal.send-requires-in-Some-reply-2
send-requires-in-Some-reply-2 c = c.in-Some-reply-2.ensures.reply.0
