-- Replies that are tried: what is sent of an error, and a reply of one kind as a reply of another.
use Rattle.std.proofs.Common.{ℕ, ◌≡◌, ◌∙◌, inl, inr, List, Option, Some, None, arith, ap, refl, subst, sym}
use Rattle.app_host.proofs.EchoDscp.{unreachable-dscp}
use Rattle.app_host.proofs.HostOnce.{bytes-once}
use Rattle.app_host.proofs.HostReplies.{message-sent, sends-marked}
use Rattle.app_host.proofs.KindReplies.{always, no-udp, udp-no-echo}
use Rattle.app_host.proofs.RepliesOnce.{IsOne}
use Rattle.app_host.specs.Host.{IsServed, RepliesBytes, UnreachableFrame}
use Rattle.app_host.specs.IcmpEcho.{IsIcmpEcho, KeepsDscp, RepliesEchoFrame, reply_dscp}
use Rattle.app_host.specs.IcmpError.{IsError}
use Rattle.app_host.specs.Interface.{IsForUs}
use Rattle.app_host.specs.Kinds.{Tries, TriesReply}
use Rattle.app_host.specs.Message as message
use Rattle.app_host.specs.Message.{values_of}
use Rattle.app_host.specs.Skipped.{without_extensions}
use Rattle.app_host.specs.UdpEcho.{EchoesFrame}
use Rattle.app_host.specs.declared.host.Host.{Host}
use Rattle.app_host.specs.declared.message.MessageFrame.{MessageFrame}
use Rattle.ip_wire.proofs.Found.{gives-frame}
use Rattle.ip_wire.specs.Frame.{Carried, all_checked, datagram, packet}
use Rattle.ip_wire.specs.FrameValue.{Finds, carried_of}
use Rattle.ip_wire.specs.Reply.{Gives, Sends, reply_len, unmarked}
use Rattle.ip_wire.specs.Types.{EthernetRepr, IpRepr, UdpRepr}
use Rattle.ip_wire.specs.declared.Carried.TheVariants as carried
use Rattle.ip_wire.specs.declared.Frame.{Frame}
use Rattle.ip_wire.specs.declared.Transport.TheVariants as transport
use Rattle.std.specs.Borrow.{Bor}
use Rattle.wire_icmp.specs.declared.IcmpRepr.TheVariants.{DstUnreachable}
use Rattle.wire_icmp.specs.declared.Unreachable.TheVariants as unreachable

-- a message with DSCP 0 that a call gives is tried where it is sent
pub message-tried : (P : EthernetRepr → Carried → Type 0) (f : MessageFrame) (old new : List ℕ) (sent : Option ℕ) → message.Gives P (Some f) → f.dscp ≡ 0 → message.IsSent f old new sent
    → IsOne P → Tries unmarked P old new (Some sent)
message-tried P f old new sent (sendable, p) zero sends one = ((f.header, values_of f, p), message-sent unmarked P f old new sent p zero sends one)

sends-to : (dscp : Carried → ℕ) (P Q : EthernetRepr → Carried → Type 0) (old new : List ℕ) (sent : Option ℕ) → ((h : EthernetRepr) (c : Carried) → P h c → Q h c)
    → ((h : EthernetRepr) (c : Carried) → Q h c → P h c) → Sends dscp P old new sent → Sends dscp Q old new sent
sends-to dscp P Q old new None to from (stays, short) = (stays, λ h c q. short h c (from h c q))
sends-to dscp P Q old new (Some n) to from w =
    record {
      header = w.header;
      carried = w.carried;
      replies = to w.header w.carried w.replies;
      reads = w.reads;
      size = w.size;
      fits = w.fits;
      rest = w.rest;
      bytes = w.bytes;
    }

-- two kinds of replies that are the same
pub tries-to : (dscp : Carried → ℕ) (P Q : EthernetRepr → Carried → Type 0) (old new : List ℕ) (tried : Option (Option ℕ)) → ((h : EthernetRepr) (c : Carried) → P h c → Q h c)
    → ((h : EthernetRepr) (c : Carried) → Q h c → P h c) → Tries dscp P old new tried → Tries dscp Q old new tried
tries-to dscp P Q old new None to from (stays, none) = (stays, λ h c q. none h c (from h c q))
tries-to dscp P Q old new (Some sent) to from ((h, c, p), sends) = ((h, c, to h c p), sends-to dscp P Q old new sent to from sends)

-- a packet for a closed port gets the error about it, if there is one
pub told-tried : (host : Host) (bytes : List ℕ) (request : Frame) (v : IpRepr) (u : UdpRepr) (payload : Bor (List ℕ)) (old new : List ℕ) (tried : Option (Option ℕ))
    → request.carried ≡ carried.Packet v (transport.Udp u payload) → IsForUs host.interface request.header v → ¬ IsServed host u.dst_port
    → Tries unmarked (IsError host.interface bytes (DstUnreachable unreachable.Port)) old new tried → Tries unmarked (UnreachableFrame host bytes request) old new tried
told-tried host bytes request v u payload old new tried is for_us closed =
    tries-to unmarked (IsError host.interface bytes (DstUnreachable unreachable.Port)) (UnreachableFrame host bytes request) old new tried
    (λ h c e. (packet v (datagram u payload.now), ap carried_of is, record { ip = v; udp = u; payload = payload.now; asks = refl; for_us = for_us; closed = closed; tells = e }))
    (λ h c (asked, same, e). e.tells)

-- one of the replies of a kind is the only one of another
sends-one : (dscp : Carried → ℕ) (P Q : EthernetRepr → Carried → Type 0) (old new : List ℕ) (sent : Option ℕ) (h : EthernetRepr) (c : Carried) → ((k : EthernetRepr) (d : Carried) → P k d → Q k d) → P h c
    → IsOne Q → Sends dscp P old new sent → Sends dscp Q old new sent
sends-one dscp P Q old new None h c to p one (stays, short) =
    (stays, λ k d q. let few = short h c p in let same = (one h k c d (to h c p) q).1 in omega (arith, few, ap reply_len same))
sends-one dscp P Q old new (Some n) h c to p one w =
    record {
      header = w.header;
      carried = w.carried;
      replies = to w.header w.carried w.replies;
      reads = w.reads;
      size = w.size;
      fits = w.fits;
      rest = w.rest;
      bytes = w.bytes;
    }

-- an error about a packet for a closed port is the reply of the host
pub by-error : (host : Host) (bytes : List ℕ) (request : Frame) (old new : List ℕ) (sent : Option ℕ) → Finds all_checked (without_extensions bytes) request → message.Gives (RepliesEchoFrame host.interface request) None
    → Tries unmarked (UnreachableFrame host bytes request) old new (Some sent) → TriesReply host bytes old new (Some sent)
by-error host bytes request old new sent found no_echo ((h, c, u), sends) =
    let parsed = gives-frame all_checked (without_extensions bytes) request found in
    let one = bytes-once host bytes in
    let to : (k : EthernetRepr) (d : Carried) → UnreachableFrame host bytes request k d → RepliesBytes host bytes k d =
    λ k d (asked, is, e). (request.header, asked, (parsed request.header asked).0 (refl, is), inr (inr (inr (inl e))))
    in
    let zero : (k : EthernetRepr) (d : Carried) → RepliesBytes host bytes k d → 0 ≡ reply_dscp bytes d =
    λ k d q. sym (unreachable-dscp host request bytes h c u) ∙ ap (reply_dscp bytes) (one h k c d (to h c u) q).1
    in
    let keeps : KeepsDscp host.interface bytes new =
    λ asked_header header asked carried reads e.
    let (link, also) = (parsed asked_header asked).1 reads in
    absurd (no_echo header carried (asked, also, subst (λ l. IsIcmpEcho host.interface l asked header carried) (sym link) e))
    in
    record {
      tries = ((h, c, to h c u), sends-marked (reply_dscp bytes) (RepliesBytes host bytes) old new sent zero (sends-one unmarked (UnreachableFrame host bytes request) (RepliesBytes host bytes) old new sent h c to u one sends));
      dscp = always sent keeps;
    }

-- what is tried of a UDP packet that is not echoed
pub closed-tried : (host : Host) (bytes : List ℕ) (link : EthernetRepr) (v : IpRepr) (u : UdpRepr) (payload : Bor (List ℕ)) (old new : List ℕ) (tried : Option (Option ℕ))
    → Gives (EchoesFrame host.interface host.echo_port (record { header = link; carried = carried.Packet v (transport.Udp u payload) })) None
    → Tries unmarked (UnreachableFrame host bytes (record { header = link; carried = carried.Packet v (transport.Udp u payload) })) old new tried
    → Finds all_checked (without_extensions bytes) (record { header = link; carried = carried.Packet v (transport.Udp u payload) }) → TriesReply host bytes old new tried
closed-tried host bytes link v u payload old new None no_echo (stays, none) found =
    subst (λ l. TriesReply host bytes old l None) (sym stays) (no-udp host bytes link v u payload old no_echo none found)
closed-tried host bytes link v u payload old new (Some sent) no_echo tries found =
    by-error host bytes (record { header = link; carried = carried.Packet v (transport.Udp u payload) }) old new sent found (udp-no-echo host.interface link v u payload) tries
