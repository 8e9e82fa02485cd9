-- Each kind of reply is a reply of a host, and what is sent of it is what a host sends.
use Rattle.std.proofs.Common.{ℕ, ◌≡◌, ◌∙◌, ◌++◌, inl, inr, List, Option, Some, None, arith, ap, drop, refl}
use Rattle.std.specs.Prelude.{IfSome}
use Rattle.app_host.specs.Host.{Answers, IsUnread, RepliesBytes, RepliesFrame, RepliesMessage}
use Rattle.app_host.specs.declared.host.Host.{Host}
use Rattle.app_host.proofs.RepliesOnce.{IsOne}
use Rattle.app_host.proofs.Skips.{whole-read}
use Rattle.app_host.specs.Arp.{ArpRepliesFrame}
use Rattle.app_host.specs.IcmpEcho.{RepliesEchoFrame, reply_dscp}
use Rattle.app_host.specs.Message as message
use Rattle.app_host.specs.Message.{values_of}
use Rattle.app_host.specs.Neighbour.{AdvertisesFrame}
use Rattle.app_host.specs.ParameterProblem.{ProblemFrame}
use Rattle.app_host.specs.TcpReply.{TcpRepliesFrame}
use Rattle.app_host.specs.UdpEcho.{EchoesFrame}
use Rattle.app_host.specs.declared.message.MessageFrame.{MessageFrame}
use Rattle.ip_wire.proofs.Sent as wire
use Rattle.ip_wire.specs.Frame.{Carried}
use Rattle.ip_wire.specs.Reply.{Gives, HasValues, IsSendable, IsSent, Sends, reply_bytes, reply_len, unmarked}
use Rattle.ip_wire.specs.Types.{EthernetRepr}
use Rattle.ip_wire.specs.declared.Frame.{Frame}

-- ---- the reply to a frame, as a frame

given : (P Q : EthernetRepr → Carried → Type 0) (f : Frame) → ((h : EthernetRepr) (c : Carried) → P h c → Q h c) → Gives P (Some f) → Gives Q (Some f)
given P Q f to (sendable, (h, c, values, p)) = (sendable, (h, c, values, to h c p))

-- an ARP reply is a reply
pub by_arp : (host : Host) (request f : Frame) → Gives (ArpRepliesFrame host.interface request) (Some f) → Gives (RepliesFrame host request) (Some f)
by_arp host request f gives = given (ArpRepliesFrame host.interface request) (RepliesFrame host request) f (λ h c (asked, is, e). (asked, is, inl e)) gives

-- an echo is a reply
pub by_echo : (host : Host) (request f : Frame) → Gives (EchoesFrame host.interface host.echo_port request) (Some f) → Gives (RepliesFrame host request) (Some f)
by_echo host request f gives = given (EchoesFrame host.interface host.echo_port request) (RepliesFrame host request) f (λ h c (asked, is, e). (asked, is, inr (inl e))) gives

-- a reply of TCP is a reply
pub by_tcp : (host : Host) (request f : Frame) → Gives (TcpRepliesFrame host.interface host.open_ports.now host.offer request) (Some f) → Gives (RepliesFrame host request) (Some f)
by_tcp host request f gives =
    given (TcpRepliesFrame host.interface host.open_ports.now host.offer request) (RepliesFrame host request) f (λ h c (asked, is, e). (asked, is, inr (inr e))) gives

-- ---- with a message

pub by_icmp : (host : Host) (bytes : List ℕ) (request : Frame) (f : MessageFrame) → message.Gives (RepliesEchoFrame host.interface request) (Some f)
    → message.Gives (RepliesMessage host bytes request) (Some f)
by_icmp host bytes request f (sendable, (asked, is, e)) = (sendable, (asked, is, inl e))

pub by_neighbour : (host : Host) (bytes : List ℕ) (request : Frame) (f : MessageFrame) → message.Gives (AdvertisesFrame host.interface request) (Some f)
    → message.Gives (RepliesMessage host bytes request) (Some f)
by_neighbour host bytes request f (sendable, (asked, is, e)) = (sendable, (asked, is, inr (inl e)))

pub by_problem : (host : Host) (bytes : List ℕ) (request : Frame) (f : MessageFrame) → message.Gives (ProblemFrame host.interface bytes request) (Some f)
    → message.Gives (RepliesMessage host bytes request) (Some f)
by_problem host bytes request f (sendable, (asked, is, e)) = (sendable, (asked, is, inr (inr (inr e))))

-- ---- bytes

-- a reply with a message is sent
pub message-sent : (dscp : Carried → ℕ) (P : EthernetRepr → Carried → Type 0) (f : MessageFrame) (old new : List ℕ) (result : Option ℕ) → P f.header (values_of f)
    → f.dscp ≡ dscp (values_of f) → message.IsSent f old new result → IsOne P → Sends dscp P old new result
message-sent dscp P f old new None p marked (short, stays) one = (stays, λ k d q. let same = (one f.header k (values_of f) d p q).1 in omega (arith, short, ap reply_len same))
message-sent dscp P f old new (Some n) p marked (len, fits, rest, reads, is) one =
    record {
      header = f.header;
      carried = values_of f;
      replies = p;
      reads = reads;
      size = len;
      fits = fits;
      rest = rest;
      bytes = is ∙ ap (λ m. reply_bytes f.header (values_of f) m ++ drop n old) marked;
    }

-- a reply with DSCP 0 has the DSCP of replies with its values
pub sends-marked : (dscp : Carried → ℕ) (P : EthernetRepr → Carried → Type 0) (old new : List ℕ) (result : Option ℕ) → ((h : EthernetRepr) (c : Carried) → P h c → 0 ≡ dscp c)
    → Sends unmarked P old new result → Sends dscp P old new result
sends-marked dscp P old new None zero sends = sends
sends-marked dscp P old new (Some n) zero w =
    record {
      header = w.header;
      carried = w.carried;
      replies = w.replies;
      reads = w.reads;
      size = w.size;
      fits = w.fits;
      rest = w.rest;
      bytes = w.bytes ∙ ap (λ m. reply_bytes w.header w.carried m ++ drop n old) (zero w.header w.carried w.replies);
    }

-- a reply without a message is sent
pub frame-sent : (dscp : Carried → ℕ) (P : EthernetRepr → Carried → Type 0) (f : Frame) (h : EthernetRepr) (c : Carried) (old new : List ℕ) (result : Option ℕ) → IsSendable f → HasValues f h c → P h c
    → 0 ≡ dscp c → IsSent f old new result → IsOne P → Sends dscp P old new result
frame-sent dscp P f h c old new result sendable values p marked sent one =
    sends-marked dscp P old new result (λ k d q. marked ∙ ap dscp (one h k c d p q).1)
    (wire.sends P P f old new result (sendable, (h, c, values, p)) sent (λ h c p. p) (λ h c p. p) (λ h k c d p q. (one h k c d p q).1))

-- bytes that do not parse with valid checksums get no reply
pub unanswered : (host : Host) (bytes old new : List ℕ) (result : Option ℕ) → Sends (reply_dscp bytes) (RepliesBytes host bytes) old new result → IsUnread bytes → result ≡ None
unanswered host bytes old new None sends none = refl
unanswered host bytes old new (Some len) sends none =
    let (header, asked, reads, r) = sends.replies in
    let (link, c, whole) = whole-read bytes header asked reads in
    absurd (none link c whole)

-- a reply that was sent is a reply of the host to the bytes
pub answers : (host : Host) (bytes old new : List ℕ) (result : Option ℕ) → Sends (reply_dscp bytes) (RepliesBytes host bytes) old new result → IfSome result (λ len. Answers host bytes new)
answers host bytes old new None sends = tt
answers host bytes old new (Some len) sends = record { header = sends.header; carried = sends.carried; replies = sends.replies; reads = sends.reads }
