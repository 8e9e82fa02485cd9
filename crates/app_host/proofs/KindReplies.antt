-- A frame of each kind gets the replies of its kind only, and what is sent of them is what a host sends.
use Rattle.std.proofs.Common.{ℕ, ◌≡◌, ◌≤◌, inl, inr, List, Option, Some, None, length, refl, subst, sym}
use Rattle.std.specs.Prelude.{IfSome}
use Rattle.app_host.proofs.EchoDscp.{frame-marked, if-kept, keeps-dscp, message-marked, other-keeps}
use Rattle.app_host.proofs.HostOnce.{bytes-once}
use Rattle.app_host.proofs.HostReplies.{frame-sent, message-sent}
use Rattle.app_host.proofs.Skips.{whole-read}
use Rattle.app_host.specs.Arp.{ArpRepliesFrame}
use Rattle.app_host.specs.Host.{IsFrameReply, IsMessageReply, IsReply, RepliesBytes, RepliesFrame, RepliesMessage, UnreachableFrame}
use Rattle.app_host.specs.IcmpEcho.{HasDscpOf, RepliesEchoFrame, reply_dscp}
use Rattle.app_host.specs.Kinds.{TriesReply}
use Rattle.app_host.specs.Message as message
use Rattle.app_host.specs.Message.{IsMarked, values_of}
use Rattle.app_host.specs.Neighbour.{AdvertisesFrame}
use Rattle.app_host.specs.ParameterProblem.{ProblemFrame}
use Rattle.app_host.specs.Skipped.{without_extensions}
use Rattle.app_host.specs.TcpReply.{TcpRepliesFrame}
use Rattle.app_host.specs.UdpEcho.{EchoesFrame}
use Rattle.app_host.specs.declared.host.Host.{Host}
use Rattle.app_host.specs.declared.interface.Interface.{Interface}
use Rattle.app_host.specs.declared.message.MessageFrame.{MessageFrame}
use Rattle.ip_wire.proofs.Found.{gives-frame}
use Rattle.ip_wire.proofs.Parsed.{IsParsed}
use Rattle.ip_wire.specs.Ethernet as ethernet
use Rattle.ip_wire.specs.Frame as frame
use Rattle.ip_wire.specs.Frame.{all_checked}
use Rattle.ip_wire.specs.FrameValue.{Finds, carried_of}
use Rattle.ip_wire.specs.Reply.{Gives, IsSent}
use Rattle.ip_wire.specs.Types.{ArpRepr, EthernetRepr, IpRepr, UdpRepr}
use Rattle.ip_wire.specs.declared.Carried.{Carried}
use Rattle.ip_wire.specs.declared.Carried.TheVariants as carried
use Rattle.ip_wire.specs.declared.Frame.{Frame}
use Rattle.ip_wire.specs.declared.TcpRepr.{TcpRepr}
use Rattle.ip_wire.specs.declared.Transport.TheVariants as transport
use Rattle.std.specs.Borrow.{Bor}

-- ---- what is sent of a reply

no-reply : (host : Host) (bytes : List ℕ) (request : Frame) → IsParsed request (without_extensions bytes) → Gives (RepliesFrame host request) None → message.Gives (RepliesMessage host bytes request) None
    → (h : EthernetRepr) (c : frame.Carried) → ¬ RepliesBytes host bytes h c
no-reply host bytes request parsed no_frame no_message = λ h c (header, asked, reads, r). let same = (parsed header asked).1 reads in neither h c asked same.1 (subst (λ x. IsReply host bytes x asked h c) (sym same.0) r)
  where
    neither : (h : EthernetRepr) (c asked : frame.Carried) → carried_of request.carried ≡ Some asked → ¬ IsReply host bytes request.header asked h c
    neither h c asked is (inl e) = no_frame h c (asked, is, e)
    neither h c asked is (inr e) = no_message h c (asked, is, e)

pub always : {A : Type 0} (result : Option ℕ) → A → IfSome result (λ len. A)
always None a = tt
always (Some len) a = a

-- a reply without a message is sent
pub record SendsFrame (host : Host) (request : Frame) (old new : List ℕ) (sent : Option ℕ) : Type 0 where
  pub reply : Frame
  pub gives : Gives (RepliesFrame host request) (Some reply)
  pub sends : IsSent reply old new sent

-- a reply with a message is sent, with its DSCP
pub record SendsMessage (host : Host) (bytes : List ℕ) (request : Frame) (old new : List ℕ) (sent : Option ℕ) : Type 0 where
  pub reply : MessageFrame
  pub gives : message.Gives (RepliesMessage host bytes request) (Some reply)
  pub sends : message.IsSent reply old new sent
  pub marks : IfSome sent (λ len. IsMarked reply new)
  pub keeps : HasDscpOf host.interface request bytes reply
  pub dscp : 16 ≤ length bytes → reply.dscp ≡ reply_dscp bytes (values_of reply)

pub by-frame : (host : Host) (bytes : List ℕ) (request : Frame) (old new : List ℕ) (sent : Option ℕ) → Finds all_checked (without_extensions bytes) request → SendsFrame host request old new sent
    → TriesReply host bytes old new (Some sent)
by-frame host bytes request old new sent found s =
    let parsed = gives-frame all_checked (without_extensions bytes) request found in
    let (sendable, (h, c, values, (asked, is, e))) = s.gives in
    let p : RepliesBytes host bytes h c = (request.header, asked, (parsed request.header asked).0 (refl, is), inl e) in
    record {
      tries = (
        (h, c, p),
        frame-sent (reply_dscp bytes) (RepliesBytes host bytes) s.reply h c old new sent sendable values p (frame-marked host request s.reply bytes s.gives h c values) s.sends (bytes-once host bytes),
      );
      dscp = always sent (other-keeps host request s.reply bytes new parsed s.gives);
    }

pub by-message : (host : Host) (bytes : List ℕ) (request : Frame) (old new : List ℕ) (sent : Option ℕ) → Finds all_checked (without_extensions bytes) request → SendsMessage host bytes request old new sent
    → TriesReply host bytes old new (Some sent)
by-message host bytes request old new sent found s =
    let parsed = gives-frame all_checked (without_extensions bytes) request found in
    let (sendable, (asked, is, e)) = s.gives in
    let p : RepliesBytes host bytes s.reply.header (values_of s.reply) = (request.header, asked, (parsed request.header asked).0 (refl, is), inr e) in
    record {
      tries = (
        (s.reply.header, values_of s.reply, p),
        message-sent (reply_dscp bytes) (RepliesBytes host bytes) s.reply old new sent p (message-marked host request bytes s.reply parsed s.gives s.dscp) s.sends (bytes-once host bytes),
      );
      dscp = if-kept sent (keeps-dscp host.interface request bytes new s.reply parsed s.keeps) s.marks;
    }

-- there is no reply, and nothing is sent
pub without : (host : Host) (bytes : List ℕ) (request : Frame) (old : List ℕ) → Finds all_checked (without_extensions bytes) request → Gives (RepliesFrame host request) None
    → message.Gives (RepliesMessage host bytes request) None → TriesReply host bytes old old None
without host bytes request old found no_frame no_message =
    record { tries = (refl, no-reply host bytes request (gives-frame all_checked (without_extensions bytes) request found) no_frame no_message); dscp = tt }

-- what does not parse gets no reply
pub unread : (host : Host) (bytes : List ℕ) (request : Frame) (old : List ℕ) → Finds all_checked (without_extensions bytes) request → carried_of request.carried ≡ None → TriesReply host bytes old old None
unread host bytes request old found none = without host bytes request old found (λ h c (asked, is, e). absurd (cc)) (λ h c (asked, is, e). absurd (cc))

pub no-link : (host : Host) (bytes old : List ℕ) → ((v : EthernetRepr) → ¬ ethernet.Reads bytes v) → TriesReply host bytes old old None
no-link host bytes old none = record { tries = (refl, λ h c (header, asked, reads, r). let (link, c, whole) = whole-read bytes header asked reads in none link whole.reads_header); dscp = tt }

-- ---- no reply, by what a frame carries

-- a frame with this header that carries this gets no reply
abbrev pub Nothing : Host → List ℕ → EthernetRepr → Carried → List ℕ → Type 0
Nothing host bytes link c old = Finds all_checked (without_extensions bytes) (record { header = link; carried = c }) → TriesReply host bytes old old None

pub no-arp : (host : Host) (bytes : List ℕ) (link : EthernetRepr) (m : ArpRepr) (old : List ℕ) → Gives (ArpRepliesFrame host.interface (record { header = link; carried = carried.Arp m })) None → Nothing host bytes link (carried.Arp m) old
no-arp host bytes link m old none found =
    without host bytes (record { header = link; carried = carried.Arp m }) old found (λ h c (asked, is, e). frames h c asked is e) (λ h c (asked, is, e). messages h c asked is e)
  where
    frames : (h : EthernetRepr) (c asked : frame.Carried) → carried_of (carried.Arp m) ≡ Some asked → ¬ IsFrameReply host link asked h c
    frames h c asked is (inl e) = none h c (asked, is, e)
    frames h c asked is (inr (inl e)) = absurd (let asks = e.asks in cc)
    frames h c asked is (inr (inr e)) = absurd (let asks = e.asks in cc)

    messages : (h : EthernetRepr) (c asked : frame.Carried) → carried_of (carried.Arp m) ≡ Some asked → ¬ IsMessageReply host bytes link asked h c
    messages h c asked is (inl e) = absurd (let asks = e.asks in cc)
    messages h c asked is (inr (inl e)) = absurd (let asks = e.asks in cc)
    messages h c asked is (inr (inr (inl e))) = absurd (let asks = e.asks in cc)
    messages h c asked is (inr (inr (inr e))) = absurd (let asks = e.asks in cc)

pub no-udp : (host : Host) (bytes : List ℕ) (link : EthernetRepr) (v : IpRepr) (u : UdpRepr) (payload : Bor (List ℕ)) (old : List ℕ)
    → Gives (EchoesFrame host.interface host.echo_port (record { header = link; carried = carried.Packet v (transport.Udp u payload) })) None
    → message.Gives (UnreachableFrame host bytes (record { header = link; carried = carried.Packet v (transport.Udp u payload) })) None → Nothing host bytes link (carried.Packet v (transport.Udp u payload)) old
no-udp host bytes link v u payload old no_echo no_error found =
    without host bytes (record { header = link; carried = carried.Packet v (transport.Udp u payload) }) old found (λ h c (asked, is, e). frames h c asked is e) (λ h c (asked, is, e). messages h c asked is e)
  where
    frames : (h : EthernetRepr) (c asked : frame.Carried) → carried_of (carried.Packet v (transport.Udp u payload)) ≡ Some asked → ¬ IsFrameReply host link asked h c
    frames h c asked is (inl e) = absurd (let asks = e.asks in cc)
    frames h c asked is (inr (inl e)) = no_echo h c (asked, is, e)
    frames h c asked is (inr (inr e)) = absurd (let asks = e.asks in cc)

    messages : (h : EthernetRepr) (c asked : frame.Carried) → carried_of (carried.Packet v (transport.Udp u payload)) ≡ Some asked → ¬ IsMessageReply host bytes link asked h c
    messages h c asked is (inl e) = absurd (let asks = e.asks in cc)
    messages h c asked is (inr (inl e)) = absurd (let asks = e.asks in cc)
    messages h c asked is (inr (inr (inl e))) = no_error h c (asked, is, e)
    messages h c asked is (inr (inr (inr e))) = absurd (let asks = e.asks in cc)

pub no-tcp : (host : Host) (bytes : List ℕ) (link : EthernetRepr) (v : IpRepr) (u : TcpRepr) (old : List ℕ)
    → Gives (TcpRepliesFrame host.interface host.open_ports.now host.offer (record { header = link; carried = carried.Packet v (transport.Tcp u) })) None
    → Nothing host bytes link (carried.Packet v (transport.Tcp u)) old
no-tcp host bytes link v u old none found =
    without host bytes (record { header = link; carried = carried.Packet v (transport.Tcp u) }) old found (λ h c (asked, is, e). frames h c asked is e) (λ h c (asked, is, e). messages h c asked is e)
  where
    frames : (h : EthernetRepr) (c asked : frame.Carried) → carried_of (carried.Packet v (transport.Tcp u)) ≡ Some asked → ¬ IsFrameReply host link asked h c
    frames h c asked is (inl e) = absurd (let asks = e.asks in cc)
    frames h c asked is (inr (inl e)) = absurd (let asks = e.asks in cc)
    frames h c asked is (inr (inr e)) = none h c (asked, is, e)

    messages : (h : EthernetRepr) (c asked : frame.Carried) → carried_of (carried.Packet v (transport.Tcp u)) ≡ Some asked → ¬ IsMessageReply host bytes link asked h c
    messages h c asked is (inl e) = absurd (let asks = e.asks in cc)
    messages h c asked is (inr (inl e)) = absurd (let asks = e.asks in cc)
    messages h c asked is (inr (inr (inl e))) = absurd (let asks = e.asks in cc)
    messages h c asked is (inr (inr (inr e))) = absurd (let asks = e.asks in cc)

pub no-other : (host : Host) (bytes : List ℕ) (link : EthernetRepr) (v : IpRepr) (payload : Bor (List ℕ)) (old : List ℕ)
    → message.Gives (RepliesEchoFrame host.interface (record { header = link; carried = carried.Packet v (transport.Other payload) })) None
    → message.Gives (AdvertisesFrame host.interface (record { header = link; carried = carried.Packet v (transport.Other payload) })) None
    → message.Gives (ProblemFrame host.interface bytes (record { header = link; carried = carried.Packet v (transport.Other payload) })) None
    → Nothing host bytes link (carried.Packet v (transport.Other payload)) old
no-other host bytes link v payload old no_echo no_advert no_problem found =
    without host bytes (record { header = link; carried = carried.Packet v (transport.Other payload) }) old found (λ h c (asked, is, e). frames h c asked is e) (λ h c (asked, is, e). messages h c asked is e)
  where
    frames : (h : EthernetRepr) (c asked : frame.Carried) → carried_of (carried.Packet v (transport.Other payload)) ≡ Some asked → ¬ IsFrameReply host link asked h c
    frames h c asked is (inl e) = absurd (let asks = e.asks in cc)
    frames h c asked is (inr (inl e)) = absurd (let asks = e.asks in cc)
    frames h c asked is (inr (inr e)) = absurd (let asks = e.asks in cc)

    messages : (h : EthernetRepr) (c asked : frame.Carried) → carried_of (carried.Packet v (transport.Other payload)) ≡ Some asked → ¬ IsMessageReply host bytes link asked h c
    messages h c asked is (inl e) = no_echo h c (asked, is, e)
    messages h c asked is (inr (inl e)) = no_advert h c (asked, is, e)
    messages h c asked is (inr (inr (inl e))) = absurd (let asks = e.asks in cc)
    messages h c asked is (inr (inr (inr e))) = no_problem h c (asked, is, e)

-- a UDP packet is no echo request
pub udp-no-echo : (ours : Interface) (link : EthernetRepr) (v : IpRepr) (u : UdpRepr) (payload : Bor (List ℕ))
    → message.Gives (RepliesEchoFrame ours (record { header = link; carried = carried.Packet v (transport.Udp u payload) })) None
udp-no-echo ours link v u payload h c (asked, is, e) = absurd (let asks = e.asks in cc)
