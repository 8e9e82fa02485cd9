-- The DSCP of an echo reply is that of the request.
use Rattle.std.proofs.Common.{ℕ, ◌≡◌, ◌∙◌, ◌≤◌, inl, inr, List, Option, Some, None, true, arith, drop, length, length-drop, ap, refl, subst, sym}
use Rattle.std.specs.Prelude.{IfSome}
use Rattle.app_host.proofs.HostOnce.{apart}
use Rattle.app_host.proofs.Skips.{whole-long}
use Rattle.app_host.specs.Host.{IsFrameReply, IsMessageReply, RepliesFrame, RepliesMessage, UnreachableFrame}
use Rattle.app_host.specs.IcmpEcho.{HasDscpOf, IsIcmpEcho, KeepsDscp, RepliesEchoFrame, reply_dscp}
use Rattle.app_host.specs.IcmpError.{header_from, quoted}
use Rattle.app_host.specs.Neighbour.{AdvertisesFrame}
use Rattle.app_host.specs.ParameterProblem.{ProblemFrame}
use Rattle.app_host.specs.Skipped.{without_extensions}
use Rattle.app_host.specs.Interface.{header_back}
use Rattle.app_host.specs.Message as message
use Rattle.app_host.specs.Message.{HasClass, IsMarked, dscp_of, values_of}
use Rattle.app_host.specs.declared.host.Host.{Host}
use Rattle.app_host.specs.declared.interface.Interface.{Interface}
use Rattle.app_host.specs.declared.message.MessageFrame.{MessageFrame}
use Rattle.ip_wire.proofs.Parsed.{IsParsed}
use Rattle.ip_wire.specs.Frame as frame
use Rattle.ip_wire.specs.Frame.{IsReadWhole, ReadsPacket, all_checked}
use Rattle.ip_wire.specs.FrameValue.{carried_of}
use Rattle.ip_wire.specs.Ip.{dst_addr_of, header_before, src_addr_of, version_of}
use Rattle.ip_wire.specs.IpAddress as address
use Rattle.ip_wire.specs.Reply.{Gives, HasValues}
use Rattle.ip_wire.specs.Types.{EthernetRepr, IpAddress, IpRepr, IpVersion, Ipv4, Ipv6}
use Rattle.ip_wire.specs.declared.IpVersion.TheVariants as version
use Rattle.ip_wire.specs.declared.Carried.{Carried}
use Rattle.ip_wire.specs.declared.Carried.TheVariants as carried
use Rattle.ip_wire.specs.declared.Frame.{Frame}
use Rattle.ip_wire.specs.declared.IpAddress.TheVariants as address_of
use Rattle.ip_wire.specs.declared.IpProtocol.{IpProtocol}
use Rattle.ip_wire.specs.declared.Transport.{Transport}
use Rattle.ip_wire.specs.declared.Transport.TheVariants as transport
use Rattle.wire_icmp.specs.Icmp as icmp
use Rattle.wire_icmp.specs.declared.IcmpRepr.TheVariants.{DstUnreachable, EchoReply, ParamProblem}
use Rattle.wire_icmp.specs.declared.Unreachable.TheVariants as unreachable

carries-other : (c : Carried) (ip : IpRepr) (octets : List ℕ) → carried_of c ≡ Some (frame.packet ip (frame.other octets)) → (inner : Transport) × (c ≡ carried.Packet ip inner)
carries-other (carried.Packet v inner) ip octets e = (inner, by v inner ip octets e)
  where
    by : (v : IpRepr) (inner : Transport) (ip : IpRepr) (octets : List ℕ) → carried_of (carried.Packet v inner) ≡ Some (frame.packet ip (frame.other octets)) → carried.Packet v inner ≡ carried.Packet ip inner
    by v (transport.Other b) ip octets e = let same : v ≡ ip = cc in ap (λ x. carried.Packet x (transport.Other b)) same
    by v _ ip octets e = absurd (cc)
carries-other _ ip octets e = absurd (cc)

version-back : (v : IpRepr) (p : IpProtocol) (n : ℕ) → version_of (header_before (header_back v) p n) ≡ version_of v
version-back (Ipv4 v) p n = refl
version-back (Ipv6 v) p n = refl

-- the version of what a frame carries, if it is a packet
abbrev carried-version : frame.Carried → IpVersion
carried-version (frame.packet v inner) = version_of v
carried-version (frame.message m) = version.Ipv4

pub if-kept : {A B : Type 0} (result : Option ℕ) → (A → B) → IfSome result (λ len. A) → IfSome result (λ len. B)
if-kept None step a = tt
if-kept (Some len) step a = step a

-- a frame with the reply to an echo request has the DSCP that was read
pub keeps : (ours : Interface) (request : Frame) (bytes : List ℕ) (f : MessageFrame) (n : ℕ) → message.Gives (RepliesEchoFrame ours request) (Some f) → f.dscp ≡ n
    → ((v : IpRepr) (inner : Transport) → 16 ≤ length bytes → request.carried ≡ carried.Packet v inner → n ≡ dscp_of (version_of v) (drop 14 bytes)) → HasDscpOf ours request bytes f
keeps ours request bytes f n (sendable, (asked, is, e)) marked told = λ header other_asked other_carried long also g.
    let first = e.asks in
    let second = g.asks in
    let replies = e.replies in
    let same : e.ip ≡ g.ip = cc in
    let (inner, at) = carries-other request.carried g.ip g.request (also ∙ ap Some second) in
    (ap carried-version replies ∙ version-back e.ip _ _ ∙ ap version_of same, marked ∙ told g.ip inner long at)

pub no-echo : (ours : Interface) (request : Frame) (bytes : List ℕ) (result : Option MessageFrame) → message.Gives (RepliesEchoFrame ours request) None → IfSome result (HasDscpOf ours request bytes)
no-echo ours request bytes None none = tt
no-echo ours request bytes (Some f) none = λ header asked carried long is e. absurd (none header carried (asked, is, e))

-- ---- the DSCP of each reply

-- an echo reply has the DSCP of the request
echo-values : (bytes : List ℕ) (v : IpRepr) (ident seq_no n : ℕ) (payload : List ℕ) (p : IpProtocol) (src dst : IpAddress) → address.version_of src ≡ version_of v
    → reply_dscp bytes (frame.packet (header_before (header_back v) p n) (frame.other (icmp.bytes_of (EchoReply ident seq_no) payload src dst true))) ≡ dscp_of (version_of v) (drop 14 bytes)
echo-values bytes (Ipv4 v) ident seq_no n payload p (address_of.Ipv4 src) dst is = refl
echo-values bytes (Ipv6 v) ident seq_no n payload p (address_of.Ipv6 src) dst is = refl
echo-values bytes (Ipv4 v) ident seq_no n payload p (address_of.Ipv6 src) dst is = absurd (cc)
echo-values bytes (Ipv6 v) ident seq_no n payload p (address_of.Ipv4 src) dst is = absurd (cc)

back-version : (v : IpRepr) → address.version_of (dst_addr_of v) ≡ version_of v
back-version (Ipv4 v) = refl
back-version (Ipv6 v) = refl

pub echo-marked : (ours : Interface) (request : Frame) (bytes : List ℕ) (f : MessageFrame) (n : ℕ) → message.Gives (RepliesEchoFrame ours request) (Some f) → f.dscp ≡ n
    → ((v : IpRepr) (inner : Transport) → 16 ≤ length bytes → request.carried ≡ carried.Packet v inner → n ≡ dscp_of (version_of v) (drop 14 bytes))
    → 16 ≤ length bytes → f.dscp ≡ reply_dscp bytes (values_of f)
echo-marked ours request bytes f n (sendable, (asked, is, e)) marked told long =
    let (inner, at) = carries-other request.carried e.ip e.request (is ∙ ap Some e.asks) in
    marked ∙ told e.ip inner long at ∙ sym (ap (reply_dscp bytes) e.replies ∙ echo-values bytes e.ip e.ident e.seq_no _ e.payload _ (dst_addr_of e.ip) (src_addr_of e.ip) (back-version e.ip))

-- an advertisement has DSCP 0
pub advert-marked : (ours : Interface) (request : Frame) (bytes : List ℕ) (f : MessageFrame) → message.Gives (AdvertisesFrame ours request) (Some f) → f.dscp ≡ 0
    → f.dscp ≡ reply_dscp bytes (values_of f)
advert-marked ours request bytes f (sendable, (asked, is, e)) zero = zero ∙ sym (ap (reply_dscp bytes) e.tells)

-- so has an error
error-values : (ours : Interface) (bytes : List ℕ) (v : IpRepr) (n : ℕ) (quote : List ℕ) (p : IpProtocol)
    → reply_dscp bytes (frame.packet (header_before (header_from ours v) p n)
    (frame.other (icmp.bytes_of (DstUnreachable unreachable.Port) quote (src_addr_of (header_from ours v)) (dst_addr_of (header_from ours v)) true))) ≡ 0
error-values ours bytes (Ipv4 v) n quote p = refl
error-values ours bytes (Ipv6 v) n quote p = refl

problem-values : (ours : Interface) (bytes : List ℕ) (v : IpRepr) (code pointer n : ℕ) (quote : List ℕ) (p : IpProtocol)
    → reply_dscp bytes (frame.packet (header_before (header_from ours v) p n)
    (frame.other (icmp.bytes_of (ParamProblem code pointer) quote (src_addr_of (header_from ours v)) (dst_addr_of (header_from ours v)) true))) ≡ 0
problem-values ours bytes (Ipv4 v) code pointer n quote p = refl
problem-values ours bytes (Ipv6 v) code pointer n quote p = refl

pub unreachable-dscp : (host : Host) (request : Frame) (bytes : List ℕ) (h : EthernetRepr) (c : frame.Carried) → UnreachableFrame host bytes request h c → reply_dscp bytes c ≡ 0
unreachable-dscp host request bytes h c (asked, is, e) =
    let (v, about) = e.tells in ap (reply_dscp bytes) about.tells ∙ error-values host.interface bytes v _ (quoted (version_of v) (drop 14 bytes)) _

pub problem-dscp : (ours : Interface) (request : Frame) (bytes : List ℕ) (h : EthernetRepr) (c : frame.Carried) → ProblemFrame ours bytes request h c → reply_dscp bytes c ≡ 0
problem-dscp ours request bytes h c (asked, is, e) =
    let (v, about) = e.tells in ap (reply_dscp bytes) about.tells ∙ problem-values ours bytes v e.code e.pointer _ (quoted (version_of v) (drop 14 bytes)) _

-- a frame with such an error has DSCP 0
pub error-marked : (P : EthernetRepr → frame.Carried → Type 0) (bytes : List ℕ) (f : MessageFrame) → ((h : EthernetRepr) (c : frame.Carried) → P h c → reply_dscp bytes c ≡ 0)
    → message.Gives P (Some f) → f.dscp ≡ 0 → f.dscp ≡ reply_dscp bytes (values_of f)
error-marked P bytes f zeros (sendable, p) zero = zero ∙ sym (zeros f.header (values_of f) p)

-- a reply without a message has DSCP 0
frame-values : (host : Host) (bytes : List ℕ) (asked_header header : EthernetRepr) (asked c : frame.Carried) → IsFrameReply host asked_header asked header c → 0 ≡ reply_dscp bytes c
frame-values host bytes asked_header header asked c (inl e) = sym (ap (reply_dscp bytes) e.carries)
frame-values host bytes asked_header header asked c (inr (inl e)) = sym (ap (reply_dscp bytes) e.echoes)
frame-values host bytes asked_header header asked c (inr (inr e)) = sym (ap (reply_dscp bytes) e.carries)

pub frame-marked : (host : Host) (request f : Frame) (bytes : List ℕ) → Gives (RepliesFrame host request) (Some f)
    → (k : EthernetRepr) (d : frame.Carried) → HasValues f k d → 0 ≡ reply_dscp bytes d
frame-marked host request f bytes (sendable, (h, c, values, (asked, is, r))) k d others =
    let same : c ≡ d = cc in frame-values host bytes request.header h asked c r ∙ ap (reply_dscp bytes) same

-- ---- bytes

long-packet : (v : IpRepr) (bytes : List ℕ) → ReadsPacket all_checked bytes v → 20 ≤ length bytes
long-packet (Ipv4 v) bytes (r, whole) = r.lengths.least
long-packet (Ipv6 v) bytes r = omega (arith, r.lengths)

long-frame : (bytes : List ℕ) (header : EthernetRepr) (v : IpRepr) (t : frame.Transport) → IsReadWhole bytes header (frame.packet v t) → 16 ≤ length bytes
long-frame bytes header v t reads =
    let (type, packet, inner) = reads.reads_carried in omega (arith, long-packet v (drop 14 bytes) packet, length-drop 14 bytes)

long-past : (bytes : List ℕ) (header : EthernetRepr) (v : IpRepr) (t : frame.Transport) → IsReadWhole (without_extensions bytes) header (frame.packet v t) → 16 ≤ length bytes
long-past bytes header v t reads = whole-long bytes (long-frame (without_extensions bytes) header v t reads)

-- a frame with a reply that has a message is so long
long-asked : (host : Host) (bytes : List ℕ) (asked_header header : EthernetRepr) (asked c : frame.Carried) → IsReadWhole (without_extensions bytes) asked_header asked
    → IsMessageReply host bytes asked_header asked header c → 16 ≤ length bytes
long-asked host bytes asked_header header asked c reads (inl e) = long-past bytes asked_header e.ip _ (subst (IsReadWhole (without_extensions bytes) asked_header) e.asks reads)
long-asked host bytes asked_header header asked c reads (inr (inl e)) = long-past bytes asked_header (Ipv6 e.ip) _ (subst (IsReadWhole (without_extensions bytes) asked_header) e.asks reads)
long-asked host bytes asked_header header asked c reads (inr (inr (inl e))) = long-past bytes asked_header e.ip _ (subst (IsReadWhole (without_extensions bytes) asked_header) e.asks reads)
long-asked host bytes asked_header header asked c reads (inr (inr (inr e))) = long-past bytes asked_header (Ipv6 e.ip) _ (subst (IsReadWhole (without_extensions bytes) asked_header) e.asks reads)

pub message-marked : (host : Host) (request : Frame) (bytes : List ℕ) (f : MessageFrame) → IsParsed request (without_extensions bytes) → message.Gives (RepliesMessage host bytes request) (Some f)
    → (16 ≤ length bytes → f.dscp ≡ reply_dscp bytes (values_of f)) → f.dscp ≡ reply_dscp bytes (values_of f)
message-marked host request bytes f parsed (sendable, (asked, is, r)) marked =
    let reads = (parsed request.header asked).0 (refl, is) in marked (long-asked host bytes request.header f.header asked (values_of f) reads r)

pub keeps-dscp : (ours : Interface) (request : Frame) (bytes new : List ℕ) (f : MessageFrame) → IsParsed request (without_extensions bytes) → HasDscpOf ours request bytes f → IsMarked f new → KeepsDscp ours bytes new
keeps-dscp ours request bytes new f parsed has marked = λ asked_header header asked carried reads e.
    let (link, is) = (parsed asked_header asked).1 reads in
    let read = subst (IsReadWhole (without_extensions bytes) asked_header) e.asks reads in
    let long = long-past bytes asked_header e.ip _ read in
    let step : (h : EthernetRepr) → request.header ≡ h → (g : IsIcmpEcho ours h asked header carried) → (version_of f.ip ≡ version_of g.ip) × (f.dscp ≡ dscp_of (version_of g.ip) (drop 14 bytes)) =
    λ h same. subst (λ x. (g : IsIcmpEcho ours x asked header carried) → (version_of f.ip ≡ version_of g.ip) × (f.dscp ≡ dscp_of (version_of g.ip) (drop 14 bytes))) same (has header asked carried long is) in
    let (version, dscp) = step asked_header link e in
    subst (λ n. HasClass (version_of e.ip) (drop 14 new) n) dscp (subst (λ v. HasClass v (drop 14 new) f.dscp) version marked)

-- a reply of another kind is not to an echo request
pub other-keeps : (host : Host) (request f : Frame) (bytes new : List ℕ) → IsParsed request (without_extensions bytes) → Gives (RepliesFrame host request) (Some f) → KeepsDscp host.interface bytes new
other-keeps host request f bytes new parsed (sendable, (h, c, values, (asked, is, r))) = λ asked_header header other_asked other_carried reads e.
    let (link, also) = (parsed asked_header other_asked).1 reads in
    let same : other_asked ≡ asked = cc in
    absurd (apart host bytes request.header asked h header c other_carried r (inl (subst (λ x. IsIcmpEcho host.interface request.header x header other_carried) same
    (subst (λ l. IsIcmpEcho host.interface l other_asked header other_carried) (sym link) e))))
