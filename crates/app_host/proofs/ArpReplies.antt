-- The reply to an ARP request in a frame.
use Rattle.std.proofs.Common.{◌≡◌, ◌∙◌, Some, None, refl, sym, ap, subst}
use Rattle.ip_wire.specs.Arp as arp
use Rattle.ip_wire.specs.Frame as frame
use Rattle.ip_wire.specs.FrameValue.{arp_frame, carried_of}
use Rattle.ip_wire.specs.Types.{ArpRepr, EthernetAddress}
use Rattle.ip_wire.specs.declared.Carried.TheVariants as carried
use Rattle.ip_wire.specs.declared.Frame.{Frame}
use Rattle.app_host.specs.Arp.{ArpRepliesFrame, IsArpReply}
use Rattle.ip_wire.specs.Reply.{Gives, IsSendable}
use Rattle.app_host.specs.declared.interface.Interface.{Interface}

normal_reply : (ours : Interface) (m : ArpRepr) (asker : EthernetAddress) (reply : ArpRepr) → IsArpReply ours m asker reply → arp.normal reply ≡ reply
normal_reply ours m asker reply r = ap arp.normal r.tells ∙ sym r.tells

sendable : (ours : Interface) (asker : EthernetAddress) (reply : ArpRepr) → arp.normal reply ≡ reply → IsSendable (arp_frame ours.hardware_addr asker reply)
sendable ours asker reply normal = record { agrees = refl; fits = tt; header = refl; carried = ap (λ v. Some (frame.message v)) normal }

-- a frame with a reply to an ARP request is the reply
pub replied : (ours : Interface) (request f : Frame) (m : ArpRepr) (asker : EthernetAddress) (reply : ArpRepr) → request.carried ≡ carried.Arp m → IsArpReply ours m asker reply
    → f ≡ arp_frame ours.hardware_addr asker reply → Gives (ArpRepliesFrame ours request) (Some f)
replied ours request f m asker reply carries r is = (
  subst IsSendable (sym is) (sendable ours asker reply (normal_reply ours m asker reply r)),
  (
    (arp_frame ours.hardware_addr asker reply).header,
    frame.message reply,
    (ap (λ (g : Frame). g.header) is, ap (λ (g : Frame). carried_of g.carried) is),
    (frame.message m, ap carried_of carries, record { request = m; asker = asker; reply = reply; asks = refl; replies = r; link = refl; carries = refl }),
  ),
)

-- a frame whose ARP message gets no reply gets none
pub no_reply : (ours : Interface) (request : Frame) (m : ArpRepr) → request.carried ≡ carried.Arp m → ((asker : EthernetAddress) (reply : ArpRepr) → ¬ IsArpReply ours m asker reply)
    → Gives (ArpRepliesFrame ours request) None
no_reply ours request m carries none header carried (asked, is, e) =
    let asks = e.asks in
    let mine : carried_of request.carried ≡ Some (frame.message m) = ap carried_of carries in
    let same : e.request ≡ m = cc in
    none e.asker e.reply (subst (λ x. IsArpReply ours x e.asker e.reply) same e.replies)
