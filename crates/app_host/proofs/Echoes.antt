-- The echo of a parsed frame.
use Rattle.std.proofs.Common.{ℕ, ◌≡◌, ◌∙◌, ◌<◌, ◌≤◌, ◌+◌, List, None, Some, arith, length, refl, sym, ap, subst}
use Rattle.std.specs.Borrow.{Bor}
use Rattle.ip_wire.specs.Frame as frame
use Rattle.ip_wire.specs.Frame.{type_of}
use Rattle.ip_wire.specs.FrameValue.{Agrees, Fits, carried_of, frame_around}
use Rattle.ip_wire.specs.Ip.{header_before, max_payload_len}
use Rattle.ip_wire.specs.declared.Carried.TheVariants as carried
use Rattle.ip_wire.specs.Types.{EthernetRepr, IpRepr, Ipv4, Ipv6, UdpRepr}
use Rattle.ip_wire.specs.declared.Frame.{Frame}
use Rattle.ip_wire.specs.declared.IpProtocol.TheVariants as protocol
use Rattle.ip_wire.specs.declared.Transport.TheVariants as transport
use Rattle.app_host.specs.Interface.{IsForUs, header_back}
use Rattle.ip_wire.specs.Reply.{Gives, IsSendable}
use Rattle.app_host.specs.UdpEcho.{EchoesFrame}
use Rattle.app_host.specs.declared.interface.Interface.{Interface}

-- the ports of the reply
abbrev pub swapped : UdpRepr → UdpRepr
swapped u = record { src_port = u.dst_port; dst_port = u.src_port }

-- the contents of the reply
abbrev pub echo_values : IpRepr → UdpRepr → List ℕ → frame.Carried
echo_values v u octets = frame.packet (header_before (header_back v) protocol.Udp (8 + length octets)) (frame.datagram (swapped u) octets)

-- the reply to a packet with this header and these ports
abbrev pub echo_of : Interface → EthernetRepr → IpRepr → UdpRepr → Bor (List ℕ) → Frame
echo_of ours link v u payload = frame_around ours.hardware_addr link.src_addr (header_back v) (transport.Udp (swapped u) payload)

pub same_type : (v : IpRepr) → type_of (header_back v) ≡ type_of v
same_type (Ipv4 v) = refl
same_type (Ipv6 v) = refl

sendable : (ours : Interface) (link : EthernetRepr) (v : IpRepr) (u : UdpRepr) (payload : Bor (List ℕ)) → Agrees (echo_of ours link v u payload) → Fits (echo_of ours link v u payload)
    → IsSendable (echo_of ours link v u payload)
sendable ours link (Ipv4 v) u payload agrees fits = record { agrees = agrees; fits = fits; header = refl; carried = refl }
sendable ours link (Ipv6 v) u payload agrees fits = record { agrees = agrees; fits = fits; header = refl; carried = refl }

within : (ours : Interface) (link : EthernetRepr) (v : IpRepr) (u : UdpRepr) (payload : Bor (List ℕ)) → Fits (echo_of ours link v u payload) → 8 + length payload.now ≤ max_payload_len v
within ours link (Ipv4 v) u payload fits = fits.0
within ours link (Ipv6 v) u payload fits = fits.0

-- the reply
pub echoed : (ours : Interface) (port : ℕ) (request f : Frame) (v : IpRepr) (u : UdpRepr) (payload : Bor (List ℕ))
    → request.carried ≡ carried.Packet v (transport.Udp u payload) → u.dst_port ≡ port → 1024 ≤ u.src_port → port < u.src_port → IsForUs ours request.header v
    → f ≡ echo_of ours request.header v u payload → Agrees (echo_of ours request.header v u payload) × Fits (echo_of ours request.header v u payload) → Gives (EchoesFrame ours port request) (Some f)
echoed ours port request f v u payload carries to_port from_user from_above for_us is sound =
    let link = request.header in
    let agrees = sound.0 in
    let fits = sound.1 in
    let header : EthernetRepr = record { src_addr = ours.hardware_addr; dst_addr = link.src_addr; ethertype = type_of v } in
    let has_header : f.header ≡ header = ap (λ (g : Frame). g.header) is ∙ ap (λ t. record header { ethertype = t }) (same_type v) in (
      subst IsSendable (sym is) (sendable ours link v u payload agrees fits),
      (
        header,
        echo_values v u payload.now,
        (has_header, ap (λ (g : Frame). carried_of g.carried) is),
        (
          frame.packet v (frame.datagram u payload.now),
          ap carried_of carries,
          record {
            ip = v;
            udp = u;
            payload = payload.now;
            asks = refl;
            for_us = for_us;
            to_port = to_port;
            from_user = from_user;
            from_above = from_above;
            fits = within ours link v u payload fits;
            link = refl;
            echoes = refl;
          },
        ),
      ),
    )

-- the reply to a packet that was parsed can be emitted
pub sound : (ours : Interface) (link : EthernetRepr) (v : IpRepr) (u : UdpRepr) (payload : Bor (List ℕ)) → 1024 ≤ u.src_port → Fits (record { header = link; carried = carried.Packet v (transport.Udp u payload) })
    → Agrees (echo_of ours link v u payload) × Fits (echo_of ours link v u payload)
sound ours link (Ipv4 v) u payload user fits = ((refl, (refl, λ z. absurd (omega (arith, user, z)))), fits)
sound ours link (Ipv6 v) u payload user fits = ((refl, (refl, λ z. absurd (omega (arith, user, z)))), fits)

-- a packet that is not for us, or does not ask for one, gets none
pub unasked : (ours : Interface) (port : ℕ) (link : EthernetRepr) (v : IpRepr) (u : UdpRepr) (payload : Bor (List ℕ))
    → (IsForUs ours link v → ¬ ((u.dst_port ≡ port) × (1024 ≤ u.src_port) × (port < u.src_port)))
    → Gives (EchoesFrame ours port (record { header = link; carried = carried.Packet v (transport.Udp u payload) })) None
unasked ours port link v u payload none header c (asked, is, e) =
    let asks = e.asks in
    let ip : e.ip ≡ v = cc in
    let udp : e.udp ≡ u = cc in
    none (subst (IsForUs ours link) ip e.for_us) (subst (λ (x : UdpRepr). (x.dst_port ≡ port) × (1024 ≤ x.src_port) × (port < x.src_port)) udp (e.to_port, e.from_user, e.from_above))
