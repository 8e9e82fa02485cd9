-- Advertisements in frames.
use Rattle.std.proofs.Common.{ℕ, ◌≡◌, ◌∷◌, Bool, List, Option, Some, None, length, length-append, refl, sym, ap, subst, true, arith}
use Rattle.ip_wire.specs.Frame.{other, packet}
use Rattle.ip_wire.specs.Ip.{dst_addr_of, src_addr_of}
use Rattle.ip_wire.specs.IpAddress.{address_bytes}
use Rattle.ip_wire.specs.Types.{EthernetAddress, EthernetRepr, Ipv6, Ipv6Repr}
use Rattle.wire_icmp.specs.Ndisc.{Reads, bytes_of}
use Rattle.wire_icmp.specs.declared.NdiscRepr.TheVariants.{NeighborSolicit}
use Rattle.app_host.proofs.Messages.{sendable}
use Rattle.app_host.specs.Message.{Gives, message_frame}
use Rattle.app_host.specs.Neighbour.{IsAnsweredTo, IsNeighbourReply, IsSolicited, advert_header, advert_of}
use Rattle.app_host.specs.declared.interface.Interface.{Interface}
use Rattle.app_host.specs.declared.message.Message.TheVariants.{Ndisc}

-- the length of an advertisement
advert-len : (ours : Interface) (src dst : List ℕ) (solicited : Bool) → length ours.ipv6_addr ≡ 16 → length ours.hardware_addr.0 ≡ 6 → length (bytes_of (advert_of ours solicited) src dst true) ≡ 32
advert-len ours src dst solicited target hardware = omega (arith, length-append ours.ipv6_addr (2 ∷ 1 ∷ ours.hardware_addr.0), target, hardware)

-- the advertisement is the reply to a solicitation
pub advertised : (ours : Interface) (link : EthernetRepr) (ip : Ipv6Repr) (request : List ℕ) (named : Option EthernetAddress) (hardware : EthernetAddress) (dst : List ℕ) (solicited : Bool)
    → IsSolicited ours link ip → Reads request ip.src_addr ip.dst_addr ip.hop_limit true (NeighborSolicit ours.ipv6_addr named) → IsAnsweredTo ours link ip named hardware dst solicited
    → length ours.ipv6_addr ≡ 16 → length ours.hardware_addr.0 ≡ 6
    → Gives (IsNeighbourReply ours link (packet (Ipv6 ip) (other request))) (Some (message_frame ours.hardware_addr hardware (Ipv6 (advert_header ours dst)) (Ndisc (advert_of ours solicited))))
advertised ours link ip request named hardware dst solicited for_us reads to target own = (
  sendable ours.hardware_addr hardware (Ipv6 (advert_header ours dst)) (Ndisc (advert_of ours solicited)) (λ w s d. advert-len ours (address_bytes (src_addr_of w)) (address_bytes (dst_addr_of w)) solicited target own) (omega arith) refl,
  record {
    ip = ip;
    request = request;
    named = named;
    hardware = hardware;
    dst = dst;
    solicited = solicited;
    asks = refl;
    for_us = for_us;
    reads = reads;
    to = to;
    link = refl;
    tells = ap (λ n. packet (Ipv6 (record (advert_header ours dst) { payload_len = n })) (other (bytes_of (advert_of ours solicited) ours.ipv6_addr dst true)))
        (sym (advert-len ours ours.ipv6_addr dst solicited target own));
  },
)

-- a packet that is no such solicitation has none
pub no_advert : (ours : Interface) (link : EthernetRepr) (ip : Ipv6Repr) (request : List ℕ)
    → ((named : Option EthernetAddress) (hardware : EthernetAddress) (dst : List ℕ) (solicited : Bool) → IsSolicited ours link ip
    → Reads request ip.src_addr ip.dst_addr ip.hop_limit true (NeighborSolicit ours.ipv6_addr named) → ¬ IsAnsweredTo ours link ip named hardware dst solicited)
    → Gives (IsNeighbourReply ours link (packet (Ipv6 ip) (other request))) None
no_advert ours link ip request none header carried e =
    let asks = e.asks in
    let same : e.ip ≡ ip = cc in
    let bytes : e.request ≡ request = cc in
    none e.named e.hardware e.dst e.solicited (subst (IsSolicited ours link) same e.for_us)
    (subst (λ b. Reads b ip.src_addr ip.dst_addr ip.hop_limit true (NeighborSolicit ours.ipv6_addr e.named)) bytes
    (subst (λ (x : Ipv6Repr). Reads e.request x.src_addr x.dst_addr x.hop_limit true (NeighborSolicit ours.ipv6_addr e.named)) same e.reads))
    (subst (λ x. IsAnsweredTo ours link x e.named e.hardware e.dst e.solicited) same e.to)
