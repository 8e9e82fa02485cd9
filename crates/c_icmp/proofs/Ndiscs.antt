-- Neighbour discovery in a frame.
use Rattle.std.proofs.Common.{◌≡◌, ◌∙◌, ◌↔◌, Bool, true, false, IsTrue, List, MatchResult, ℕ, Result, Ok, Err, ap, drop, refl, subst₂, sym}
use Rattle.ip_wire.specs.Ethernet as ethernet
use Rattle.ip_wire.specs.Frame.{IsReadWhole, other, packet}
use Rattle.ip_wire.specs.Ipv6 as ipv6
use Rattle.ip_wire.specs.Types.{Error, EthernetRepr, IpRepr, Ipv4, Ipv6, Ipv6Repr}
use Rattle.ip_wire.specs.declared.EthernetProtocol.TheVariants as ethertype
use Rattle.wire_icmp.proofs.Addresses.{is_allowed-IsAllowed}
use Rattle.wire_icmp.specs.Ndisc.{IsAllowed, is_allowed}
use Rattle.wire_icmp.specs.declared.ndisc.repr.NdiscRepr.{NdiscRepr}
use Rattle.c_icmp.specs.Neighbours.{CarriesNdisc, ReadsNdisc}

-- the message of a frame is the payload of its IPv6 packet
pub in-packet : (frame message : List ℕ) (link : EthernetRepr) (ip : Ipv6Repr) (result : Result NdiscRepr Error) → ethernet.Reads frame link → link.ethertype ≡ ethertype.Ipv6
    → ipv6.Reads (drop 14 frame) ip → ((w : Ipv6Repr) → ipv6.Reads (drop 14 frame) w → w ≡ ip) → message ≡ ipv6.payload_of (drop 14 frame)
    → MatchResult result (CarriesNdisc (Ipv6 ip) message) (λ _. (v : NdiscRepr) → ¬ CarriesNdisc (Ipv6 ip) message v)
    → MatchResult result (ReadsNdisc frame) (λ _. (v : NdiscRepr) → ¬ ReadsNdisc frame v)
in-packet frame message link ip (Err error) header type reads one is none = λ v it. no-message v it.header it.ip it.message it.reads it.carries
  where
    no-message : (v : NdiscRepr) (h : EthernetRepr) (w : IpRepr) (m : List ℕ) → IsReadWhole frame h (packet w (other m)) → ¬ CarriesNdisc w m v
    no-message v h (Ipv4 w) m whole carries = carries
    no-message v h (Ipv6 w) m whole carries =
        let (of, inside, (udp, tcp, body)) = whole.reads_carried in
        none v (subst₂ (λ p b. CarriesNdisc p b v) (ap Ipv6 (one w inside)) (body ∙ sym is) carries)
in-packet frame message link ip (Ok v) header type reads one is carries = record {
  header = link;
  ip = Ipv6 ip;
  message = message;
  reads = record {
    reads_header = header;
    reads_carried = (type, reads, (λ udp. absurd (let other = carries.0 in cc), λ tcp. absurd (let other = carries.0 in cc), is));
  };
  carries = carries;
}

-- a frame without an Ethernet header has none
pub no-header : (frame : List ℕ) → ((h : EthernetRepr) → ¬ ethernet.Reads frame h) → (v : NdiscRepr) → ¬ ReadsNdisc frame v
no-header frame none v it = none it.header it.reads.reads_header

-- nor does one with another EtherType
pub other-type : (frame : List ℕ) (link : EthernetRepr) → ((h : EthernetRepr) → ethernet.Reads frame h → h ≡ link) → ¬ (link.ethertype ≡ ethertype.Ipv6)
    → (v : NdiscRepr) → ¬ ReadsNdisc frame v
other-type frame link one differs v it = of-version it.ip it.message it.reads it.carries
  where
    of-version : (w : IpRepr) (m : List ℕ) → IsReadWhole frame it.header (packet w (other m)) → ¬ CarriesNdisc w m v
    of-version (Ipv4 w) m whole carries = carries
    of-version (Ipv6 w) m whole carries = differs (ap (λ h. h.ethertype) (sym (one it.header whole.reads_header)) ∙ whole.reads_carried.0)

-- nor does one without an IPv6 header
pub no-packet : (frame : List ℕ) → ((w : Ipv6Repr) → ¬ ipv6.Reads (drop 14 frame) w) → (v : NdiscRepr) → ¬ ReadsNdisc frame v
no-packet frame none v it = of-version it.ip it.message it.reads it.carries
  where
    of-version : (w : IpRepr) (m : List ℕ) → IsReadWhole frame it.header (packet w (other m)) → ¬ CarriesNdisc w m v
    of-version (Ipv4 w) m whole carries = carries
    of-version (Ipv6 w) m whole carries = none w whole.reads_carried.1

-- the test of the library is the computed one
pub accepted : (v : NdiscRepr) (src dst : List ℕ) (tested computed : Bool) → computed ≡ is_allowed v src dst → (IsTrue tested ↔ IsAllowed v src dst) → tested ≡ computed
accepted v src dst true true same is = refl
accepted v src dst false false same is = refl
accepted v src dst true false same is = sym (same ∙ (is_allowed-IsAllowed v src dst).1 (is.0 refl))
accepted v src dst false true same is = is.1 ((is_allowed-IsAllowed v src dst).0 (sym same))
