-- A query in the payload of a packet.
use Rattle.std.proofs.Common.{ℕ, ◌≡◌, ◌∙◌, ◌↔◌, Bor, List, Option, Some, None, ap, drop, length, refl, subst, subst₂, sym}
use Rattle.std.proofs.lemmas.Option.{same_Some}
use Rattle.ip_wire.specs.Block.{IsIn}
use Rattle.ip_wire.specs.Protocol.{number_of}
use Rattle.ip_wire.specs.Frame.{ReadsFrame, Transport, all_checked, datagram, other, packet, segment}
use Rattle.ip_wire.specs.FrameValue.{transport_of}
use Rattle.ip_wire.specs.TcpRepr.{TcpHeader, header_of}
use Rattle.ip_wire.specs.Types.{EthernetRepr, IpRepr, Ipv4, Ipv4Repr, Ipv6, Ipv6Repr, UdpRepr}
use Rattle.ip_wire.specs.declared.Transport as transport
use Rattle.ip_wire.specs.declared.Transport.TheVariants.{Udp, Tcp, Other, Unread}
use Rattle.wire_extensions.specs.Chain.{chain_of}
use Rattle.wire_extensions.specs.declared.chain.Chain.{Chain}
use Rattle.app_mld.specs.Mld.{CarriesQuery, Delays, IsQuery, IsQueryMessage, link_local_prefix}

-- the message that the extension headers lead to
pub carried : (ip : Ipv6Repr) (group payload : List ℕ) (c : Chain) (result : Option ℕ) → c ≡ chain_of (number_of ip.next_header) (length payload) payload
    → (ip.hop_limit ≡ 1) × IsIn link_local_prefix ip.src_addr → c.protocol ≡ 58 → Delays (IsQueryMessage ip group (drop c.len payload)) result → Delays (CarriesQuery ip group payload) result
carried ip group payload c None is link icmp none = λ d k. none d (subst (λ (m : Chain). IsQueryMessage ip group (drop m.len payload) d) (sym is) k.message)
carried ip group payload c (Some d) is link icmp asks = record {
  hop_limit = link.0;
  from_link = link.1;
  protocol = ap (λ (m : Chain). m.protocol) (sym is) ∙ icmp;
  message = subst (λ (m : Chain). IsQueryMessage ip group (drop m.len payload) d) is asks;
}

-- what the parser says of the packets of a frame
abbrev pub IsParsed : List ℕ → Option (EthernetRepr × IpRepr × Transport) → Type 0
IsParsed frame found = (link : EthernetRepr) (v : IpRepr) (t : Transport) → (found ≡ Some (link, v, t)) ↔ ReadsFrame all_checked frame link (packet v t)

-- the values of the packet of a frame, if it has one
abbrev pub Values : Type 0
Values = Option (EthernetRepr × IpRepr × Transport)

header-in : EthernetRepr × IpRepr × Transport → IpRepr
header-in (link, v, t) = v

transport-in : EthernetRepr × IpRepr × Transport → Transport
transport-in (link, v, t) = t

same-header : (found : Values) (link h : EthernetRepr) (v w : IpRepr) (s t : Transport) → found ≡ Some (link, v, s) → found ≡ Some (h, w, t) → w ≡ v
unfolding header-in
same-header found link h v w s t is read = ap header-in (same_Some (h, w, t) (link, v, s) (sym read ∙ is))

same-transport : (found : Values) (link h : EthernetRepr) (v w : IpRepr) (s t : Transport) → found ≡ Some (link, v, s) → found ≡ Some (h, w, t) → t ≡ s
unfolding transport-in
same-transport found link h v w s t is read = ap transport-in (same_Some (h, w, t) (link, v, s) (sym read ∙ is))

same-ip : (ip w : Ipv6Repr) → Ipv6 w ≡ Ipv6 ip → w ≡ ip
same-ip ip w e = cc

same-payload : (payload bytes : List ℕ) → other bytes ≡ other payload → bytes ≡ payload
same-payload payload bytes e = cc

no-ipv4 : (ip : Ipv4Repr) (w : Ipv6Repr) (v : IpRepr) → v ≡ Ipv4 ip → Ipv6 w ≡ v → ⊥
no-ipv4 ip w v version e = absurd (cc)

no-datagram : (u : UdpRepr) (payload bytes : List ℕ) (t : Transport) → Some (datagram u payload) ≡ Some t → other bytes ≡ t → ⊥
no-datagram u payload bytes t of e = absurd (cc)

no-segment : (u : TcpHeader) (payload bytes : List ℕ) (t : Transport) → Some (segment u payload) ≡ Some t → other bytes ≡ t → ⊥
no-segment u payload bytes t of e = absurd (cc)

some-none : (t : Transport) → None ≡ Some t → ⊥
some-none t of = absurd (cc)

-- the packet of the frame
in_frame : (group frame : List ℕ) (found : Values) (link : EthernetRepr) (ip : Ipv6Repr) (payload : List ℕ) (result : Option ℕ)
    → IsParsed frame found → found ≡ Some (link, Ipv6 ip, other payload) → Delays (CarriesQuery ip group payload) result → Delays (IsQuery group frame) result
in_frame group frame found link ip payload None reads is none = λ d q.
    let read = (reads q.header (Ipv6 q.ip) (other q.payload)).1 q.reads in
    none d (subst₂ (λ i p. CarriesQuery i group p d) (same-ip ip q.ip (same-header found link q.header (Ipv6 ip) (Ipv6 q.ip) (other payload) (other q.payload) is read))
    (same-payload payload q.payload (same-transport found link q.header (Ipv6 ip) (Ipv6 q.ip) (other payload) (other q.payload) is read)) q.carries)
in_frame group frame found link ip payload (Some d) reads is carries =
    record { header = link; ip = ip; payload = payload; reads = (reads link (Ipv6 ip) (other payload)).0 is; carries = carries }

no-values : (found : Values) (h : EthernetRepr) (w : IpRepr) (t : Transport) → found ≡ None → found ≡ Some (h, w, t) → ⊥
no-values found h w t none read = absurd (cc)

-- a frame that parses as no packet is no query
pub no_frame : (group frame : List ℕ) (found : Values) → IsParsed frame found → found ≡ None → (d : ℕ) → ¬ IsQuery group frame d
no_frame group frame found reads none d q =
    no-values found q.header (Ipv6 q.ip) (other q.payload) none ((reads q.header (Ipv6 q.ip) (other q.payload)).1 q.reads)

-- the values of the packet of a frame, as the parser returns them
abbrev pub HasPacket : Values → EthernetRepr → IpRepr → transport.Transport → Type 0
HasPacket found link v inner = (t : Transport) × (transport_of inner ≡ Some t) × (found ≡ Some (link, v, t))

-- nor is one with an IPv4 packet
pub no_ipv6 : (group frame : List ℕ) (found : Values) (link : EthernetRepr) (v : IpRepr) (inner : transport.Transport) (ip : Ipv4Repr)
    → IsParsed frame found → HasPacket found link v inner → v ≡ Ipv4 ip → (d : ℕ) → ¬ IsQuery group frame d
no_ipv6 group frame found link v inner ip reads (t, of, is) version d q =
    no-ipv4 ip q.ip v version (same-header found link q.header v (Ipv6 q.ip) t (other q.payload) is ((reads q.header (Ipv6 q.ip) (other q.payload)).1 q.reads))

-- nor one with UDP or TCP
pub no_other : (group frame : List ℕ) (found : Values) (link : EthernetRepr) (v : IpRepr) (inner : transport.Transport)
    → IsParsed frame found → HasPacket found link v inner → ((kept : Bor (List ℕ)) → ¬ (inner ≡ Other kept)) → (d : ℕ) → ¬ IsQuery group frame d
no_other group frame found link v (Other kept) reads (t, of, is) not d q = absurd (not kept refl)
no_other group frame found link v (Unread kept) reads (t, of, is) not d q = absurd (some-none t of)
no_other group frame found link v (Udp u payload) reads (t, of, is) not d q =
    no-datagram u payload.now q.payload t of (same-transport found link q.header v (Ipv6 q.ip) t (other q.payload) is ((reads q.header (Ipv6 q.ip) (other q.payload)).1 q.reads))
no_other group frame found link v (Tcp u) reads (t, of, is) not d q =
    no-segment (header_of u) u.payload.now q.payload t of (same-transport found link q.header v (Ipv6 q.ip) t (other q.payload) is ((reads q.header (Ipv6 q.ip) (other q.payload)).1 q.reads))

-- a packet of another protocol may have one
pub in_packet : (group frame : List ℕ) (found : Values) (link : EthernetRepr) (v : IpRepr) (inner : transport.Transport) (ip : Ipv6Repr)
    (payload : Bor (List ℕ)) (result : Option ℕ) → IsParsed frame found → HasPacket found link v inner → v ≡ Ipv6 ip → inner ≡ Other payload
    → Delays (CarriesQuery ip group payload.now) result → Delays (IsQuery group frame) result
in_packet group frame found link v inner ip payload result reads (t, of, is) version body carries =
    let same : other payload.now ≡ t = same_Some _ t (ap transport_of (sym body) ∙ of) in
    in_frame group frame found link ip payload.now result reads (is ∙ ap (λ w. Some (link, w, t)) version ∙ ap (λ s. Some (link, Ipv6 ip, s)) (sym same)) carries
