-- A lenient parse has one result, and so has a frame that is emitted.
use Rattle.std.proofs.Common.{ℕ, ◌≡◌, ◌∙◌, ◌++◌, List, [], Option, None, Some, ap, arith, drop, refl, subst, sym, true≢false}
use Rattle.std.specs.Option.{option_map_or}
use Rattle.promises.specs.Same.{SameCarried, SameFrame, SameTransport}
use Rattle.ip_wire.proofs.ArpComputed.{arp_of-Reads}
use Rattle.ip_wire.proofs.EthernetComputed.{ethernet_of-Reads}
use Rattle.ip_wire.proofs.Found.{transport-found}
use Rattle.ip_wire.proofs.ReadsOnce.{computed-one, not-arp, packet-once}
use Rattle.ip_wire.specs.Frame.{packet_payload}
use Rattle.ip_wire.specs.Filled.{Fills}
use Rattle.ip_wire.specs.FrameValue.{Finds, FindsCarried, FindsTransport, kept_of, transport_of}
use Rattle.ip_wire.specs.Types.{EthernetProtocol, EthernetRepr, IpRepr, Ipv4, Ipv6}
use Rattle.ip_wire.specs.declared.Carried.{Carried}
use Rattle.ip_wire.specs.declared.Carried.TheVariants as carried
use Rattle.ip_wire.specs.declared.EthernetProtocol.TheVariants as ethertype
use Rattle.ip_wire.specs.declared.Frame.{Frame}
use Rattle.ip_wire.specs.declared.Transport.{Transport}
use Rattle.ip_wire.specs.declared.Transport.TheVariants as transport
use Rattle.ip_wire.specs.declared.ChecksumCapabilities.{ChecksumCapabilities}

-- ---- a frame that is emitted

fills-once : (bytes : List ℕ) (len : ℕ) (old new new' : List ℕ) (a b : Option ℕ) → Fills bytes len old new a → Fills bytes len old new' b → (a ≡ b) × (new ≡ new')
fills-once bytes len old new new' None None (short, stays) (also, same) = (refl, stays ∙ sym same)
fills-once bytes len old new new' None (Some n) (short, stays) (size, fits, is) = absurd (omega (arith, short, size, fits))
fills-once bytes len old new new' (Some n) None (size, fits, is) (short, stays) = absurd (omega (arith, short, size, fits))
fills-once bytes len old new new' (Some n) (Some m) (size, fits, is) (also, room, same) =
    let count : n ≡ m = size ∙ sym also in (ap Some count, is ∙ ap (λ k. bytes ++ drop k old) count ∙ sym same)

-- ---- what a packet carries

-- kept bytes are all of them
kept-found : (caps : ChecksumCapabilities) (v : IpRepr) (bytes : List ℕ) (t : Transport) → FindsTransport caps v bytes t → kept_of t ≡ option_map_or (λ _. []) (transport_of t) bytes
kept-found caps v bytes (transport.Unread p) found = found.1
kept-found caps v bytes (transport.Udp u p) found = refl
kept-found caps v bytes (transport.Tcp u) found = refl
kept-found caps v bytes (transport.Other p) found = refl

same-transport : (t u : Transport) → transport_of t ≡ transport_of u → kept_of t ≡ kept_of u → SameTransport t u
same-transport (transport.Udp u p) (transport.Udp w q) e kept = (cc, cc)
same-transport (transport.Tcp u) (transport.Tcp w) e kept = (cc, cc)
same-transport (transport.Other p) (transport.Other q) e kept = cc
same-transport (transport.Unread p) (transport.Unread q) e kept = kept
same-transport _ _ e kept = absurd (cc)

transports-found : (caps : ChecksumCapabilities) (v : IpRepr) (bytes : List ℕ) (t u : Transport) → FindsTransport caps v bytes t → FindsTransport caps v bytes u → SameTransport t u
transports-found caps v bytes t u a b =
    let same : transport_of t ≡ transport_of u = sym (transport-found caps v bytes t a) ∙ transport-found caps v bytes u b in
    same-transport t u same (kept-found caps v bytes t a ∙ ap (λ o. option_map_or (λ _. []) o bytes) same ∙ sym (kept-found caps v bytes u b))

-- ---- what a frame carries

carried-found : (caps : ChecksumCapabilities) (t : EthernetProtocol) (bytes : List ℕ) (c d : Carried) → FindsCarried caps t bytes c → FindsCarried caps t bytes d → SameCarried c d
carried-found caps t bytes (carried.Arp v) (carried.Arp w) (type, a) (named, b) = computed-one _ v w ((arp_of-Reads bytes v).1 a) ((arp_of-Reads bytes w).1 b)
carried-found caps t bytes (carried.Packet v inner) (carried.Packet w outer) (type, a, found) (named, b, also) =
    let same : v ≡ w = packet-once caps bytes v w (sym type ∙ named) a b in
    (same, transports-found caps w (packet_payload w bytes) inner outer (subst (λ x. FindsTransport caps x (packet_payload x bytes) inner) same found) also)
carried-found caps t bytes (carried.Fragment p) (carried.Fragment q) a b = a.0 ∙ sym b.0
carried-found caps t bytes (carried.Unread p) (carried.Unread q) a b = a.1 ∙ sym b.1
carried-found caps t bytes (carried.Arp v) (carried.Packet w inner) a b = absurd (not-arp w (sym b.0 ∙ a.0))
carried-found caps t bytes (carried.Packet v inner) (carried.Arp w) a b = absurd (not-arp v (sym a.0 ∙ b.0))
carried-found caps t bytes (carried.Arp v) (carried.Fragment q) a (is, part, (w, (named, read))) = absurd (let apart : ethertype.Arp ≡ ethertype.Ipv4 = sym a.0 ∙ named in cc)
carried-found caps t bytes (carried.Fragment p) (carried.Arp w) (is, part, (v, (named, read))) b = absurd (let apart : ethertype.Arp ≡ ethertype.Ipv4 = sym b.0 ∙ named in cc)
carried-found caps t bytes (carried.Arp v) (carried.Unread q) a b = absurd (b.0.no_message v a.0 a.1)
carried-found caps t bytes (carried.Unread p) (carried.Arp w) a b = absurd (a.0.no_message w b.0 b.1)
carried-found caps t bytes (carried.Packet (Ipv4 v) inner) (carried.Fragment q) (type, (read, whole), found) (is, part, h) = absurd (true≢false (sym part ∙ whole))
carried-found caps t bytes (carried.Packet (Ipv6 v) inner) (carried.Fragment q) a (is, part, (w, (named, read))) = absurd (let apart : ethertype.Ipv6 ≡ ethertype.Ipv4 = sym a.0 ∙ named in cc)
carried-found caps t bytes (carried.Fragment p) (carried.Packet (Ipv4 w) inner) (is, part, h) (type, (read, whole), found) = absurd (true≢false (sym part ∙ whole))
carried-found caps t bytes (carried.Fragment p) (carried.Packet (Ipv6 w) inner) (is, part, (v, (named, read))) b = absurd (let apart : ethertype.Ipv6 ≡ ethertype.Ipv4 = sym b.0 ∙ named in cc)
carried-found caps t bytes (carried.Packet (Ipv4 v) inner) (carried.Unread q) (type, (read, whole), found) b = absurd (b.0.no_header (Ipv4 v) (type, read))
carried-found caps t bytes (carried.Packet (Ipv6 v) inner) (carried.Unread q) (type, read, found) b = absurd (b.0.no_header (Ipv6 v) (type, read))
carried-found caps t bytes (carried.Unread p) (carried.Packet (Ipv4 w) inner) a (type, (read, whole), found) = absurd (a.0.no_header (Ipv4 w) (type, read))
carried-found caps t bytes (carried.Unread p) (carried.Packet (Ipv6 w) inner) a (type, read, found) = absurd (a.0.no_header (Ipv6 w) (type, read))
carried-found caps t bytes (carried.Fragment p) (carried.Unread q) (is, part, (v, read)) b = absurd (b.0.no_header (Ipv4 v) read)
carried-found caps t bytes (carried.Unread p) (carried.Fragment q) a (is, part, (w, read)) = absurd (a.0.no_header (Ipv4 w) read)

-- ---- whole frames

found-once : (caps : ChecksumCapabilities) (bytes : List ℕ) (f g : Frame) → Finds caps bytes f → Finds caps bytes g → SameFrame f g
found-once caps bytes f g a b =
    let same : f.header ≡ g.header = computed-one _ f.header g.header ((ethernet_of-Reads bytes f.header).1 a.header) ((ethernet_of-Reads bytes g.header).1 b.header) in
    let found = subst (λ (h : EthernetRepr). FindsCarried caps h.ethertype (drop 14 bytes) f.carried) same a.carried in
    (same, carried-found caps g.header.ethertype (drop 14 bytes) f.carried g.carried found b.carried)
