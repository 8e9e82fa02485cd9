-- A frame with a message is sent.
use Rattle.std.specs.Borrow.{Bor}
use Rattle.std.proofs.Common.{ℕ, ◌≡◌, ◌≢◌, ◌∙◌, ◌+◌, ◌≤◌, ◌<◌, ◌++◌, List, Option, Some, None, drop, length, refl, sym, ap, subst, arith, true}
use Rattle.ip_wire.proofs.Sent.{rest_stays}
use Rattle.ip_wire.specs.Ethernet as ethernet
use Rattle.ip_wire.specs.Filled.{Fills}
use Rattle.ip_wire.specs.Frame.{Carried, IsReadWhole, all_checked, other, packet, type_of}
use Rattle.ip_wire.specs.Ip.{dst_addr_of, header_before, header_len_of, max_payload_len, next_header_of, normal, src_addr_of, version_of}
use Rattle.ip_wire.specs.IpAddress as address
use Rattle.ip_wire.specs.Protocol.{known}
use Rattle.ip_wire.specs.Reply.{reply_len}
use Rattle.ip_wire.specs.Types.{EthernetAddress, EthernetRepr, IpAddress, IpRepr, Ipv4, Ipv6}
use Rattle.ip_wire.specs.declared.IpProtocol.TheVariants as protocol
use Rattle.ip_wire.specs.Checksum.{computes}
use Rattle.wire_icmp.specs.Icmp.{bytes_of, choice_of, protocol_of}
use Rattle.wire_icmp.specs.declared.IcmpRepr.{IcmpRepr}
use Rattle.app_host.specs.Message.{Composes, IsOfVersion, IsSendable, frame_bytes, message_bytes, message_frame, message_len, values_of}
use Rattle.app_host.specs.declared.message.Message.{Message}
use Rattle.app_host.specs.declared.message.Message.TheVariants.{Icmp, Ndisc}
use Rattle.app_host.specs.declared.message.MessageFrame.{MessageFrame}

-- the checksum of a message is computed
pub computed : (v : IpRepr) → computes (choice_of (address.version_of (src_addr_of v)) all_checked) ≡ true
computed (Ipv4 v) = refl
computed (Ipv6 v) = refl

-- the header of a packet with a message is in normal form, and names neither UDP nor TCP
pub normal-is : (w : IpRepr) → next_header_of w ≡ protocol_of (version_of w) → normal w ≡ w
normal-is (Ipv4 v) p = ap (λ x. Ipv4 (record v { next_header = known x })) p ∙ ap (λ x. Ipv4 (record v { next_header = x })) (sym p)
normal-is (Ipv6 v) p = ap (λ x. Ipv6 (record v { next_header = known x })) p ∙ ap (λ x. Ipv6 (record v { next_header = x })) (sym p)

pub no-transport : (w : IpRepr) → next_header_of w ≡ protocol_of (version_of w) → (next_header_of w ≢ protocol.Udp) × (next_header_of w ≢ protocol.Tcp)
no-transport (Ipv4 v) p = ((λ e. absurd (cc)), (λ e. absurd (cc)))
no-transport (Ipv6 v) p = ((λ e. absurd (cc)), (λ e. absurd (cc)))

pub header-normal : (h : EthernetRepr) (w : IpRepr) → h.ethertype ≡ type_of w → ethernet.normal h ≡ h
header-normal h (Ipv4 v) e = ap (λ t. record h { ethertype = ethernet.known t }) e ∙ ap (λ t. record h { ethertype = t }) (sym e)
header-normal h (Ipv6 v) e = ap (λ t. record h { ethertype = ethernet.known t }) e ∙ ap (λ t. record h { ethertype = t }) (sym e)

-- the frame is emitted with DSCP 0, and parses
abbrev pub IsEmitted : MessageFrame → List ℕ → List ℕ → Option ℕ → Type 0
IsEmitted f old new None = (length old < reply_len (values_of f)) × (new ≡ old)
IsEmitted f old new (Some len) =
    (len ≡ reply_len (values_of f)) × (len ≤ length old) × (drop len new ≡ drop len old) × IsReadWhole new f.header (values_of f)
    × (new ≡ frame_bytes f ++ drop len old)

pub sent : (f : MessageFrame) (old new : List ℕ) (result : Option ℕ) → IsSendable f → Composes f.header f.ip → length new ≡ length old
    → Fills (frame_bytes f) (14 + (header_len_of f.ip + message_len f.message)) old new result → IsEmitted f old new result
sent f old new None sendable composes same (short, stays) =
    let len : reply_len (values_of f) ≡ 14 + (header_len_of f.ip + message_len f.message) = ap (λ n. 14 + (header_len_of f.ip + n)) sendable.written in
    (omega (arith, short, len), stays)
sent f old new (Some n) sendable composes same (len, fits, is) =
    let read = composes (message_bytes f.ip f.message) (drop n old) sendable.ethertype sendable.protocol (sendable.len ∙ sym sendable.written) in
    (len ∙ ap (λ n. 14 + (header_len_of f.ip + n)) (sym sendable.written), fits, rest_stays (frame_bytes f) old new n is same fits, subst (λ b. IsReadWhole b f.header (values_of f)) (sym is) read, is)

-- ---- frames that are put together

-- a message of this length can be sent
pub sendable : (src dst : EthernetAddress) (v : IpRepr) (m : Message) → ((w : IpRepr) → src_addr_of w ≡ src_addr_of v → dst_addr_of w ≡ dst_addr_of v → length (message_bytes w m) ≡ message_len m)
    → message_len m ≤ max_payload_len v → IsOfVersion m v → IsSendable (message_frame src dst v m)
sendable src dst (Ipv4 v) (Icmp value payload) written fits version = record { ethertype = refl; protocol = refl; len = refl; written = written (Ipv4 v) refl refl; fits = fits; version = tt; dscp = omega arith }
sendable src dst (Ipv6 v) (Icmp value payload) written fits version = record { ethertype = refl; protocol = refl; len = refl; written = written (Ipv6 v) refl refl; fits = fits; version = tt; dscp = omega arith }
sendable src dst (Ipv4 v) (Ndisc value) written fits version = absurd (cc)
sendable src dst (Ipv6 v) (Ndisc value) written fits version = record { ethertype = refl; protocol = refl; len = refl; written = written (Ipv6 v) refl refl; fits = fits; version = refl; dscp = omega arith }

-- what the frame carries with an ICMP message between two addresses
abbrev pub icmp_values : IpRepr → IcmpRepr → List ℕ → IpAddress → IpAddress → Carried
icmp_values v value payload from to = let bytes = bytes_of value payload from to true in packet (header_before v (protocol_of (version_of v)) (length bytes)) (other bytes)

-- so can one of ICMP
pub sendable_icmp : (src dst : EthernetAddress) (v : IpRepr) (value : IcmpRepr) (payload : Bor (List ℕ)) → 8 + length payload.now ≤ max_payload_len v → IsSendable (message_frame src dst v (Icmp value payload))
sendable_icmp src dst v value payload fits = sendable src dst v (Icmp value payload) (λ w s d. omega arith) fits tt

-- its values
pub values_icmp : (src dst : EthernetAddress) (v : IpRepr) (value : IcmpRepr) (payload : Bor (List ℕ))
    → values_of (message_frame src dst v (Icmp value payload)) ≡ icmp_values v value payload.now (src_addr_of v) (dst_addr_of v)
values_icmp src dst (Ipv4 v) value payload =
    ap (λ n. packet (header_before (Ipv4 v) (protocol_of (version_of (Ipv4 v))) n) (other (bytes_of value payload.now (src_addr_of (Ipv4 v)) (dst_addr_of (Ipv4 v)) true))) (omega arith)
values_icmp src dst (Ipv6 v) value payload =
    ap (λ n. packet (header_before (Ipv6 v) (protocol_of (version_of (Ipv6 v))) n) (other (bytes_of value payload.now (src_addr_of (Ipv6 v)) (dst_addr_of (Ipv6 v)) true))) (omega arith)
