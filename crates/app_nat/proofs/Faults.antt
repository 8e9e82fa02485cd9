-- Why a frame is rejected.
use Rattle.std.proofs.Common.{ℕ, ◌≡◌, ◌≢◌, ◌∙◌, not, is_some, if◌then◌else◌, Bool, true, false, List, Option, Some, None, Result, Ok, Err, drop, refl, sym, ap, arith}
use Rattle.std.proofs.lemmas.Bool.Decides.{nat_tests}
use Rattle.std.specs.Option.{option_map, option_map_or, option_or}
use Rattle.std.specs.Result.{result_ok}
use Rattle.ip_wire.proofs.EthernetComputed.{ethernet_of-Reads}
use Rattle.ip_wire.proofs.FrameOf.{transport-read}
use Rattle.ip_wire.proofs.HeaderFaults.{reads-no_fault}
use Rattle.ip_wire.proofs.Ipv4Computed.{Reads-is}
use Rattle.ip_wire.specs.Ethernet.{ethernet_of}
use Rattle.ip_wire.specs.Frame as whole
use Rattle.ip_wire.specs.Frame.{ReadsPacket, all_checked, ipv4_payload, transport_by}
use Rattle.ip_wire.specs.Field.{field}
use Rattle.ip_wire.specs.HeaderFault.{ipv4_fault}
use Rattle.ip_wire.specs.Ipv4 as ipv4
use Rattle.ip_wire.specs.TcpRepr.{header_of, tcp_of}
use Rattle.ip_wire.specs.Types.{Error, EthernetProtocol, EthernetRepr, IpProtocol, Ipv4, Ipv4Repr, UdpRepr}
use Rattle.ip_wire.specs.Udp.{udp_of}
use Rattle.ip_wire.specs.WordSum.{sum_of_bytes}
use Rattle.ip_wire.specs.declared.EthernetProtocol.TheVariants as ethertype
use Rattle.ip_wire.specs.declared.HeaderFault.{HeaderFault}
use Rattle.ip_wire.specs.declared.HeaderFault.TheVariants as header
use Rattle.ip_wire.specs.declared.IpAddress.TheVariants as address
use Rattle.ip_wire.specs.declared.IpProtocol.TheVariants as protocol
use Rattle.ip_wire.specs.declared.TcpRepr.{TcpRepr}
use Rattle.wire_icmp.specs.Icmp as icmp
use Rattle.wire_icmp.specs.declared.icmp.repr.IcmpRepr.{IcmpRepr}
use Rattle.wire_icmp.specs.declared.icmp.repr.IcmpRepr.TheVariants.{EchoRequest, EchoReply}
use Rattle.app_nat.proofs.Echoes.{echo-named}
use Rattle.app_nat.proofs.Translates.{carried}
use Rattle.app_nat.specs.Errors.{icmp_fault, is_error, message_fault, message_fault_by, quoted_fault, quotes_enough, quotes_port}
use Rattle.app_nat.specs.Nat.{Carries, CarriesWhole, IsIpv4Frame, ReadsMessage, ReadsPorts, Transport, datagram, echo_fault, echo_kind, frame_fault, is_message, of_header, packet_fault, ports_fault, reply, request, segment, transport_fault, transport_fault_by, whole_fault, whole_fault_by}
use Rattle.app_nat.specs.declared.translation.Rejection.{Rejection}
use Rattle.app_nat.specs.declared.translation.Rejection.TheVariants.{NotIpv4, Fragment, OtherProtocol, BadTransport, ZeroPort, NoMapping}
use Rattle.app_nat.specs.declared.packet.Kind.{Kind}
use Rattle.app_edit.specs.declared.side.Side.{Side}

-- ---- frames without a whole IPv4 packet

pub unread : (frame : List ℕ) (answer : Result EthernetRepr Error) (error : Error) → ethernet_of frame ≡ result_ok answer → answer ≡ Err error
    → whole_fault frame ≡ Some NotIpv4
unread frame answer error found is = rw (found, is) refl

-- the fault of a frame with an Ethernet header
pub by-type : (frame : List ℕ) (answer : Result EthernetRepr Error) (link : EthernetRepr) → ethernet_of frame ≡ result_ok answer → answer ≡ Ok link
    → whole_fault frame ≡ whole_fault_by link.ethertype (drop 14 frame)
by-type frame answer link found is = rw (found, is) refl

-- the same of one with this type
pub named-type : (frame : List ℕ) (answer : Result EthernetRepr Error) (link : EthernetRepr) (type : EthernetProtocol) → ethernet_of frame ≡ result_ok answer
    → answer ≡ Ok link → link.ethertype ≡ type → whole_fault frame ≡ whole_fault_by type (drop 14 frame)
named-type frame answer link type found is named = by-type frame answer link found is ∙ ap (λ t. whole_fault_by t (drop 14 frame)) named

pub other-type : (type : EthernetProtocol) (bytes : List ℕ) → type ≢ ethertype.Ipv4 → whole_fault_by type bytes ≡ Some NotIpv4
other-type ethertype.Ipv4 bytes other = absurd (other refl)
other-type _ bytes other = refl

pub fragment : (bytes : List ℕ) (v : Ipv4Repr) → ipv4.Reads bytes true v → ipv4.is_fragment bytes ≡ true → whole_fault_by ethertype.Ipv4 bytes ≡ Some Fragment
fragment bytes v r part = rw (reads-no_fault bytes v r, part) refl

-- ---- whole packets

no-whole_fault : (frame : List ℕ) (link : EthernetRepr) (v : Ipv4Repr) → IsIpv4Frame frame link → ReadsPacket all_checked (drop 14 frame) (Ipv4 v)
    → whole_fault frame ≡ None
no-whole_fault frame link v is reads = rw ((ethernet_of-Reads frame link).1 is.reads, is.names, reads-no_fault (drop 14 frame) v reads.0, reads.1) refl

-- a whole packet has the fault of its payload
pub payload-fault : (fault_of : Ipv4Repr → List ℕ → Option Rejection) (frame payload : List ℕ) (v : Ipv4Repr) → CarriesWhole frame v payload
    → frame_fault fault_of frame ≡ fault_of v payload
payload-fault fault_of frame payload v c =
    ap (λ o. option_or o (fault_of (ipv4.header_of (drop 14 frame)) (ipv4_payload (drop 14 frame)))) (no-whole_fault frame c.link v c.is c.reads)
    ∙ (λ i. fault_of (sym (Reads-is true (drop 14 frame) v c.reads.0) i) (sym c.inner i))

-- ---- transports

by-ports : (v : Ipv4Repr) (bytes : List ℕ) → v.next_header ≢ protocol.Icmp
    → transport_fault v bytes ≡ ports_fault (transport_by all_checked v.next_header (address.Ipv4 v.src_addr) (address.Ipv4 v.dst_addr) bytes)
by-ports v bytes = by v.next_header
  where
    by : (p : IpProtocol) → p ≢ protocol.Icmp
        → transport_fault_by p v bytes ≡ ports_fault (transport_by all_checked p (address.Ipv4 v.src_addr) (address.Ipv4 v.dst_addr) bytes)
    by protocol.Icmp no_icmp = absurd (no_icmp refl)
    by _ no_icmp = refl

-- UDP and TCP headers that do not parse
pub bad-udp : (v : Ipv4Repr) (bytes : List ℕ) (answer : Result UdpRepr Error) (error : Error) → v.next_header ≡ protocol.Udp
    → udp_of (address.Ipv4 v.src_addr) (address.Ipv4 v.dst_addr) true bytes ≡ result_ok answer → answer ≡ Err error → transport_fault v bytes ≡ Some BadTransport
bad-udp v bytes answer error named found is = ap (λ p. transport_fault_by p v bytes) named ∙ (rw (found, is) refl)

pub bad-tcp : (v : Ipv4Repr) (bytes : List ℕ) (answer : Result TcpRepr Error) (error : Error) → v.next_header ≡ protocol.Tcp
    → tcp_of (address.Ipv4 v.src_addr) (address.Ipv4 v.dst_addr) true bytes ≡ option_map header_of (result_ok answer) → answer ≡ Err error
    → transport_fault v bytes ≡ Some BadTransport
bad-tcp v bytes answer error named found is = ap (λ p. transport_fault_by p v bytes) named ∙ (rw (found, is) refl)

-- a packet of another protocol
pub other-protocol : (v : Ipv4Repr) (bytes : List ℕ) (p : IpProtocol) → v.next_header ≡ p → p ≢ protocol.Udp → p ≢ protocol.Tcp → p ≢ protocol.Icmp
    → transport_fault v bytes ≡ Some OtherProtocol
other-protocol v bytes p named no_udp no_tcp no_icmp = ap (λ q. transport_fault_by q v bytes) named ∙ by p no_udp no_tcp no_icmp
  where
    by : (q : IpProtocol) → q ≢ protocol.Udp → q ≢ protocol.Tcp → q ≢ protocol.Icmp → transport_fault_by q v bytes ≡ Some OtherProtocol
    by protocol.Udp udp tcp icmp = absurd (udp refl)
    by protocol.Tcp udp tcp icmp = absurd (tcp refl)
    by protocol.Icmp udp tcp icmp = absurd (icmp refl)
    by _ udp tcp icmp = refl

-- the fault of an ICMP message
by-echo : (v : Ipv4Repr) (bytes : List ℕ) → v.next_header ≡ protocol.Icmp → transport_fault v bytes ≡ echo_fault bytes
by-echo v bytes named = ap (λ p. transport_fault_by p v bytes) named

-- the kind of an ICMP message, if it is an echo
abbrev kind-of : List ℕ → Option Kind
kind-of bytes = echo_kind (field bytes 0 8) (field bytes 8 8)

-- ---- no fault

read-message : (v : Ipv4Repr) (bytes : List ℕ) (m : IcmpRepr) (payload : List ℕ) → icmp.is_error m ≡ false → ReadsMessage v bytes m payload → transport_fault v bytes ≡ None
read-message v bytes m payload echo (named, r) =
    let least = r.least in
    let sum : sum_of_bytes bytes ≡ 65535 = r.checksum refl in
    let test : is_message bytes ≡ true = grind (arith, nat_tests) in
    by-echo v bytes named ∙ (rw (echo-named bytes v.src_addr v.dst_addr true m payload r echo, test) refl)

read-ports : (v : Ipv4Repr) (bytes : List ℕ) (t : Transport) → ReadsPorts v bytes t → transport_fault v bytes ≡ None
read-ports v bytes (datagram u payload) r =
    by-ports v bytes (λ is. let differs : protocol.Udp ≡ protocol.Icmp = sym r.0 ∙ is in cc)
    ∙ ap ports_fault (transport-read all_checked v.next_header (address.Ipv4 v.src_addr) (address.Ipv4 v.dst_addr) bytes (whole.datagram u payload) r)
read-ports v bytes (segment u payload) r =
    by-ports v bytes (λ is. let differs : protocol.Tcp ≡ protocol.Icmp = sym r.0 ∙ is in cc)
    ∙ ap ports_fault (transport-read all_checked v.next_header (address.Ipv4 v.src_addr) (address.Ipv4 v.dst_addr) bytes (whole.segment u payload) r)
read-ports v bytes (request ident seq_no payload) r = read-message v bytes (EchoRequest ident seq_no) payload refl r
read-ports v bytes (reply ident seq_no payload) r = read-message v bytes (EchoReply ident seq_no) payload refl r

-- a frame that carries one of these transports is rejected for no reason
pub carries-unrejected : (frame : List ℕ) (link : EthernetRepr) (v : Ipv4Repr) (t : Transport) (r : Rejection) → Carries frame link v t
    → packet_fault frame ≢ Some r
carries-unrejected frame link v t r c why =
    let whole : CarriesWhole frame v (ipv4_payload (drop 14 frame)) = record {
      link = link;
      is = record { reads = c.reads.reads_header; names = c.reads.reads_carried.0 };
      reads = (carried frame link v t c).reads;
      inner = refl;
    } in
    let none = payload-fault transport_fault frame (ipv4_payload (drop 14 frame)) v whole ∙ read-ports v (ipv4_payload (drop 14 frame)) t c.ports in
    let apart : Some r ≡ None = sym why ∙ none in absurd (cc)

-- ---- errors

pub by-icmp : (side : Side) (v : Ipv4Repr) (bytes : List ℕ) → v.next_header ≡ protocol.Icmp → message_fault side v bytes ≡ icmp_fault side bytes
by-icmp side v bytes named = ap (λ p. message_fault_by side p bytes) named

-- ---- no fault is ZeroPort

-- the value is no ZeroPort
abbrev NotZero : Option Rejection → Type 0
NotZero fault = fault ≢ Some ZeroPort

either-not_zero : (a b : Option Rejection) → NotZero a → NotZero b → NotZero (option_or a b)
either-not_zero None b first second = second
either-not_zero (Some r) b first second = first

header-not_zero : (fault : Option HeaderFault) → NotZero (option_map of_header fault)
header-not_zero None is = absurd (cc)
header-not_zero (Some header.NotIp) is = absurd (cc)
header-not_zero (Some header.BadHeader) is = absurd (cc)
header-not_zero (Some header.WrongChecksum) is = absurd (cc)
header-not_zero (Some header.Expired) is = absurd (cc)

fragment-not_zero : (part : Bool) → NotZero (if part then Some Fragment else None)
fragment-not_zero true is = absurd (cc)
fragment-not_zero false is = absurd (cc)

type-not_zero : (type : EthernetProtocol) (bytes : List ℕ) → NotZero (whole_fault_by type bytes)
type-not_zero ethertype.Ipv4 bytes =
    either-not_zero (option_map of_header (ipv4_fault bytes)) (if ipv4.is_fragment bytes then Some Fragment else None) (header-not_zero (ipv4_fault bytes)) (fragment-not_zero (ipv4.is_fragment bytes))
type-not_zero _ bytes = λ is. absurd (cc)

link-not_zero : (link : Option EthernetRepr) (bytes : List ℕ) → NotZero (option_map_or (λ v. whole_fault_by v.ethertype bytes) link (Some NotIpv4))
link-not_zero None bytes = λ is. absurd (cc)
link-not_zero (Some v) bytes = type-not_zero v.ethertype bytes

-- a frame is rejected for ZeroPort only if its payload is
pub not-zero : (fault_of : Ipv4Repr → List ℕ → Option Rejection) → ((v : Ipv4Repr) (bytes : List ℕ) → fault_of v bytes ≢ Some ZeroPort) → (frame : List ℕ)
    → frame_fault fault_of frame ≢ Some ZeroPort
not-zero fault_of payload frame =
    either-not_zero (whole_fault frame) (fault_of (ipv4.header_of (drop 14 frame)) (ipv4_payload (drop 14 frame))) (link-not_zero (ethernet_of frame) (drop 14 frame))
    (payload (ipv4.header_of (drop 14 frame)) (ipv4_payload (drop 14 frame)))

ports-not_zero : (t : Option whole.Transport) → NotZero (ports_fault t)
ports-not_zero None = λ is. absurd (cc)
ports-not_zero (Some (whole.datagram u payload)) = λ is. absurd (cc)
ports-not_zero (Some (whole.segment u payload)) = λ is. absurd (cc)
ports-not_zero (Some (whole.other payload)) = λ is. absurd (cc)

echo-not_zero : (echo message : Bool) → NotZero (if not echo then Some OtherProtocol else (if message then None else Some BadTransport))
echo-not_zero false message = λ is. absurd (cc)
echo-not_zero true true = λ is. absurd (cc)
echo-not_zero true false = λ is. absurd (cc)

pub transport-not_zero : (v : Ipv4Repr) (bytes : List ℕ) → transport_fault v bytes ≢ Some ZeroPort
transport-not_zero v bytes = by v.next_header
  where
    by : (p : IpProtocol) → NotZero (transport_fault_by p v bytes)
    by protocol.Icmp = echo-not_zero (is_some (kind-of bytes)) (is_message bytes)
    by p = ports-not_zero (transport_by all_checked p (address.Ipv4 v.src_addr) (address.Ipv4 v.dst_addr) bytes)

quoted-not_zero : (enough port : Bool) → NotZero (if not enough then Some BadTransport else (if port then None else Some NoMapping))
quoted-not_zero false port = λ is. absurd (cc)
quoted-not_zero true true = λ is. absurd (cc)
quoted-not_zero true false = λ is. absurd (cc)

icmp-not_zero : (error message : Bool) (quoted : Option Rejection) → NotZero quoted
    → NotZero (if not error then Some OtherProtocol else (if message then quoted else Some BadTransport))
icmp-not_zero false message quoted other = λ is. absurd (cc)
icmp-not_zero true true quoted other = other
icmp-not_zero true false quoted other = λ is. absurd (cc)

pub message-not_zero : (side : Side) (v : Ipv4Repr) (bytes : List ℕ) → message_fault side v bytes ≢ Some ZeroPort
message-not_zero side v bytes = by v.next_header
  where
    by : (p : IpProtocol) → NotZero (message_fault_by side p bytes)
    by protocol.Icmp =
        let quoted = drop 8 bytes in
        icmp-not_zero (is_error (field bytes 0 8)) (is_message bytes) (quoted_fault side quoted) (quoted-not_zero (quotes_enough quoted) (quotes_port side quoted))
    by _ = λ is. absurd (cc)
