-- The struct of a frame has the values of each header, and locates what follows it.
use Rattle.std.proofs.Common.{ℕ, ◌≡◌, ◌≢◌, ◌∙◌, ◌↔◌, ◌≤◌, ◌+◌, ◌-◌, ◌/◌, ◌%◌, ◌==◌, ◌&&◌, nat_le, nat_lt, if◌then◌else◌, Bool, true, false, IsSome, IfSome, List, Some, None, drop, take, length, slice_range, refl, sym, ap, subst, arith}
use Rattle.std.proofs.lemmas.Bool.{eqb-true}
use Rattle.std.proofs.lemmas.Bool.Decides.{nat_tests}
use Rattle.std.proofs.lemmas.Grind.{common_steps}
use Rattle.std.proofs.lemmas.List.{drop-drop, drop-take, length-drop, take-take, take_all}
use Rattle.ip_wire.proofs.EthernetComputed.{ethernet_of-Reads}
use Rattle.ip_wire.proofs.Layers.{length-part}
use Rattle.ip_wire.proofs.Numbers.{protocol_number}
use Rattle.ip_wire.proofs.TcpComputed.{tcp_of-Reads}
use Rattle.ip_wire.proofs.UdpComputed.{udp_of-Reads}
use Rattle.ip_wire.specs.Ethernet as ethernet
use Rattle.ip_wire.specs.Field.{field}
use Rattle.ip_wire.specs.Frame.{ReadsTransportBy, Transport, datagram, ipv4_payload, other, segment}
use Rattle.ip_wire.specs.Ip.{ReadsHeader}
use Rattle.ip_wire.specs.Ipv4 as ipv4
use Rattle.ip_wire.specs.Ipv6 as ipv6
use Rattle.ip_wire.specs.Protocol.{number_of}
use Rattle.ip_wire.specs.Tcp as tcp_bytes
use Rattle.ip_wire.specs.TcpRepr as tcp
use Rattle.ip_wire.specs.TcpRepr.{HasControl, TcpHeader, seq_of, tcp_of}
use Rattle.ip_wire.specs.Udp as udp
use Rattle.ip_wire.specs.Udp.{udp_of}
use Rattle.ip_wire.specs.Types.{EthernetRepr, IpAddress, IpProtocol, IpRepr, Ipv4, Ipv4Repr, Ipv6, Ipv6Repr, UdpRepr}
use Rattle.ip_wire.specs.declared.IpProtocol.TheVariants as protocol
use Rattle.ip_wire.specs.declared.TcpControl.{TcpControl}
use Rattle.ip_wire.specs.declared.TcpControl.TheVariants as control
use Rattle.c_structs.specs.Verdicts.{icmp_verdict}
use Rattle.c_structs.specs.declared.types.FrameFields.{FrameFields}
use Rattle.c_structs.specs.declared.codes.Verdict.{Verdict}
use Rattle.wire_extensions.proofs.Steps.{chain-right}
use Rattle.c_read.proofs.CutBytes.{lt-false}
use Rattle.c_read.proofs.StoredChain.{chain-protocol, no-fault}
use Rattle.c_read.specs.FrameFields.{frame_headers, ipv6_chain, with_carried, with_ipv6_header, with_transport_by, has_message, is_icmp, with_icmp, with_message_by}
use Rattle.c_read.specs.Stored.{HasFlag, HasProtocol, HasTransport, Locates, headed, linked, extension_fault_of, payload_after, transported, unchecked, upper_payload}

-- ---- payloads

-- bytes that begin at an offset are those of a range
found : (frame bytes : List ℕ) (o n : ℕ) → n ≡ length bytes → take (length bytes) (drop o frame) ≡ bytes → slice_range frame o (o + n) ≡ bytes
found frame bytes o n len at = grind (arith, common_steps)

-- a part of bytes that begin at an offset
part-found : (frame p q : List ℕ) (o k : ℕ) → take (length p) (drop o frame) ≡ p → k + length q ≤ length p → take (length q) (drop k p) ≡ q
    → take (length q) (drop (o + k) frame) ≡ q
part-found frame p q o k outer fits inner =
    let rest : ℕ = length p - k in
    let whole : length p ≡ k + rest = omega (arith, fits) in
    let part : take (length q) (drop k (take (k + rest) (drop o frame))) ≡ q = rw (← whole, outer) inner in
    let short : length q ≤ rest = omega (arith, fits) in
    sym (ap (take (length q)) (drop-drop k o frame)) ∙ sym (take-take (length q) rest (drop k (drop o frame)) short)
    ∙ sym (ap (take (length q)) (drop-take k rest (drop o frame))) ∙ part

-- a part of the bytes that the struct locates
inner-found : (frame p q : List ℕ) (o n k m : ℕ) → n ≡ length p → slice_range frame o (o + n) ≡ p → k + length q ≤ length p → take (length q) (drop k p) ≡ q
    → m ≡ length q → slice_range frame (o + k) (o + k + m) ≡ q
inner-found frame p q o n k m len at fits inner size =
    let outer : take (length p) (drop o frame) ≡ p = grind (arith, common_steps) in
    found frame q (o + k) m size (part-found frame p q o k outer fits inner)

-- a range of bytes begins where it says
range-found : (bytes : List ℕ) (from to : ℕ) → to ≤ length bytes → take (length (slice_range bytes from to)) (drop from bytes) ≡ slice_range bytes from to
range-found bytes from to fits = rw (length-part bytes from to fits) refl

-- all that follows the Ethernet header
pub rest-found : (frame : List ℕ) → slice_range frame 14 (14 + length (drop 14 frame)) ≡ drop 14 frame
rest-found frame = grind (arith, common_steps)

-- ---- choices

-- the other of two structs
pub other-chosen : (b : Bool) (f g : FrameFields) → b ≡ false → (if b then f else g) ≡ g
other-chosen true f g e = absurd (cc)
other-chosen false f g e = refl

-- a choice by a test that is true
pub first-chosen : (b : Bool) (f g : FrameFields) → b ≡ true → (if b then f else g) ≡ f
first-chosen true f g e = refl
first-chosen false f g e = absurd (cc)

-- ---- the Ethernet header

-- the struct of a frame with an Ethernet header
pub frame_headers-linked : (frame : List ℕ) (v : EthernetRepr) → ethernet.Reads frame v → frame_headers frame ≡ with_carried (linked frame v) v.ethertype (drop 14 frame)
unfolding frame_headers
frame_headers-linked frame v r = rw ((ethernet_of-Reads frame v).1 r) refl

-- ---- the IP header

-- The fields of the struct after an IP header that what follows depends on.
pub record IsHeaded (f : FrameFields) (frame : List ℕ) (w : IpRepr) : Type 0 where
  pub reason : extension_fault_of w (drop 14 frame) ≡ None → f.reason ≡ 0
  pub transport : f.transport ≡ 0
  pub protocol : HasProtocol f w
  pub payload : Locates f frame (upper_payload w (drop 14 frame))

headed-ipv4 : (frame : List ℕ) (v : EthernetRepr) (w : Ipv4Repr) → ipv4.Reads (drop 14 frame) false w → IsHeaded (headed frame v (Ipv4 w)) frame (Ipv4 w)
headed-ipv4 frame v w r =
    let bytes = drop 14 frame in
    let least = r.lengths.least in
    let within = r.lengths.within in
    let whole = r.lengths.whole in
    let size = length-part bytes (ipv4.header_len bytes) (ipv4.total_len bytes) whole in
    record {
      reason = λ none. refl;
      transport = refl;
      protocol = sym (ap number_of r.next_header ∙ protocol_number (field bytes 72 8));
      payload = record {
        len = refl;
        octets = inner-found frame bytes (ipv4_payload bytes) 14 (length bytes) (ipv4.header_len bytes) (length (ipv4_payload bytes)) refl (rest-found frame)
            (omega (arith, size, within, whole)) (range-found bytes (ipv4.header_len bytes) (ipv4.total_len bytes) whole) refl;
      };
    }

headed-ipv6 : (frame : List ℕ) (v : EthernetRepr) (w : Ipv6Repr) → ipv6.Reads (drop 14 frame) w → IsHeaded (headed frame v (Ipv6 w)) frame (Ipv6 w)
headed-ipv6 frame v w r =
    let bytes = drop 14 frame in
    let payload = ipv6.payload_of bytes in
    let c = ipv6_chain bytes in
    let whole = r.lengths in
    let size = length-part bytes 40 (ipv6.total_len bytes) whole in
    let within = (chain-right (field bytes 48 8) (length payload) payload).within in
    let rest = length-drop c.len payload in
    let outer = inner-found frame bytes payload 14 (length bytes) 40 (length payload) refl (rest-found frame) (omega (arith, size, whole))
    (range-found bytes 40 (ipv6.total_len bytes) whole) refl in
    record {
      reason = no-fault c.fault 0;
      transport = refl;
      protocol = chain-protocol (with_ipv6_header (linked frame v) bytes w).ip c.fragment ∙ sym (ap number_of r.next_header ∙ protocol_number (field bytes 48 8));
      payload = record {
        len = sym rest;
        octets = inner-found frame payload (drop c.len payload) 54 (length payload) c.len (length payload - c.len) refl outer (omega (arith, rest, within))
            (take_all (length (drop c.len payload)) (drop c.len payload) (omega arith)) (sym rest);
      };
    }

pub is-headed : (frame : List ℕ) (v : EthernetRepr) (w : IpRepr) → ReadsHeader (drop 14 frame) false w → IsHeaded (headed frame v w) frame w
is-headed frame v (Ipv4 w) r = headed-ipv4 frame v w r
is-headed frame v (Ipv6 w) r = headed-ipv6 frame v w r

-- ---- the transport header

udp-read : (src dst : IpAddress) (verified : Bool) (bytes payload : List ℕ) (u : UdpRepr) → udp.Reads bytes src dst verified u payload → udp_of src dst verified bytes ≡ Some u
udp-read src dst verified bytes payload u r = (udp_of-Reads src dst verified bytes u).1 (subst (λ q. udp.Reads bytes src dst verified u q) r.body r)

tcp-read : (src dst : IpAddress) (verified : Bool) (bytes payload : List ℕ) (u : TcpHeader) → tcp.Reads bytes src dst verified u payload → tcp_of src dst verified bytes ≡ Some u
tcp-read src dst verified bytes payload u r = (tcp_of-Reads src dst verified bytes u).1 (subst (λ q. tcp.Reads bytes src dst verified u q) r.body r)

pub with_transport_by-other : (f : FrameFields) (p : IpProtocol) (src dst : IpAddress) (bytes : List ℕ) → p ≢ protocol.Udp → p ≢ protocol.Tcp
    → with_transport_by f p src dst bytes ≡ with_message_by f p src dst bytes
with_transport_by-other f protocol.Udp src dst bytes n k = absurd (n refl)
with_transport_by-other f protocol.Tcp src dst bytes n k = absurd (k refl)
with_transport_by-other f _ src dst bytes n k = refl

-- the struct after a transport header that is read
pub with_transport_by-read : (f : FrameFields) (p : IpProtocol) (src dst : IpAddress) (bytes : List ℕ) (t : Transport) → ReadsTransportBy unchecked p src dst bytes t
    → with_transport_by f p src dst bytes ≡ transported f p src dst bytes t
with_transport_by-read f p src dst bytes (datagram u q) (is, r) =
    rw (is, udp-read src dst false bytes q u r, r.body) (other-chosen (nat_lt (length bytes) 8) _ _ (lt-false (length bytes) 8 r.lengths.least))
with_transport_by-read f p src dst bytes (segment u q) (is, r) =
    rw (is, tcp-read src dst false bytes q u r, r.body) (other-chosen (nat_lt (length bytes) 20) _ _ (lt-false (length bytes) 20 r.lengths.least))
with_transport_by-read f p src dst bytes (other q) (n, k, is) = with_transport_by-other f p src dst bytes n k ∙ ap (with_message_by f p src dst) (sym is)

-- the flags of a segment, by the byte that holds them
control-flag : (bytes : List ℕ) (c : TcpControl) → HasControl bytes c → HasFlag (field bytes 104 8) c
control-flag bytes control.Rst h = let r = h.rst in let s = h.syn in let f = h.fin in omega (arith, r, s, f)
control-flag bytes control.Syn h = let r = h.rst in let s = h.syn in let f = h.fin in omega (arith, r, s, f)
control-flag bytes control.Fin h = let r = h.rst in let s = h.syn in let f = h.fin in omega (arith, r, s, f)
control-flag bytes control.Psh (h, p) = let r = h.rst in let s = h.syn in let f = h.fin in omega (arith, r, s, f, p)
control-flag bytes control.None (h, p) = let r = h.rst in let s = h.syn in let f = h.fin in omega (arith, r, s, f, p)

ack-number : (b : Bool) (n : ℕ) → IfSome (if b then Some (seq_of n) else None) (λ s. seq_of n ≡ s)
ack-number true n = refl
ack-number false n = tt

ack-some : (b : Bool) (n : ℕ) → IsSome (if b then Some (seq_of n) else None) ↔ (b ≡ true)
ack-some true n = (λ some. refl, λ e. refl)
ack-some false n = (λ some. absurd (cc), λ e. absurd (cc))

ack-flag : (bytes : List ℕ) → ((field bytes 107 1 == 1) ≡ true) ↔ (field bytes 104 8 / 16 % 2 ≡ 1)
ack-flag bytes = (λ e. let is : field bytes 107 1 ≡ 1 = eqb-true _ 1 e in omega (arith, is), λ e. let is : field bytes 107 1 ≡ 1 = omega (arith, e) in rw is refl)

-- the header of a message is there
pub header-there : (a : Bool) (n : ℕ) → (a && nat_le 8 n) ≡ true → 8 ≤ n
header-there true n e = grind (arith, nat_tests)
header-there false n e = absurd (cc)

-- the payload follows the header of a message, if there is one
message-found : (a : Bool) (f : FrameFields) (v : Verdict) (frame bytes : List ℕ) → (a ≡ true → 8 ≤ length bytes) → Locates f frame bytes
    → Locates (if a then with_icmp f bytes v else f) frame (if a then drop 8 bytes else bytes)
message-found true f v frame bytes header d =
    let least = header refl in
    let size = length-drop 8 bytes in
    let len : f.payload_len - 8 ≡ length (drop 8 bytes) = omega (arith, d.len, size) in
    record {
      len = len;
      octets = inner-found frame bytes (drop 8 bytes) f.payload_offset f.payload_len 8 (f.payload_len - 8) d.len d.octets (omega (arith, size, least))
          (take_all (length (drop 8 bytes)) (drop 8 bytes) (omega arith)) len;
    }
message-found false f v frame bytes header d = d

-- the struct after a transport header has its values, and locates its payload
pub record IsTransported (f : FrameFields) (p : IpProtocol) (src : IpAddress) (frame : List ℕ) (t : Transport) : Type 0 where
  pub values : HasTransport f t
  pub payload : Locates f frame (payload_after p src t)

pub is-transported : (f : FrameFields) (p : IpProtocol) (src dst : IpAddress) (frame bytes : List ℕ) (t : Transport) → Locates f frame bytes
    → ReadsTransportBy unchecked p src dst bytes t → IsTransported (transported f p src dst bytes t) p src frame t
is-transported f p src dst frame bytes (datagram u q) d (is, r) =
    let all = r.lengths.whole in
    let least = r.lengths.header in
    let size : length (udp.payload_of bytes) ≡ udp.packet_len bytes - 8 = length-part bytes 8 (udp.packet_len bytes) all in
    record {
      values = (sym r.src_port, sym r.dst_port);
      payload = record {
        len = refl;
        octets = rw r.body (inner-found frame bytes (udp.payload_of bytes) f.payload_offset f.payload_len 8 (length (udp.payload_of bytes)) d.len d.octets
            (omega (arith, size, all, least)) (range-found bytes 8 (udp.packet_len bytes) all) refl);
      };
    }
is-transported f p src dst frame bytes (segment u q) d (is, r) =
    let all = r.lengths.whole in
    let len = tcp_bytes.header_len bytes in
    record {
      values = record {
        src_port = sym r.src_port;
        dst_port = sym r.dst_port;
        seq_number = sym r.seq_number;
        ack_number = subst (λ a. IfSome a (λ n. seq_of (field bytes 64 32) ≡ n)) (sym r.ack_number) (ack-number (field bytes 107 1 == 1) (field bytes 64 32));
        ack = subst (λ a. IsSome a ↔ (field bytes 104 8 / 16 % 2 ≡ 1)) (sym r.ack_number) (
          λ some. (ack-flag bytes).0 ((ack-some (field bytes 107 1 == 1) (field bytes 64 32)).0 some),
          λ e. (ack-some (field bytes 107 1 == 1) (field bytes 64 32)).1 ((ack-flag bytes).1 e),
        );
        control = control-flag bytes u.control r.control;
        window_len = sym r.window_len;
      };
      payload = record {
        len = refl;
        octets = rw r.body (inner-found frame bytes (tcp_bytes.payload_of bytes) f.payload_offset f.payload_len len (length (tcp_bytes.payload_of bytes)) d.len d.octets
            (grind (arith, common_steps)) (grind (arith, common_steps)) refl);
      };
    }
is-transported f p src dst frame bytes (other q) d (n, k, is) = record {
  values = tt;
  payload = message-found (has_message p src q) f (icmp_verdict src dst q) frame q (header-there (is_icmp p src) (length q)) (subst (Locates f frame) (sym is) d);
}
