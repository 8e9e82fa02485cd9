-- A transport header is either named as parsed, or as rejected.
use Rattle.std.proofs.Common.{ℕ, ◌≡◌, ◌≢◌, ◌∙◌, inl, inr, nat_lt, if◌then◌else◌, Bool, true, false, List, Option, None, Some, drop, length, refl, subst, sym}
use Rattle.std.specs.Option.{option_map_or}
use Rattle.ip_wire.specs.Arp.{arp_of}
use Rattle.ip_wire.specs.Ethernet.{ethernet_of}
use Rattle.ip_wire.specs.Frame.{ipv4_payload}
use Rattle.ip_wire.specs.Ip.{dst_addr_of, src_addr_of}
use Rattle.ip_wire.specs.Ipv4 as ipv4
use Rattle.ip_wire.specs.Ipv4.{ipv4_of}
use Rattle.ip_wire.specs.Ipv6 as ipv6
use Rattle.ip_wire.specs.Ipv6.{ipv6_of}
use Rattle.ip_wire.specs.Protocol.{protocol_of}
use Rattle.ip_wire.specs.Tcp as tcp
use Rattle.ip_wire.specs.TcpRepr.{tcp_of}
use Rattle.ip_wire.specs.Types.{ArpRepr, EthernetProtocol, IpAddress, IpProtocol, Ipv4}
use Rattle.ip_wire.specs.Udp as udp
use Rattle.ip_wire.specs.Udp.{udp_of}
use Rattle.ip_wire.specs.declared.ArpRepr.TheVariants.{EthernetIpv4}
use Rattle.ip_wire.specs.declared.EthernetProtocol.TheVariants as ethertype
use Rattle.ip_wire.specs.declared.IpAddress.TheVariants as address
use Rattle.ip_wire.specs.declared.IpProtocol.TheVariants as protocol
use Rattle.c_structs.specs.Nothing.{nothing_of}
use Rattle.c_structs.specs.Verdicts.{icmp_verdict}
use Rattle.c_structs.specs.declared.codes.Reason.{Reason}
use Rattle.c_structs.specs.declared.codes.Reason.TheVariants as reason
use Rattle.c_structs.specs.declared.types.FrameFields.{FrameFields}
use Rattle.wire_extensions.proofs.Steps.{chain-right}
use Rattle.c_read.proofs.StoredChain.{extension-kept, given, no-fault}
use Rattle.c_read.proofs.StoredParts.{IsFault, tcp-faulty, udp-faulty}
use Rattle.c_read.specs.FrameFields.{after_header, fields_of, frame_headers, rejected, rejected_transport, tcp_fault, udp_fault, with_carried, with_chain, with_extended, with_frame, with_ipv4_header, with_ipv6_header, with_message, with_part, with_payload, with_tcp_header, with_transport_by, with_udp_header, has_message, with_icmp}
use Rattle.wire_extensions.specs.Chain.{chain_of}
use Rattle.c_read.specs.Stored.{linked}

-- no transport header is named where one is rejected, and no rejected one where none is
pub record Apart (f : FrameFields) : Type 0 where
  pub none : f.reason ≢ 0 → f.transport ≡ 0
  pub all : f.reason ≡ 0 → f.rejected ≡ 0

-- no transport header is stored yet, and none is rejected
record IsNew (f : FrameFields) : Type 0 where
  reason : f.reason ≡ 0
  transport : f.transport ≡ 0
  rejected : f.rejected ≡ 0

same : (f : FrameFields) → IsNew f → Apart f
same f n = record { none = λ h. n.transport; all = λ h. n.rejected }

-- a header in front of it is rejected
early : (f : FrameFields) (why : Reason) → f.transport ≡ 0 → f.rejected ≡ 0 → Apart (rejected f why)
early f why a c = record { none = λ h. a; all = λ h. c }

-- it is rejected
late : (f : FrameFields) (why : Reason) → IsFault why → Apart (rejected_transport f why)
late f why fault = record { none = λ h. refl; all = λ h. absurd (fault.other h) }

-- it is parsed
stored : (f : FrameFields) → f.reason ≡ 0 → f.rejected ≡ 0 → Apart f
stored f a c = record { none = λ h. absurd (h a); all = λ h. c }

by-test : (b : Bool) (f g : FrameFields) → Apart f → Apart g → Apart (if b then f else g)
by-test true f g a c = a
by-test false f g a c = c

by-value : {A : Type 0} (o : Option A) (g : A → FrameFields) (h : FrameFields) → ((x : A) → Apart (g x)) → Apart h → Apart (option_map_or g o h)
by-value None g h a c = c
by-value (Some x) g h a c = a x

transport-apart : (f : FrameFields) (p : IpProtocol) (src dst : IpAddress) (bytes : List ℕ) → IsNew f → Apart (with_transport_by f p src dst bytes)
transport-apart f protocol.Udp src dst bytes n =
    let next = with_udp_header f src dst bytes in
    by-test (nat_lt (length bytes) 8) (rejected f reason.TooShort) _ (early f reason.TooShort n.transport n.rejected)
    (by-value (udp_of src dst false bytes) (λ u. after_header next 8 (length (udp.payload_of bytes))) (rejected_transport next (udp_fault bytes)) (λ u. stored (after_header next 8 (length (udp.payload_of bytes))) n.reason n.rejected)
    (late next (udp_fault bytes) (udp-faulty bytes)))
transport-apart f protocol.Tcp src dst bytes n =
    let next = with_tcp_header f src dst bytes in
    by-test (nat_lt (length bytes) 20) (rejected f reason.TooShort) _ (early f reason.TooShort n.transport n.rejected)
    (by-value (tcp_of src dst false bytes) (λ u. after_header next (tcp.header_len bytes) (length (tcp.payload_of bytes))) (rejected_transport next (tcp_fault bytes (length bytes)))
    (λ u. stored (after_header next (tcp.header_len bytes) (length (tcp.payload_of bytes))) n.reason n.rejected) (late next (tcp_fault bytes (length bytes)) (tcp-faulty bytes (length bytes))))
transport-apart f p src dst bytes n =
    let next = with_icmp f bytes (icmp_verdict src dst bytes) in by-test (has_message p src bytes) next f (stored next n.reason n.rejected) (same f n)

-- after extension headers, of which one may be rejected
extended-apart : (f : FrameFields) (src dst bytes : List ℕ) → IsNew f → Apart (with_extended f (address.Ipv6 src) (address.Ipv6 dst) bytes)
extended-apart f src dst bytes n =
    let c = chain_of f.protocol (length bytes) bytes in
    let rest = drop c.len bytes in
    let next = with_chain f c rest in
    elim (given c.fault) [
      | inl none ↦
          transport-apart next (protocol_of c.protocol) (address.Ipv6 src) (address.Ipv6 dst) rest
          (record { reason = no-fault c.fault f.reason none ∙ n.reason; transport = n.transport; rejected = n.rejected })
      | inr (why, fault) ↦
          let same = extension-kept next c.protocol src dst rest ((chain-right f.protocol (length bytes) bytes).fault why fault) in
          subst Apart (sym same) (record { none = λ h. n.transport; all = λ h. n.rejected })
    ]

message-apart : (f : FrameFields) (w : ArpRepr) → IsNew f → Apart (with_message f w)
message-apart f (EthernetIpv4 operation source_hardware source_protocol target_hardware target_protocol) n = record { none = λ h. n.transport; all = λ h. n.rejected }

carried-apart : (f : FrameFields) (t : EthernetProtocol) (bytes : List ℕ) → IsNew f → Apart (with_carried f t bytes)
carried-apart f ethertype.Arp bytes n = by-value (arp_of bytes) (with_message f) _ (λ w. message-apart f w n) (early f _ n.transport n.rejected)
carried-apart f ethertype.Ipv4 bytes n =
    by-value (ipv4_of false bytes) (λ w. let next = with_ipv4_header f bytes w in if ipv4.is_fragment bytes then with_part next (ipv4_payload bytes) else with_payload next (Ipv4 w) (ipv4_payload bytes)) _
    (λ w. let next = with_ipv4_header f bytes w in
    let new : IsNew next = record { reason = n.reason; transport = n.transport; rejected = n.rejected } in
    by-test (ipv4.is_fragment bytes) (with_part next (ipv4_payload bytes)) (with_payload next (Ipv4 w) (ipv4_payload bytes))
    (same (with_part next (ipv4_payload bytes)) (record { reason = n.reason; transport = n.transport; rejected = n.rejected }))
    (transport-apart next w.next_header (src_addr_of (Ipv4 w)) (dst_addr_of (Ipv4 w)) (ipv4_payload bytes) new))
    (early f _ n.transport n.rejected)
carried-apart f ethertype.Ipv6 bytes n =
    by-value (ipv6_of bytes) (λ w. with_extended (with_ipv6_header f bytes w) (address.Ipv6 w.src_addr) (address.Ipv6 w.dst_addr) (ipv6.payload_of bytes)) _
    (λ w. extended-apart (with_ipv6_header f bytes w) w.src_addr w.dst_addr (ipv6.payload_of bytes) (record { reason = n.reason; transport = n.transport; rejected = n.rejected }))
    (early f _ n.transport n.rejected)
carried-apart f (ethertype.Unknown k) bytes n = same f n

headers-apart : (frame : List ℕ) → Apart (frame_headers frame)
unfolding frame_headers
headers-apart frame =
    by-value (ethernet_of frame) (λ v. with_frame (nothing_of (length frame)) v (drop 14 frame)) (nothing_of (length frame))
    (λ v. carried-apart (linked frame v) v.ethertype (drop 14 frame) (record { reason = refl; transport = refl; rejected = refl }))
    (record { none = λ h. refl; all = λ h. refl })

pub frame-apart : (frame : List ℕ) → Apart (fields_of frame)
unfolding fields_of
frame-apart frame = let apart = headers-apart frame in record { none = apart.none; all = apart.all }
