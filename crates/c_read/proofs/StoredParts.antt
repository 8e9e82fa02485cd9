-- The struct of a frame that is not parsed whole stores the values of the headers before.
use Rattle.std.proofs.Common.{ℕ, ◌≡◌, ◌≢◌, inl, inr, ◌∙◌, ◌==◌, ◌||◌, not, nat_lt, is_none, if◌then◌else◌, Bool, true, false, List, Option, Some, None, drop, length, refl, ap, subst, sym, arith}
use Rattle.std.specs.Option.{option_map_or}
use Rattle.ip_wire.proofs.ArpComputed.{arp_of-Reads}
use Rattle.ip_wire.proofs.EthernetComputed.{ethernet_of-Reads}
use Rattle.ip_wire.proofs.Ipv4Computed.{ipv4_of-Reads}
use Rattle.ip_wire.proofs.Ipv6Computed.{ipv6_of-Reads}
use Rattle.ip_wire.proofs.TcpComputed.{tcp_of-Reads}
use Rattle.ip_wire.proofs.UdpComputed.{udp_of-Reads}
use Rattle.ip_wire.specs.Arp.{arp_of}
use Rattle.ip_wire.specs.Ethernet as ethernet
use Rattle.ip_wire.specs.Ethernet.{ethernet_of}
use Rattle.ip_wire.specs.Frame.{Carried, ReadsTransportBy, Transport, datagram, ipv4_payload, message, other, packet, segment, type_of}
use Rattle.ip_wire.specs.Ip.{ReadsHeader, dst_addr_of, src_addr_of}
use Rattle.ip_wire.specs.Ipv4 as ipv4
use Rattle.ip_wire.specs.Ipv4.{ipv4_of}
use Rattle.ip_wire.specs.Ipv6 as ipv6
use Rattle.ip_wire.specs.Ipv6.{ipv6_of}
use Rattle.ip_wire.specs.Tcp as tcp_bytes
use Rattle.ip_wire.specs.TcpRepr.{tcp_of}
use Rattle.ip_wire.specs.Udp as udp
use Rattle.ip_wire.specs.Udp.{udp_of}
use Rattle.ip_wire.specs.Types.{ArpRepr, EthernetProtocol, EthernetRepr, IpAddress, IpProtocol, IpRepr, Ipv4, Ipv4Repr, Ipv6, Ipv6Repr}
use Rattle.ip_wire.specs.declared.EthernetProtocol.TheVariants as ethertype
use Rattle.ip_wire.specs.declared.IpProtocol.TheVariants as protocol
use Rattle.ip_wire.specs.Field.{field}
use Rattle.ip_wire.specs.Protocol.{protocol_of}
use Rattle.ip_wire.specs.declared.Ipv6FragmentRepr.{Ipv6FragmentRepr}
use Rattle.ip_wire.specs.TcpRepr.{control_of}
use Rattle.ip_wire.specs.declared.ArpRepr.TheVariants.{EthernetIpv4}
use Rattle.c_structs.specs.Codes.{reason_code}
use Rattle.c_structs.specs.Verdicts.{icmp_verdict}
use Rattle.c_structs.specs.Written.{flag}
use Rattle.c_structs.specs.declared.codes.Reason.{Reason}
use Rattle.c_structs.specs.declared.codes.Reason.TheVariants as reason
use Rattle.c_structs.specs.declared.types.FrameFields.{FrameFields}
use Rattle.c_structs.specs.declared.types.Ip.{Ip}
use Rattle.c_structs.specs.declared.codes.Verdict.{Verdict}
use Rattle.wire_extensions.proofs.Steps.{chain-right, none-some}
use Rattle.c_read.proofs.StoredChain.{a-fault, extension-kept, given, no-part, numbered}
use Rattle.c_read.proofs.StoredFrame.{chosen-network, with_carried-choice, with_carried-ipv4, with_carried-ipv6}
use Rattle.c_read.proofs.FieldsOf.{fields_of-is}
use Rattle.c_read.proofs.StoredHeaders.{frame_headers-linked, first-chosen, is-headed, rest-found}
use Rattle.c_read.specs.FrameFields.{arp_fault, after_header, fields_of, frame_headers, ipv4_fault, ipv6_fault, rejected, rejected_transport, tcp_fault, udp_fault, ipv6_chain, with_arp, with_captured, with_carried, with_ipv4, with_ipv4_header, with_ipv6, with_message, with_part, with_payload, with_tcp_header, with_transport_by, with_udp_header, has_message, with_icmp}
use Rattle.c_read.specs.Stored.{HasProtocol, Locates, StepsCarried, StepsFrame, StoresFault, StoresFragment, StoresRejected, StoresRejectedBy, StoresUnread, extension_fault_of, headed, headed_by, linked, network_fault, unchecked, upper_payload, upper_protocol}
use Rattle.wire_extensions.specs.Chain.{is_part}

-- ---- faults

-- the number of a fault is not that of "read"
pub record IsFault (why : Reason) : Type 0 where
  pub other : reason_code why ≢ 0

one-test : (b : Bool) (x y : Reason) → IsFault x → IsFault y → IsFault (if b then x else y)
one-test true x y a c = a
one-test false x y a c = c

too-short : IsFault reason.TooShort
too-short = record { other = λ e. absurd (omega (arith, e)) }

bad-version : IsFault reason.BadVersion
bad-version = record { other = λ e. absurd (omega (arith, e)) }

bad-length : IsFault reason.BadLength
bad-length = record { other = λ e. absurd (omega (arith, e)) }

other-arp : IsFault reason.OtherArp
other-arp = record { other = λ e. absurd (omega (arith, e)) }

port-zero : IsFault reason.PortZero
port-zero = record { other = λ e. absurd (omega (arith, e)) }

bad-flags : IsFault reason.BadFlags
bad-flags = record { other = λ e. absurd (omega (arith, e)) }

bad-options : IsFault reason.BadOptions
bad-options = record { other = λ e. absurd (omega (arith, e)) }

header-cut : IsFault reason.HeaderCut
header-cut = record { other = λ e. absurd (omega (arith, e)) }

arp-faulty : (bytes : List ℕ) → IsFault (arp_fault bytes)
arp-faulty bytes = one-test (nat_lt (length bytes) 28) _ _ too-short other-arp

ipv4-faulty : (bytes : List ℕ) → IsFault (ipv4_fault bytes)
ipv4-faulty bytes = one-test (nat_lt (length bytes) 20) _ _ too-short (one-test (not (field bytes 0 4 == 4)) _ _ bad-version bad-length)

ipv6-faulty : (bytes : List ℕ) → IsFault (ipv6_fault bytes)
ipv6-faulty bytes = one-test (nat_lt (length bytes) 40) _ _ too-short (one-test (not (field bytes 0 4 == 6)) _ _ bad-version bad-length)

pub udp-faulty : (bytes : List ℕ) → IsFault (udp_fault bytes)
udp-faulty bytes = one-test (not (udp.has_lengths bytes)) _ _ bad-length port-zero

pub tcp-faulty : (bytes : List ℕ) (len : ℕ) → IsFault (tcp_fault bytes len)
tcp-faulty bytes len =
    one-test (nat_lt (tcp_bytes.header_len bytes) 20 || nat_lt len (tcp_bytes.header_len bytes)) _ _ bad-length (
    one-test (field bytes 0 16 == 0 || (field bytes 16 16 == 0)) _ _ port-zero (
    one-test (is_none (control_of bytes)) _ _ bad-flags (
    one-test (nat_lt (length bytes) (tcp_bytes.header_len bytes)) _ _ header-cut bad-options)))

-- ---- what is not parsed

-- a header that is not rejected has a value
chosen-read : {A : Type 0} (b : Bool) (o : Option A) (f g h : FrameFields) (why : Reason) → IsFault why
    → (if b then rejected f reason.TooShort else option_map_or (λ v. g) o (rejected_transport h why)).reason ≡ 0 → (a : A) × (o ≡ Some a)
chosen-read true o f g h why fault read = absurd (too-short.other read)
chosen-read false None f g h why fault read = absurd (fault.other read)
chosen-read false (Some a) f g h why fault read = (a, refl)

between-only : (f : FrameFields) (p : IpProtocol) (src dst : IpAddress) (bytes : List ℕ) → (with_transport_by f p src dst bytes).reason ≡ 0
    → (t : Transport) × ReadsTransportBy unchecked p src dst bytes t
between-only f protocol.Udp src dst bytes read =
    let (u, is) = chosen-read (nat_lt (length bytes) 8) (udp_of src dst false bytes) f (after_header (with_udp_header f src dst bytes) 8 (length (udp.payload_of bytes))) (with_udp_header f src dst bytes) (udp_fault bytes) (udp-faulty bytes) read in
    (datagram u (udp.payload_of bytes), (refl, (udp_of-Reads src dst false bytes u).0 is))
between-only f protocol.Tcp src dst bytes read =
    let (u, is) = chosen-read (nat_lt (length bytes) 20) (tcp_of src dst false bytes) f (after_header (with_tcp_header f src dst bytes) (tcp_bytes.header_len bytes) (length (tcp_bytes.payload_of bytes))) (with_tcp_header f src dst bytes) (tcp_fault bytes (length bytes)) (tcp-faulty bytes (length bytes)) read in
    (segment u (tcp_bytes.payload_of bytes), (refl, (tcp_of-Reads src dst false bytes u).0 is))
between-only f p src dst bytes read = (other bytes, ((λ is. absurd (cc)), (λ is. absurd (cc)), refl))

-- a choice that is not the fragment's
chosen-whole : (b : Bool) (f g : FrameFields) → (if b then f else g).is_fragment ≡ 0 → f.is_fragment ≡ flag b → b ≡ false
chosen-whole true f g whole is = absurd (omega (arith, whole, is))
chosen-whole false f g whole is = refl

chosen-reason : (b : Bool) (f g : FrameFields) → b ≡ false → (if b then f else g).reason ≡ 0 → g.reason ≡ 0
chosen-reason true f g part read = absurd (cc)
chosen-reason false f g part read = read

ipv4-only : (f : FrameFields) (bytes : List ℕ) → (with_ipv4 f bytes).reason ≡ 0 → (with_ipv4 f bytes).is_fragment ≡ 0
    → (w : Carried) × StepsCarried unchecked ethertype.Ipv4 bytes w
ipv4-only f bytes read whole = elim (given (ipv4_of false bytes)) [
  | inl none ↦ absurd ((ipv4-faulty bytes).other (rw none at read))
  | inr (w, is) ↦
      let next = with_ipv4_header f bytes w in
      let inner = with_payload next (Ipv4 w) (ipv4_payload bytes) in
      let fragment = with_part next (ipv4_payload bytes) in
      let part = chosen-whole (ipv4.is_fragment bytes) fragment inner (rw is at whole) refl in
      let (t, reads) = between-only next w.next_header (src_addr_of (Ipv4 w)) (dst_addr_of (Ipv4 w)) (ipv4_payload bytes)
      (chosen-reason (ipv4.is_fragment bytes) fragment inner part (rw is at read))
      in
      (packet (Ipv4 w) t, (refl, ((ipv4_of-Reads false bytes w).0 is, part), refl, reads))
]

ipv6-only : (f : FrameFields) (bytes : List ℕ) → (with_ipv6 f bytes).reason ≡ 0
    → (w : Carried) × StepsCarried unchecked ethertype.Ipv6 bytes w
ipv6-only f bytes read = elim (given (ipv6_of bytes)) [
  | inl none ↦ absurd ((ipv6-faulty bytes).other (rw none at read))
  | inr (w, is) ↦
      let inner = rw is at read in
      let payload = ipv6.payload_of bytes in
      let c = ipv6_chain bytes in
      let next = headed_by f bytes (Ipv6 w) in
      let rest = drop c.len payload in
      let right = chain-right (field bytes 48 8) (length payload) payload in
      elim (given c.fault) [
        | inl none ↦
            let (t, reads) = between-only next (protocol_of c.protocol) (src_addr_of (Ipv6 w)) (dst_addr_of (Ipv6 w)) rest inner in
            (packet (Ipv6 w) t, (refl, (ipv6_of-Reads bytes w).0 is, none, reads))
        | inr (why, fault) ↦
            let same = extension-kept next c.protocol w.src_addr w.dst_addr rest (right.fault why fault) in
            absurd (numbered why (sym (a-fault c.fault why f.reason fault) ∙ sym (ap (λ (g : FrameFields). g.reason) same) ∙ inner))
      ]
]

arp-only : (f : FrameFields) (bytes : List ℕ) → (with_arp f bytes).reason ≡ 0 → (w : Carried) × StepsCarried unchecked ethertype.Arp bytes w
arp-only f bytes read = elim (given (arp_of bytes)) [
  | inl none ↦ absurd ((arp-faulty bytes).other (rw none at read))
  | inr (w, is) ↦ (message w, (refl, (arp_of-Reads bytes w).0 is))
]

carried-only : (f : FrameFields) (t : EthernetProtocol) (bytes : List ℕ) → f.network ≡ 0 → (with_carried f t bytes).reason ≡ 0 → (with_carried f t bytes).network ≢ 0
    → (with_carried f t bytes).is_fragment ≡ 0 → (w : Carried) × StepsCarried unchecked t bytes w
carried-only f ethertype.Arp bytes none read network whole = arp-only f bytes read
carried-only f ethertype.Ipv4 bytes none read network whole = ipv4-only f bytes read whole
carried-only f ethertype.Ipv6 bytes none read network whole = ipv6-only f bytes read
carried-only f (ethertype.Unknown n) bytes none read network whole = absurd (network none)

-- a frame with a network header, no rejected header and no fragment is parsed whole
pub only-read : (frame : List ℕ) → (fields_of frame).reason ≡ 0 → (fields_of frame).network ≢ 0 → (fields_of frame).is_fragment ≡ 0
    → (v : EthernetRepr) × (w : Carried) × StepsFrame unchecked frame v w
unfolding fields_of frame_headers
only-read frame read network whole = elim (given (ethernet_of frame)) [
  | inl none ↦ absurd (too-short.other (rw none at read))
  | inr (v, is) ↦
      let (w, reads) = carried-only (linked frame v) v.ethertype (drop 14 frame) refl (rw is at read) (rw is at network) (rw is at whole) in
      (v, w, record { reads_header = (ethernet_of-Reads frame v).0 is; reads_carried = reads })
]

-- ---- an IPv4 fragment

with_carried-fragment : (f : FrameFields) (t : EthernetProtocol) (bytes : List ℕ) (w : Ipv4Repr) → t ≡ ethertype.Ipv4 → ipv4_of false bytes ≡ Some w → ipv4.is_fragment bytes ≡ true
    → with_carried f t bytes ≡ with_part (with_ipv4_header f bytes w) (ipv4_payload bytes)
with_carried-fragment f t bytes w type read part = rw (type, read) (first-chosen (ipv4.is_fragment bytes) _ _ part)

-- the struct of an IPv4 fragment stores its header and its ports
pub stores-fragment : (frame : List ℕ) (v : EthernetRepr) (w : Ipv4Repr) → ethernet.Reads frame v → v.ethertype ≡ ethertype.Ipv4 → ipv4.Reads (drop 14 frame) false w
    → ipv4.is_fragment (drop 14 frame) ≡ true → StoresFragment (fields_of frame) frame v w
stores-fragment frame v w link type r part =
    let bytes = drop 14 frame in
    let is = frame_headers-linked frame v link ∙ with_carried-fragment (linked frame v) v.ethertype bytes w type ((ipv4_of-Reads false bytes w).1 r) part in
    let h = is-headed frame v (Ipv4 w) r in
    rw (fields_of-is frame ∙ ap (with_captured (length frame)) is) (record { part = ap flag part; fields = refl; values = h.protocol; payload = record { len = h.payload.len; octets = h.payload.octets } })

-- ---- a rejected transport header

-- what a rejected transport header leaves as it is
record KeepsPayload (f g : FrameFields) : Type 0 where
  part : g.is_fragment ≡ f.is_fragment
  ip : g.ip ≡ f.ip
  offset : g.payload_offset ≡ f.payload_offset
  len : g.payload_len ≡ f.payload_len

kept-payload : (b : Bool) (f g h : FrameFields) → KeepsPayload f g → KeepsPayload f h → KeepsPayload f (if b then g else h)
kept-payload true f g h c d = c
kept-payload false f g h c d = d

rejected-by : {A : Type 0} (b : Bool) (o : Option A) (f g h : FrameFields) → g.reason ≡ 0 → (if b then f else option_map_or (λ v. g) o h).reason ≢ 0
    → (if b then f else option_map_or (λ v. g) o h) ≡ (if b then f else h)
rejected-by true o f g h read fault = refl
rejected-by false None f g h read fault = refl
rejected-by false (Some a) f g h read fault = absurd (fault read)

-- an ICMP message is not rejected
message-reason : (a : Bool) (f : FrameFields) (bytes : List ℕ) (v : Verdict) → (if a then with_icmp f bytes v else f).reason ≡ f.reason
message-reason true f bytes v = refl
message-reason false f bytes v = refl

-- what is stored of a transport header that is rejected, and what is not
record IsRejected (f g : FrameFields) (p : IpProtocol) (src dst : IpAddress) (bytes : List ℕ) : Type 0 where
  stores : StoresRejectedBy p g f src dst bytes
  keeps : KeepsPayload f g

is-rejected : (f : FrameFields) (p : IpProtocol) (src dst : IpAddress) (bytes : List ℕ) → f.reason ≡ 0 → (with_transport_by f p src dst bytes).reason ≢ 0
    → IsRejected f (with_transport_by f p src dst bytes) p src dst bytes
is-rejected f protocol.Udp src dst bytes read fault =
    let next = with_udp_header f src dst bytes in
    let is = rejected-by (nat_lt (length bytes) 8) (udp_of src dst false bytes) (rejected f reason.TooShort) (after_header next 8 (length (udp.payload_of bytes))) (rejected_transport next (udp_fault bytes)) read fault in
    record {
      stores = is;
      keeps = rw is (kept-payload (nat_lt (length bytes) 8) f _ _ (record { part = refl; ip = refl; offset = refl; len = refl }) (record { part = refl; ip = refl; offset = refl; len = refl }));
    }
is-rejected f protocol.Tcp src dst bytes read fault =
    let next = with_tcp_header f src dst bytes in
    let is = rejected-by (nat_lt (length bytes) 20) (tcp_of src dst false bytes) (rejected f reason.TooShort) (after_header next (tcp_bytes.header_len bytes) (length (tcp_bytes.payload_of bytes))) (rejected_transport next (tcp_fault bytes (length bytes))) read fault in
    record {
      stores = is;
      keeps = rw is (kept-payload (nat_lt (length bytes) 20) f _ _ (record { part = refl; ip = refl; offset = refl; len = refl }) (record { part = refl; ip = refl; offset = refl; len = refl }));
    }
is-rejected f p src dst bytes read fault = absurd (fault (message-reason (has_message p src bytes) f bytes (icmp_verdict src dst bytes) ∙ read))

-- the fragment's struct is not chosen where a header is rejected
rejected-whole : (f g : FrameFields) (b : Bool) → f.reason ≡ 0 → (if b then f else g).reason ≢ 0 → b ≡ false
rejected-whole f g true read fault = absurd (fault read)
rejected-whole f g false read fault = refl

-- the headers before a rejected one, and the place of what follows them
record IsFaulty (f : FrameFields) (frame : List ℕ) (v : EthernetRepr) (w : IpRepr) : Type 0 where
  part : f.is_fragment ≡ 0
  fields : StoresFault f frame v w
  values : HasProtocol f w
  payload : Locates f frame (upper_payload w (drop 14 frame))

-- the struct of a packet that is no fragment and whose transport header is rejected
stores-after_header : (frame : List ℕ) (v : EthernetRepr) (w : IpRepr) → ReadsHeader (drop 14 frame) false w → let bytes = drop 14 frame in
    let g = with_transport_by (headed frame v w) (upper_protocol w bytes) (src_addr_of w) (dst_addr_of w) (upper_payload w bytes) in
    g.reason ≢ 0 → extension_fault_of w bytes ≡ None
    → (StoresRejectedBy (upper_protocol w bytes) g (headed frame v w) (src_addr_of w) (dst_addr_of w) (upper_payload w bytes) → (headed frame v w).is_fragment ≡ 0)
    → IsFaulty g frame v w
stores-after_header frame v w r fault none part =
    let bytes = drop 14 frame in
    let h = is-headed frame v w r in
    let d = is-rejected (headed frame v w) (upper_protocol w bytes) (src_addr_of w) (dst_addr_of w) (upper_payload w bytes) (h.reason none) fault in
    record {
      part = d.keeps.part ∙ part d.stores;
      fields = inr d.stores;
      values = ap (λ (i : Ip). i.protocol) d.keeps.ip ∙ h.protocol;
      payload = record { len = d.keeps.len ∙ h.payload.len; octets = rw (d.keeps.offset, d.keeps.len) h.payload.octets };
    }

-- no transport header after the header of a fragment is rejected
no-rejected-part : (p : ℕ) (f g : FrameFields) (src dst : IpAddress) (bytes : List ℕ) → StoresRejectedBy (protocol_of p) f g src dst bytes → p ≡ 44 → ⊥
no-rejected-part p f g src dst bytes stores is = subst (λ (q : ℕ). StoresRejectedBy (protocol_of q) f g src dst bytes) is stores

-- a header is not that of a fragment, if that would be wrong
whole-header : (v : Ipv6FragmentRepr) → (is_part v ≡ true → ⊥) → is_part v ≡ false
whole-header v never = by (is_part v) refl
  where
    by : (b : Bool) → is_part v ≡ b → is_part v ≡ false
    by true is = absurd (never is)
    by false is = is

-- the struct of an IPv6 packet with a rejected header after the IPv6 header
ipv6-rejected : (frame : List ℕ) (v : EthernetRepr) (w : Ipv6Repr) → ReadsHeader (drop 14 frame) false (Ipv6 w) → let bytes = drop 14 frame in
    let g = with_transport_by (headed frame v (Ipv6 w)) (upper_protocol (Ipv6 w) bytes) (src_addr_of (Ipv6 w)) (dst_addr_of (Ipv6 w)) (upper_payload (Ipv6 w) bytes) in
    g.reason ≢ 0 → IsFaulty g frame v (Ipv6 w)
ipv6-rejected frame v w r reason =
    let bytes = drop 14 frame in
    let payload = ipv6.payload_of bytes in
    let c = ipv6_chain bytes in
    let right = chain-right (field bytes 48 8) (length payload) payload in
    elim (given c.fault) [
      | inl none ↦
          stores-after_header frame v (Ipv6 w) r reason none (λ stores. no-part c.fragment (λ h is. whole-header h (λ part.
          no-rejected-part c.protocol _ (headed frame v (Ipv6 w)) (src_addr_of (Ipv6 w)) (dst_addr_of (Ipv6 w)) (drop c.len payload) stores (right.part h is part).0)))
      | inr (why, fault) ↦
          let h = is-headed frame v (Ipv6 w) r in
          let same = extension-kept (headed frame v (Ipv6 w)) c.protocol w.src_addr w.dst_addr (drop c.len payload) (right.fault why fault) in
          subst (λ g. IsFaulty g frame v (Ipv6 w)) (sym same) (record {
            part = no-part c.fragment (λ u is. whole-header u (λ part. none-some why (sym (right.part u is part).1 ∙ fault)));
            fields = inl ((λ none. none-some why (sym none ∙ fault)), refl);
            values = h.protocol;
            payload = h.payload;
          })
    ]

is-faulty : (frame : List ℕ) (v : EthernetRepr) (w : IpRepr) → ethernet.Reads frame v → v.ethertype ≡ type_of w → ReadsHeader (drop 14 frame) false w
    → (frame_headers frame).reason ≢ 0 → IsFaulty (frame_headers frame) frame v w
is-faulty frame v (Ipv4 w) link type r fault =
    let bytes = drop 14 frame in
    let f = linked frame v in
    let g = headed frame v (Ipv4 w) in
    let part = with_part g (ipv4_payload bytes) in
    let inner = with_payload g (Ipv4 w) (ipv4_payload bytes) in
    let read = (ipv4_of-Reads false bytes w).1 r in
    let is = frame_headers-linked frame v link in
    let chosen : with_carried f v.ethertype bytes ≡ (if ipv4.is_fragment bytes then part else inner) = with_carried-choice f v.ethertype bytes w type read in
    let whole = rejected-whole part inner (ipv4.is_fragment bytes) refl (rw (is ∙ chosen) at fault) in
    let all = is ∙ with_carried-ipv4 f v.ethertype bytes w type read whole in
    rw all (stores-after_header frame v (Ipv4 w) r (rw all at fault) refl (λ stores. ap flag whole))
is-faulty frame v (Ipv6 w) link type r fault =
    let bytes = drop 14 frame in
    let read = (ipv6_of-Reads bytes w).1 r in
    let all = frame_headers-linked frame v link ∙ with_carried-ipv6 (linked frame v) v.ethertype bytes w type read in
    rw all (ipv6-rejected frame v w r (rw all at fault))

-- the struct of a packet whose transport header or extension header is rejected stores the headers
pub stores-rejected : (frame : List ℕ) (v : EthernetRepr) (w : IpRepr) → ethernet.Reads frame v → v.ethertype ≡ type_of w → ReadsHeader (drop 14 frame) false w
    → (fields_of frame).reason ≢ 0 → StoresRejected (fields_of frame) frame v w
unfolding fields_of
stores-rejected frame v w link type r fault =
    let s = is-faulty frame v w link type r fault in
    record { part = s.part; fields = (frame_headers frame, refl, s.fields); values = s.values; payload = record { len = s.payload.len; octets = s.payload.octets } }

-- ---- a rejected network header, or an unknown type

kept-network : {A : Type 0} (b : Bool) (o : Option A) (f g h : FrameFields) (why : Reason) → g.network ≡ f.network → h.network ≡ f.network
    → (if b then rejected f reason.TooShort else option_map_or (λ v. g) o (rejected_transport h why)).network ≡ f.network
kept-network true o f g h why a c = refl
kept-network false None f g h why a c = c
kept-network false (Some v) f g h why a c = a

between-network : (f : FrameFields) (p : IpProtocol) (src dst : IpAddress) (bytes : List ℕ) → (with_transport_by f p src dst bytes).network ≡ f.network
between-network f protocol.Udp src dst bytes = kept-network (nat_lt (length bytes) 8) (udp_of src dst false bytes) f (after_header (with_udp_header f src dst bytes) 8 (length (udp.payload_of bytes))) (with_udp_header f src dst bytes) (udp_fault bytes) refl refl
between-network f protocol.Tcp src dst bytes = kept-network (nat_lt (length bytes) 20) (tcp_of src dst false bytes) f (after_header (with_tcp_header f src dst bytes) (tcp_bytes.header_len bytes) (length (tcp_bytes.payload_of bytes))) (with_tcp_header f src dst bytes) (tcp_fault bytes (length bytes)) refl refl
between-network f p src dst bytes = chosen-network (has_message p src bytes) (with_icmp f bytes (icmp_verdict src dst bytes)) f f.network refl refl

arp-network : (f : FrameFields) (w : ArpRepr) → (with_message f w).network ≡ 0 → ⊥
arp-network f (EthernetIpv4 operation source_hardware source_protocol target_hardware target_protocol) e = omega (arith, e)

carried-unread : (f : FrameFields) (t : EthernetProtocol) (bytes : List ℕ) → f ≡ rejected f reason.Read → (with_carried f t bytes).network ≡ 0
    → with_carried f t bytes ≡ rejected f (network_fault t bytes)
carried-unread f ethertype.Arp bytes same network = elim (given (arp_of bytes)) [
  | inl none ↦ rw none refl
  | inr (w, is) ↦ absurd (arp-network f w (rw is at network))
]
carried-unread f ethertype.Ipv4 bytes same network = elim (given (ipv4_of false bytes)) [
  | inl none ↦ rw none refl
  | inr (w, is) ↦
      let next = with_ipv4_header f bytes w in
      let inner = with_payload next (Ipv4 w) (ipv4_payload bytes) in
      let two = chosen-network (ipv4.is_fragment bytes) (with_part next (ipv4_payload bytes)) inner 2 refl (between-network next w.next_header (src_addr_of (Ipv4 w)) (dst_addr_of (Ipv4 w)) (ipv4_payload bytes)) in
      absurd (let no = rw is at network in omega (arith, no, two))
]
carried-unread f ethertype.Ipv6 bytes same network = elim (given (ipv6_of bytes)) [
  | inl none ↦ rw none refl
  | inr (w, is) ↦
      let next = headed_by f bytes (Ipv6 w) in
      let three = between-network next (upper_protocol (Ipv6 w) bytes) (src_addr_of (Ipv6 w)) (dst_addr_of (Ipv6 w)) (upper_payload (Ipv6 w) bytes) in
      absurd (let no = rw is at network in omega (arith, no, three))
]
carried-unread f (ethertype.Unknown n) bytes same network = same

-- the struct of a frame whose packet is not read stores the Ethernet header
pub stores-unread : (frame : List ℕ) (v : EthernetRepr) → ethernet.Reads frame v → (fields_of frame).network ≡ 0 → StoresUnread (fields_of frame) frame v
stores-unread frame v r network =
    let counted = with_captured (length frame) in
    let is = fields_of-is frame ∙ ap counted (frame_headers-linked frame v r) in
    let all = is ∙ ap counted (carried-unread (linked frame v) v.ethertype (drop 14 frame) refl (rw is at network)) in
    rw all (record { fields = refl; payload = record { len = refl; octets = rest-found frame } })
