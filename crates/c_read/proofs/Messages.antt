-- Which frames and packets have the struct of an ICMP message, and what it stores.
use Rattle.std.proofs.Common.{ℕ, ◌≡◌, ◌≢◌, ◌∙◌, ◌≤◌, ◌<◌, ◌-◌, ◌++◌, ◌==◌, inl, inr, ◌+◌, nat_lt, if◌then◌else◌, Bool, true, false, List, Option, None, Some, Result, Ok, Err, drop, length, length-append, replicate, refl, sym, ap, subst, arith}
use Rattle.std.specs.Bool.{⊤}
use Rattle.std.proofs.lemmas.Bool.Decides.{nat_tests}
use Rattle.std.proofs.lemmas.List.{length-drop, length-replicate}
use Rattle.std.specs.Option.{option_map_or}
use Rattle.wire_link.specs.Link.{link_of, link_type_of}
use Rattle.wire_link.specs.declared.link.Link.{Link}
use Rattle.wire_link.specs.declared.link.LinkFault.{LinkFault}
use Rattle.wire_link.specs.declared.link.LinkFault.TheVariants as fault
use Rattle.wire_link.specs.declared.link_type.LinkType.{LinkType}
use Rattle.ip_wire.proofs.EthernetComputed.{ethernet_of-Reads}
use Rattle.ip_wire.proofs.Ipv4Computed.{ipv4_of-Reads}
use Rattle.ip_wire.proofs.Ipv6Computed.{ipv6_of-Reads}
use Rattle.ip_wire.specs.Arp.{arp_of}
use Rattle.ip_wire.specs.Ethernet.{ethernet_of, protocol_of}
use Rattle.ip_wire.specs.Field.{field}
use Rattle.ip_wire.specs.Frame.{ipv4_payload, type_of}
use Rattle.ip_wire.specs.Ip.{dst_addr_of, src_addr_of, version_of}
use Rattle.ip_wire.specs.Ipv4 as ipv4
use Rattle.ip_wire.specs.Ipv4.{ipv4_of}
use Rattle.ip_wire.specs.Ipv6 as ipv6
use Rattle.ip_wire.specs.Ipv6.{ipv6_of}
use Rattle.ip_wire.specs.Tcp as tcp
use Rattle.ip_wire.specs.TcpRepr.{tcp_of}
use Rattle.ip_wire.specs.Types.{ArpRepr, EthernetProtocol, IpAddress, IpProtocol, IpRepr, Ipv4, Ipv4Repr, Ipv6, Ipv6Repr}
use Rattle.ip_wire.specs.Udp as udp
use Rattle.ip_wire.specs.Udp.{udp_of}
use Rattle.ip_wire.specs.declared.ArpRepr.TheVariants.{EthernetIpv4}
use Rattle.ip_wire.specs.declared.EthernetProtocol.TheVariants as ethertype
use Rattle.ip_wire.specs.declared.IpAddress.TheVariants as address
use Rattle.ip_wire.specs.declared.IpProtocol.TheVariants as protocol
use Rattle.wire_icmp.specs.Icmp as icmp
use Rattle.c_structs.specs.Nothing.{no_icmp, nothing_of}
use Rattle.c_structs.specs.Verdicts.{icmp_verdict}
use Rattle.c_structs.specs.declared.codes.Reason.TheVariants as reason
use Rattle.c_structs.specs.declared.types.FrameFields.{FrameFields}
use Rattle.c_read.proofs.CutBytes.{le-true}
use Rattle.c_read.proofs.CutFrame.{captured-cut, captured-packet-cut, cut-carried}
use Rattle.c_read.proofs.FieldsOf.{fields_of-is, packet_fields_of-is, packet_headers-some}
use Rattle.c_read.proofs.StoredFrame.{with_carried-ipv4, with_carried-ipv6}
use Rattle.c_read.proofs.StoredHeaders.{frame_headers-linked, header-there}
use Rattle.c_read.specs.Captured.{IsCutOf, captured_headers, captured_of, captured_packet_headers, captured_packet_of, cut_carried, cut_header, link, network, options, transport_header}
use Rattle.c_read.specs.FrameFields.{after_header, arp_fault, bare_of, fields_of, frame_headers, has_message, ipv4_fault, ipv6_fault, is_icmp, ipv6_chain, packet_fields_of, packet_headers, rejected, rejected_transport, tcp_fault, udp_fault, with_captured, with_carried, with_extended, with_frame, with_icmp, with_ipv4, with_ipv4_header, with_ipv6, with_ipv6_header, with_message, with_packet, with_part, with_payload, with_tcp_header, with_transport_by, with_udp_header}
use Rattle.c_read.specs.Links.{linked_after, linked_by, linked_headers, linked_of, with_linked}
use Rattle.c_read.specs.Messages.{CarriesIcmp, IsIcmp, StoresMessage}
use Rattle.c_read.specs.Stored.{headed, headed_by, linked, upper_payload, upper_protocol}

-- ---- which frames have one

-- the struct has an ICMP header only if its transport is that of ICMP, and then this holds
pub record Tells (Q : Type 0) (g : FrameFields) : Type 0 where
  pub named : g.transport ≡ 3 → Q
  pub none : g.transport ≢ 3 → g.icmp ≡ no_icmp

-- no transport header is stored yet
record IsNew (f : FrameFields) : Type 0 where
  transport : f.transport ≡ 0
  icmp : f.icmp ≡ no_icmp

silent : {Q : Type 0} (g : FrameFields) (n : ℕ) → g.transport ≡ n → n ≢ 3 → g.icmp ≡ no_icmp → Tells Q g
silent g n is not none = record { named = λ e. absurd (not (sym is ∙ e)); none = λ other. none }

new : {Q : Type 0} (f : FrameFields) → IsNew f → Tells Q f
new f n = silent f 0 n.transport (λ e. omega (arith, e)) n.icmp

by-test : {Q : Type 0} (b : Bool) (g h : FrameFields) → (b ≡ true → Tells Q g) → (b ≡ false → Tells Q h) → Tells Q (if b then g else h)
by-test true g h p q = p refl
by-test false g h p q = q refl

by-value : {A Q : Type 0} (o : Option A) (g : A → FrameFields) (h : FrameFields) → ((x : A) → o ≡ Some x → Tells Q (g x)) → Tells Q h → Tells Q (option_map_or g o h)
by-value None g h p q = q
by-value (Some x) g h p q = p x refl

transport-tells : {Q : Type 0} (f : FrameFields) (p : IpProtocol) (src dst : IpAddress) (bytes : List ℕ) → IsNew f → (has_message p src bytes ≡ true → Q)
    → Tells Q (with_transport_by f p src dst bytes)
transport-tells f protocol.Udp src dst bytes n give =
    let next = with_udp_header f src dst bytes in
    by-test (nat_lt (length bytes) 8) (rejected f reason.TooShort) _ (λ short. silent (rejected f reason.TooShort) 0 n.transport (λ e. omega (arith, e)) n.icmp)
    (λ long. by-value (udp_of src dst false bytes) (λ u. after_header next 8 (length (udp.payload_of bytes))) (rejected_transport next (udp_fault bytes))
    (λ u is. silent (after_header next 8 (length (udp.payload_of bytes))) 1 refl (λ e. omega (arith, e)) n.icmp)
    (silent (rejected_transport next (udp_fault bytes)) 0 refl (λ e. omega (arith, e)) n.icmp))
transport-tells f protocol.Tcp src dst bytes n give =
    let next = with_tcp_header f src dst bytes in
    by-test (nat_lt (length bytes) 20) (rejected f reason.TooShort) _ (λ short. silent (rejected f reason.TooShort) 0 n.transport (λ e. omega (arith, e)) n.icmp)
    (λ long. by-value (tcp_of src dst false bytes) (λ u. after_header next (tcp.header_len bytes) (length (tcp.payload_of bytes))) (rejected_transport next (tcp_fault bytes (length bytes)))
    (λ u is. silent (after_header next (tcp.header_len bytes) (length (tcp.payload_of bytes))) 2 refl (λ e. omega (arith, e)) n.icmp)
    (silent (rejected_transport next (tcp_fault bytes (length bytes))) 0 refl (λ e. omega (arith, e)) n.icmp))
transport-tells f p src dst bytes n give =
    by-test (has_message p src bytes) (with_icmp f bytes (icmp_verdict src dst bytes)) f (λ is. record { named = λ e. give is; none = λ other. absurd (other refl) }) (λ other. new f n)

-- the protocol is that of its version
named-ipv4 : (p : IpProtocol) (a bytes : List ℕ) → has_message p (address.Ipv4 a) bytes ≡ true → p ≡ protocol.Icmp
named-ipv4 protocol.Icmp a bytes e = refl
named-ipv4 p a bytes e = absurd (cc)

named-ipv6 : (p : IpProtocol) (a bytes : List ℕ) → has_message p (address.Ipv6 a) bytes ≡ true → p ≡ protocol.Icmpv6
named-ipv6 protocol.Icmpv6 a bytes e = refl
named-ipv6 p a bytes e = absurd (cc)

ipv4-tells : {Q : Type 0} (f : FrameFields) (bytes : List ℕ) → IsNew f → ((w : Ipv4Repr) → IsIcmp bytes (Ipv4 w) (ipv4_payload bytes) → Q) → Tells Q (with_ipv4 f bytes)
ipv4-tells f bytes n give =
    by-value (ipv4_of false bytes) (λ w. let next = with_ipv4_header f bytes w in if ipv4.is_fragment bytes then with_part next (ipv4_payload bytes) else with_payload next (Ipv4 w) (ipv4_payload bytes)) (rejected f (ipv4_fault bytes))
    (λ w is. let next = with_ipv4_header f bytes w in
    let fresh : IsNew next = record { transport = n.transport; icmp = n.icmp } in
    by-test (ipv4.is_fragment bytes) (with_part next (ipv4_payload bytes)) (with_payload next (Ipv4 w) (ipv4_payload bytes))
    (λ part. new (with_part next (ipv4_payload bytes)) (record { transport = n.transport; icmp = n.icmp }))
    (λ whole. transport-tells next w.next_header (src_addr_of (Ipv4 w)) (dst_addr_of (Ipv4 w)) (ipv4_payload bytes) fresh (λ has. give w (record {
      reads = ((ipv4_of-Reads false bytes w).0 is, whole);
      protocol = named-ipv4 w.next_header w.src_addr (ipv4_payload bytes) has;
      payload = refl;
      header = header-there (is_icmp w.next_header (src_addr_of (Ipv4 w))) (length (ipv4_payload bytes)) has;
    }))))
    (silent (rejected f (ipv4_fault bytes)) 0 n.transport (λ e. omega (arith, e)) n.icmp)

ipv6-tells : {Q : Type 0} (f : FrameFields) (bytes : List ℕ) → IsNew f → ((w : Ipv6Repr) → IsIcmp bytes (Ipv6 w) (upper_payload (Ipv6 w) bytes) → Q) → Tells Q (with_ipv6 f bytes)
ipv6-tells f bytes n give =
    by-value (ipv6_of bytes) (λ w. with_extended (with_ipv6_header f bytes w) (src_addr_of (Ipv6 w)) (dst_addr_of (Ipv6 w)) (ipv6.payload_of bytes)) (rejected f (ipv6_fault bytes))
    (λ w is. let p = upper_protocol (Ipv6 w) bytes in
    let payload = upper_payload (Ipv6 w) bytes in
    transport-tells (headed_by f bytes (Ipv6 w)) p (src_addr_of (Ipv6 w)) (dst_addr_of (Ipv6 w)) payload
    (record { transport = n.transport; icmp = n.icmp }) (λ has. give w (record {
      reads = (ipv6_of-Reads bytes w).0 is;
      protocol = named-ipv6 p w.src_addr payload has;
      payload = refl;
      header = header-there (is_icmp p (src_addr_of (Ipv6 w))) (length payload) has;
    })))
    (silent (rejected f (ipv6_fault bytes)) 0 n.transport (λ e. omega (arith, e)) n.icmp)

message-tells : {Q : Type 0} (f : FrameFields) (w : ArpRepr) → IsNew f → Tells Q (with_message f w)
message-tells f (EthernetIpv4 operation source_hardware source_protocol target_hardware target_protocol) n = silent _ 0 n.transport (λ e. omega (arith, e)) n.icmp

carried-tells : {Q : Type 0} (f : FrameFields) (t : EthernetProtocol) (bytes : List ℕ) → IsNew f
    → ((ip : IpRepr) → t ≡ type_of ip → IsIcmp bytes ip (upper_payload ip bytes) → Q) → Tells Q (with_carried f t bytes)
carried-tells f ethertype.Arp bytes n give =
    by-value (arp_of bytes) (with_message f) (rejected f (arp_fault bytes)) (λ w is. message-tells f w n) (silent (rejected f (arp_fault bytes)) 0 n.transport (λ e. omega (arith, e)) n.icmp)
carried-tells f ethertype.Ipv4 bytes n give = ipv4-tells f bytes n (λ w is. give (Ipv4 w) refl is)
carried-tells f ethertype.Ipv6 bytes n give = ipv6-tells f bytes n (λ w is. give (Ipv6 w) refl is)
carried-tells f (ethertype.Unknown k) bytes n give = new f n

-- the frame carries a message
abbrev pub Carries : List ℕ → Type 0
Carries frame = (ip : IpRepr) × CarriesIcmp frame ip (upper_payload ip (drop 14 frame))

frame-headers : (frame : List ℕ) → Tells (Carries frame) (frame_headers frame)
unfolding frame_headers
frame-headers frame =
    by-value (ethernet_of frame) (λ v. with_frame (nothing_of (length frame)) v (drop 14 frame)) (nothing_of (length frame))
    (λ v is. carried-tells (linked frame v) v.ethertype (drop 14 frame) (record { transport = refl; icmp = refl })
    (λ ip type message. (ip, (v, (ethernet_of-Reads frame v).0 is, type, message))))
    (new (nothing_of (length frame)) (record { transport = refl; icmp = refl }))

-- the number of captured bytes tells nothing
counted : {Q : Type 0} (n : ℕ) (f : FrameFields) → Tells Q f → Tells Q (with_captured n f)
counted n f t = record { named = t.named; none = t.none }

pub frame-tells : (frame : List ℕ) → Tells (Carries frame) (fields_of frame)
unfolding fields_of
frame-tells frame = counted (length frame) (frame_headers frame) (frame-headers frame)

-- the bytes are a packet with a message
abbrev pub HasIcmp : List ℕ → Type 0
HasIcmp bytes = (ip : IpRepr) × IsIcmp bytes ip (upper_payload ip bytes)

packet-header : (bytes : List ℕ) → Tells (HasIcmp bytes) (packet_headers bytes)
unfolding packet_headers
packet-header bytes =
    let f = bare_of (length bytes) in
    let fresh : IsNew f = record { transport = refl; icmp = refl } in
    by-test (nat_lt (length bytes) 1) (nothing_of (length bytes)) (with_packet f bytes) (λ short. new (nothing_of (length bytes)) (record { transport = refl; icmp = refl }))
    (λ long. by-test (field bytes 0 4 == 4) (with_ipv4 f bytes) _ (λ four. ipv4-tells f bytes fresh (λ w is. (Ipv4 w, is)))
    (λ not. by-test (field bytes 0 4 == 6) (with_ipv6 f bytes) (rejected f reason.BadVersion) (λ six. ipv6-tells f bytes fresh (λ w is. (Ipv6 w, is)))
    (λ other. silent (rejected f reason.BadVersion) 0 refl (λ e. omega (arith, e)) refl)))

pub packet-tells : (bytes : List ℕ) → Tells (HasIcmp bytes) (packet_fields_of bytes)
unfolding packet_fields_of
packet-tells bytes = counted (length bytes) (packet_headers bytes) (packet-header bytes)

-- ---- of captured bytes, by the whole frame

kept : {Q : Type 0} (f g : FrameFields) → f.transport ≡ g.transport → f.icmp ≡ g.icmp → Tells Q g → Tells Q f
kept f g transport icmp t = record { named = λ e. t.named (sym transport ∙ e); none = λ other. icmp ∙ t.none (λ e. other (transport ∙ e)) }

cut-tells : {Q : Type 0} {n : ℕ} (f g : FrameFields) → IsCutOf n f g → Tells Q g → Tells Q f
cut-tells f g (inl (inl h)) t = kept f g (ap (λ (k : FrameFields). k.transport) h.fields) (ap (λ (k : FrameFields). k.icmp) h.fields) t
cut-tells f g (inl (inr l)) t = silent f 0 (ap (λ (k : FrameFields). k.transport) l.fields) (λ e. omega (arith, e)) (ap (λ (k : FrameFields). k.icmp) l.fields)
cut-tells f g (inr (inr (inr l))) t = kept f g (ap (λ (k : FrameFields). k.transport) l.fields) (ap (λ (k : FrameFields). k.icmp) l.fields) t
cut-tells f g (inr (inr (inl at))) t = silent f 0 (ap (λ (k : FrameFields). k.transport) at.fields) (λ e. omega (arith, e)) (ap (λ (k : FrameFields). k.icmp) at.fields)
cut-tells f g (inr (inl (link, at))) t = silent f 0 (ap (λ (k : FrameFields). k.transport) at.fields) (λ e. omega (arith, e)) (ap (λ (k : FrameFields). k.icmp) at.fields)
cut-tells f g (inr (inl (network, at))) t = silent f 0 (ap (λ (k : FrameFields). k.transport) at.fields) (λ e. omega (arith, e)) (ap (λ (k : FrameFields). k.icmp) at.fields)
cut-tells f g (inr (inl (transport_header, at))) t = silent f 0 (ap (λ (k : FrameFields). k.transport) at.fields) (λ e. omega (arith, e)) (ap (λ (k : FrameFields). k.icmp) at.fields)
cut-tells f g (inr (inl (options, at))) t = silent f 0 (ap (λ (k : FrameFields). k.transport) at.fields) (λ e. omega (arith, e)) (ap (λ (k : FrameFields). k.icmp) at.fields)

pub captured-tells : (bytes rest : List ℕ) → Tells (Carries (bytes ++ rest)) (captured_of bytes (length rest))
unfolding captured_of
captured-tells bytes rest =
    counted (length bytes) (captured_headers bytes (length rest)) (cut-tells _ _ (captured-cut bytes rest) (frame-headers (bytes ++ rest)))

pub captured-packet-tells : (bytes rest : List ℕ) → Tells (HasIcmp (bytes ++ rest)) (captured_packet_of bytes (length rest))
unfolding captured_packet_of
captured-packet-tells bytes rest =
    counted (length bytes) (captured_packet_headers bytes (length rest)) (cut-tells _ _ (captured-packet-cut bytes rest) (packet-header (bytes ++ rest)))

lt-is : (m n : ℕ) → nat_lt m n ≡ true → m < n
lt-is m n e = grind (arith, nat_tests)

-- as many bytes as are missing
pub padding-len : (n : ℕ) → length {A = ℕ} (replicate n 0) ≡ n
padding-len n = length-replicate {A = ℕ} n 0

after-tells : (len : ℕ) (bytes : List ℕ) (t : LinkType) (r : Result Link LinkFault) → Tells ⊤ (linked_after (nothing_of len) bytes t r)
after-tells len bytes t (Ok found) =
    let f = with_linked (nothing_of len) t found bytes in
    let rest = drop found.offset bytes in
    let type = protocol_of found.ethertype in
    let fresh : IsNew f = record { transport = refl; icmp = refl } in
    let missing : List ℕ = replicate (f.payload_len - length rest) 0 in
    by-test (nat_lt (length rest) f.payload_len) (cut_carried f type rest) (with_carried f type rest)
    (λ few. let all : f.payload_len ≡ length (rest ++ missing) =
    let less : length rest < f.payload_len = lt-is (length rest) f.payload_len few in
    let some = length-append rest missing in
    let count = padding-len (f.payload_len - length rest) in
    omega (arith, less, some, count)
    in
    cut-tells _ _ (cut-carried (f.payload_offset + length rest) f type rest missing refl all refl) (carried-tells f type (rest ++ missing) fresh (λ ip same is. tt)))
    (λ whole. carried-tells f type rest fresh (λ ip same is. tt))
after-tells len bytes t (Err (fault.TooShort least)) = new (cut_header (nothing_of len) least) (record { transport = refl; icmp = refl })
after-tells len bytes t (Err fault.BadVersion) = new (rejected (nothing_of len) reason.BadVersion) (record { transport = refl; icmp = refl })

linked-headers : (number : ℕ) (bytes : List ℕ) (len : ℕ) → Tells ⊤ (linked_headers number bytes len)
unfolding linked_headers
linked-headers number bytes len =
    by-value (link_type_of number) (linked_by (nothing_of len) bytes) (rejected (nothing_of len) reason.UnknownLink) (λ t is. after-tells len bytes t (link_of t bytes))
    (new (rejected (nothing_of len) reason.UnknownLink) (record { transport = refl; icmp = refl }))

pub linked-tells : (number : ℕ) (bytes : List ℕ) (len : ℕ) → Tells ⊤ (linked_of number bytes len)
unfolding linked_of
linked-tells number bytes len = counted (length bytes) (linked_headers number bytes len) (linked-headers number bytes len)

-- ---- what is stored of a message

-- the payload of a packet with ICMP
payload-stored : (f : FrameFields) (p : IpProtocol) (ip : IpRepr) (m : List ℕ) → p ≡ icmp.protocol_of (version_of ip) → 8 ≤ length m
    → with_transport_by f p (src_addr_of ip) (dst_addr_of ip) m ≡ with_icmp f m (icmp_verdict (src_addr_of ip) (dst_addr_of ip) m)
payload-stored f p (Ipv4 w) m is h = rw (is, le-true 8 (length m) h) refl
payload-stored f p (Ipv6 w) m is h = rw (is, le-true 8 (length m) h) refl

carried-stored : (f : FrameFields) (t : EthernetProtocol) (bytes : List ℕ) (ip : IpRepr) (m : List ℕ) → t ≡ type_of ip → IsIcmp bytes ip m
    → with_carried f t bytes ≡ with_icmp (headed_by f bytes ip) m (icmp_verdict (src_addr_of ip) (dst_addr_of ip) m)
carried-stored f t bytes (Ipv4 w) m type is =
    let (header, whole) = is.reads in
    with_carried-ipv4 f t bytes w type ((ipv4_of-Reads false bytes w).1 header) whole ∙ ap (with_payload (headed_by f bytes (Ipv4 w)) (Ipv4 w)) (sym is.payload)
    ∙ payload-stored (headed_by f bytes (Ipv4 w)) w.next_header (Ipv4 w) m is.protocol is.header
carried-stored f t bytes (Ipv6 w) m type is =
    let p = upper_protocol (Ipv6 w) bytes in
    with_carried-ipv6 f t bytes w type ((ipv6_of-Reads bytes w).1 is.reads)
    ∙ ap (with_transport_by (headed_by f bytes (Ipv6 w)) p (src_addr_of (Ipv6 w)) (dst_addr_of (Ipv6 w))) (sym is.payload)
    ∙ payload-stored (headed_by f bytes (Ipv6 w)) p (Ipv6 w) m is.protocol is.header

headed-len : (f : FrameFields) (bytes : List ℕ) (ip : IpRepr) → (headed_by f bytes ip).payload_len ≡ length (upper_payload ip bytes)
headed-len f bytes (Ipv4 w) = refl
headed-len f bytes (Ipv6 w) = sym (length-drop (ipv6_chain bytes).len (ipv6.payload_of bytes))

stores : (n : ℕ) (f g : FrameFields) (bytes : List ℕ) (ip : IpRepr) (m : List ℕ) → IsIcmp bytes ip m
    → g ≡ with_captured n (with_icmp (headed_by f bytes ip) m (icmp_verdict (src_addr_of ip) (dst_addr_of ip) m)) → StoresMessage (headed_by f bytes ip) ip m g
stores n f g bytes ip m is fields =
    let len = headed-len f bytes ip ∙ ap length (sym is.payload) in
    let header = is.header in
    subst (λ (g : FrameFields). StoresMessage (headed_by f bytes ip) ip m g) (sym fields) (record {
      transport = refl;
      transport_offset = refl;
      payload_offset = refl;
      payload_len = omega (arith, len, header);
      checksum = refl;
      icmp = refl;
      others = refl;
    })

pub frame-stores : (frame : List ℕ) (ip : IpRepr) (m : List ℕ) (carries : CarriesIcmp frame ip m) → StoresMessage (headed frame carries.0 ip) ip m (fields_of frame)
frame-stores frame ip m (v, reads, type, is) =
    stores (length frame) (linked frame v) (fields_of frame) (drop 14 frame) ip m is
    (fields_of-is frame ∙ ap (with_captured (length frame)) (frame_headers-linked frame v reads ∙ carried-stored (linked frame v) v.ethertype (drop 14 frame) ip m type is))

-- a packet by itself is stored by its version
packet-stored : (f : FrameFields) (bytes : List ℕ) (ip : IpRepr) (m : List ℕ) → IsIcmp bytes ip m → (1 ≤ length bytes) × (with_packet f bytes ≡ with_carried f (type_of ip) bytes)
packet-stored f bytes (Ipv4 w) m is =
    let (header, whole) = is.reads in
    let least = header.lengths.least in
    (omega (arith, least), rw header.version refl)
packet-stored f bytes (Ipv6 w) m is = let least = is.reads.lengths in (omega (arith, least), rw is.reads.version refl)

pub packet-stores : (bytes : List ℕ) (ip : IpRepr) (m : List ℕ) → IsIcmp bytes ip m → StoresMessage (headed_by (bare_of (length bytes)) bytes ip) ip m (packet_fields_of bytes)
packet-stores bytes ip m is =
    let f = bare_of (length bytes) in
    let (some, version) = packet-stored f bytes ip m is in
    stores (length bytes) f (packet_fields_of bytes) bytes ip m is
    (packet_fields_of-is bytes ∙ ap (with_captured (length bytes)) (packet_headers-some bytes some ∙ version ∙ carried-stored f (type_of ip) bytes ip m refl is))
