-- The TCP header that the struct of a frame names is in the frame, and its options are well-formed.
use Rattle.std.proofs.Common.{ℕ, ◌≡◌, ◌∙◌, ◌≤◌, ◌+◌, ◌*◌, ◌++◌, nat_lt, if◌then◌else◌, Bool, true, false, List, Option, None, Some, ap, arith, drop, length, refl, slice_range, sym, take}
use Rattle.std.proofs.lemmas.Grind.{common_steps}
use Rattle.std.proofs.lemmas.List.{take-append-drop}
use Rattle.std.specs.Option.{option_map_or}
use Rattle.ip_wire.proofs.Ipv4Computed.{ipv4_of-Reads}
use Rattle.ip_wire.proofs.Ipv6Computed.{ipv6_of-Reads}
use Rattle.ip_wire.proofs.TcpComputed.{tcp_of-Reads}
use Rattle.ip_wire.specs.Arp.{arp_of}
use Rattle.ip_wire.specs.Ethernet.{ethernet_of}
use Rattle.ip_wire.specs.Field.{field}
use Rattle.ip_wire.specs.Frame.{ipv4_payload}
use Rattle.ip_wire.specs.Ip.{dst_addr_of, src_addr_of}
use Rattle.ip_wire.specs.Ipv4 as ipv4
use Rattle.ip_wire.specs.Ipv4.{ipv4_of}
use Rattle.ip_wire.specs.Ipv6 as ipv6
use Rattle.ip_wire.specs.Ipv6.{ipv6_of}
use Rattle.ip_wire.specs.Tcp as tcp
use Rattle.ip_wire.specs.Tcp.{HasLengths, header_len, options_of}
use Rattle.ip_wire.specs.TcpItems.{IsOptionList, Item}
use Rattle.ip_wire.specs.TcpRepr.{tcp_of}
use Rattle.ip_wire.specs.Types.{ArpRepr, EthernetProtocol, EthernetRepr, IpAddress, IpProtocol, Ipv4, Ipv6}
use Rattle.ip_wire.specs.Udp as udp
use Rattle.ip_wire.specs.Udp.{udp_of}
use Rattle.ip_wire.specs.declared.ArpRepr.TheVariants.{EthernetIpv4}
use Rattle.ip_wire.specs.declared.EthernetProtocol.TheVariants as ethertype
use Rattle.ip_wire.specs.declared.IpProtocol.TheVariants as protocol
use Rattle.wire_checksum.proofs.Parts.{slice_range-take}
use Rattle.c_structs.specs.Nothing.{nothing_of}
use Rattle.c_structs.specs.Verdicts.{icmp_verdict}
use Rattle.c_structs.specs.declared.codes.Reason.TheVariants as reason
use Rattle.c_structs.specs.declared.types.FrameFields.{FrameFields}
use Rattle.c_read.proofs.CutBytes.{field-front}
use Rattle.c_read.proofs.StoredHeaders.{is-headed}
use Rattle.c_read.specs.FrameFields.{after_header, fields_of, frame_headers, rejected, rejected_transport, tcp_fault, udp_fault, with_carried, with_extended, with_frame, with_ipv4_header, with_ipv6_header, with_message, with_part, with_payload, with_tcp_header, with_transport_by, with_udp_header, has_message, with_icmp}
use Rattle.c_read.specs.FrameOptions.{header_in}
use Rattle.c_read.specs.Stored.{Locates, headed, linked, upper_payload, upper_protocol}
use Rattle.c_read.specs.TcpOptions.{ReadsItems}

-- ---- the header of a segment

-- the header by itself has the same options
header-items : (bytes : List ℕ) (items : List Item) (tail : List ℕ) → HasLengths bytes → IsOptionList (options_of bytes) items tail
    → ReadsItems (take (header_len bytes) bytes) items
header-items bytes items tail h list =
    let n : ℕ = header_len bytes in
    let first = h.header in
    let whole = h.whole in
    let size : length (take n bytes) ≡ n = grind (arith, common_steps) in
    let all : take n bytes ++ drop n bytes ≡ bytes = take-append-drop n bytes in
    let len : header_len (take n bytes) ≡ n =
    ap (λ (k : ℕ). 4 * k) (sym (field-front (take n bytes) (drop n bytes) 96 4 (omega (arith, size, first))) ∙ ap (λ (l : List ℕ). field l 96 4) all) in
    let options : options_of (take n bytes) ≡ options_of bytes = ap (slice_range (take n bytes) 20) len ∙ slice_range-take bytes 20 n n first (omega arith) in
    record {
      lengths = record { least = omega (arith, size, first); header = omega (arith, len, first); whole = omega (arith, len, size) };
      tail = tail;
      list = rw options list;
    }

-- the header is in the frame, up to the payload, and has well-formed options
pub record HasHeader (f : FrameFields) (frame : List ℕ) : Type 0 where
  pub ends : f.payload_offset ≡ f.transport_offset + f.tcp.header_len
  pub room : f.payload_offset ≤ length frame
  pub items : List Item
  pub reads : ReadsItems (header_in f frame) items

-- of a segment that begins here in the frame
segment-header : (f : FrameFields) (frame bytes : List ℕ) (o n : ℕ) (items : List Item) (tail : List ℕ) → n ≡ length bytes → slice_range frame o (o + n) ≡ bytes
    → f.transport_offset ≡ o → f.tcp.header_len ≡ header_len bytes → f.payload_offset ≡ o + header_len bytes → HasLengths bytes → IsOptionList (options_of bytes) items tail
    → HasHeader f frame
segment-header f frame bytes o n items tail len at offset header end h list =
    let size : ℕ = header_len bytes in
    let whole : size ≤ length bytes = h.whole in
    let ends : o + n ≤ length frame = grind (arith, common_steps) in
    let part : slice_range frame o (o + size) ≡ take size bytes = grind (arith, common_steps) in
    let reads : ReadsItems (slice_range frame o (o + size)) items = rw part (header-items bytes items tail h list) in
    record {
      ends = rw (offset, header) end;
      room = rw end (omega (arith, ends, len, whole));
      items = items;
      reads = rw (offset, header) reads;
    }

-- ---- the struct of a frame

-- a TCP header that the struct names is in the frame
record Places (f : FrameFields) (frame : List ℕ) : Type 0 where
  header : f.transport ≡ 2 → HasHeader f frame

other : (f : FrameFields) (frame : List ℕ) (n : ℕ) → f.transport ≡ n → (n ≡ 2 → ⊥) → Places f frame
other f frame n is not = record { header = λ tcp. absurd (not (sym is ∙ tcp)) }

no-header : (f : FrameFields) (frame : List ℕ) → f.transport ≡ 0 → Places f frame
no-header f frame is = other f frame 0 is (λ e. absurd (omega (arith, e)))

by-test : (b : Bool) (f g : FrameFields) (frame : List ℕ) → Places f frame → Places g frame → Places (if b then f else g) frame
by-test true f g frame a c = a
by-test false f g frame a c = c

by-value : {A : Type 0} (o : Option A) (g : A → FrameFields) (h : FrameFields) (frame : List ℕ) → ((x : A) → o ≡ Some x → Places (g x) frame) → Places h frame
    → Places (option_map_or g o h) frame
by-value None g h frame a c = c
by-value (Some x) g h frame a c = a x refl

transport-placed : (f : FrameFields) (p : IpProtocol) (src dst : IpAddress) (frame bytes : List ℕ) → f.transport ≡ 0 → Locates f frame bytes
    → Places (with_transport_by f p src dst bytes) frame
transport-placed f protocol.Udp src dst frame bytes new at =
    let next = with_udp_header f src dst bytes in
    by-test (nat_lt (length bytes) 8) (rejected f reason.TooShort) _ frame (no-header (rejected f reason.TooShort) frame new)
    (by-value (udp_of src dst false bytes) (λ u. after_header next 8 (length (udp.payload_of bytes))) (rejected_transport next (udp_fault bytes)) frame
    (λ u is. other (after_header next 8 (length (udp.payload_of bytes))) frame 1 refl (λ e. absurd (omega (arith, e))))
    (no-header (rejected_transport next (udp_fault bytes)) frame refl))
transport-placed f protocol.Tcp src dst frame bytes new at =
    let next = with_tcp_header f src dst bytes in
    by-test (nat_lt (length bytes) 20) (rejected f reason.TooShort) _ frame (no-header (rejected f reason.TooShort) frame new)
    (by-value (tcp_of src dst false bytes) (λ u. after_header next (tcp.header_len bytes) (length (tcp.payload_of bytes))) (rejected_transport next (tcp_fault bytes (length bytes))) frame
    (λ u is. let reads = (tcp_of-Reads src dst false bytes u).0 is in
    record { header = λ e. segment-header _ frame bytes f.payload_offset f.payload_len reads.options.items reads.options.tail at.len at.octets refl refl refl reads.lengths reads.options.list })
    (no-header (rejected_transport next (tcp_fault bytes (length bytes))) frame refl))
transport-placed f p src dst frame bytes new at =
    let next = with_icmp f bytes (icmp_verdict src dst bytes) in
    by-test (has_message p src bytes) next f frame (other next frame 3 refl (λ e. absurd (omega (arith, e)))) (no-header f frame new)

message-placed : (f : FrameFields) (w : ArpRepr) (frame : List ℕ) → f.transport ≡ 0 → Places (with_message f w) frame
message-placed f (EthernetIpv4 operation source_hardware source_protocol target_hardware target_protocol) frame new = no-header _ frame new

carried-placed : (frame : List ℕ) (v : EthernetRepr) (t : EthernetProtocol) → Places (with_carried (linked frame v) t (drop 14 frame)) frame
carried-placed frame v ethertype.Arp =
    let f = linked frame v in
    by-value (arp_of (drop 14 frame)) (with_message f) _ frame (λ w is. message-placed f w frame refl) (no-header _ frame refl)
carried-placed frame v ethertype.Ipv4 =
    let f = linked frame v in
    let bytes = drop 14 frame in
    by-value (ipv4_of false bytes) (λ w. let next = with_ipv4_header f bytes w in if ipv4.is_fragment bytes then with_part next (ipv4_payload bytes) else with_payload next (Ipv4 w) (ipv4_payload bytes)) _ frame
    (λ w is. let next = with_ipv4_header f bytes w in
    let h = is-headed frame v (Ipv4 w) ((ipv4_of-Reads false bytes w).0 is) in
    by-test (ipv4.is_fragment bytes) (with_part next (ipv4_payload bytes)) (with_payload next (Ipv4 w) (ipv4_payload bytes)) frame
    (no-header (with_part next (ipv4_payload bytes)) frame h.transport)
    (transport-placed next w.next_header (src_addr_of (Ipv4 w)) (dst_addr_of (Ipv4 w)) frame (ipv4_payload bytes) h.transport h.payload))
    (no-header _ frame refl)
carried-placed frame v ethertype.Ipv6 =
    let f = linked frame v in
    let bytes = drop 14 frame in
    by-value (ipv6_of bytes) (λ w. with_extended (with_ipv6_header f bytes w) (src_addr_of (Ipv6 w)) (dst_addr_of (Ipv6 w)) (ipv6.payload_of bytes)) _ frame
    (λ w is. let h = is-headed frame v (Ipv6 w) ((ipv6_of-Reads bytes w).0 is) in
    transport-placed (headed frame v (Ipv6 w)) (upper_protocol (Ipv6 w) bytes) (src_addr_of (Ipv6 w)) (dst_addr_of (Ipv6 w)) frame (upper_payload (Ipv6 w) bytes) h.transport h.payload)
    (no-header _ frame refl)
carried-placed frame v (ethertype.Unknown n) = no-header (linked frame v) frame refl

headers-placed : (frame : List ℕ) → Places (frame_headers frame) frame
unfolding frame_headers
headers-placed frame =
    by-value (ethernet_of frame) (λ v. with_frame (nothing_of (length frame)) v (drop 14 frame)) (nothing_of (length frame)) frame
    (λ v is. carried-placed frame v v.ethertype) (no-header (nothing_of (length frame)) frame refl)

frame-placed : (frame : List ℕ) → Places (fields_of frame) frame
unfolding fields_of
frame-placed frame = record {
  header = λ tcp. let h = (headers-placed frame).header tcp in record { ends = h.ends; room = h.room; items = h.items; reads = h.reads };
}

-- the TCP header that was read
pub header-found : (frame : List ℕ) (f : FrameFields) → f ≡ fields_of frame → f.transport ≡ 2 → HasHeader f frame
header-found frame f is tcp = rw is ((frame-placed frame).header (rw is at tcp))
