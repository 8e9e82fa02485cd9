-- The struct of captured bytes, compared with that of the whole frame.
use Rattle.std.proofs.Common.{ℕ, ◌≡◌, ◌∙◌, ◌≤◌, ◌<◌, ◌+◌, ◌==◌, nat_lt, if◌then◌else◌, Bool, true, false, List, length, Option, None, Some, ap, inl, inr, refl, subst, sym, arith}
use Rattle.std.specs.Option.{option_map_or}
use Rattle.ip_wire.specs.Tcp as tcp
use Rattle.ip_wire.specs.TcpRepr.{tcp_of}
use Rattle.ip_wire.specs.Types.{IpAddress, IpProtocol}
use Rattle.ip_wire.specs.Udp as udp
use Rattle.ip_wire.specs.Udp.{udp_of}
use Rattle.ip_wire.specs.declared.IpProtocol.TheVariants as protocol
use Rattle.c_structs.specs.Nothing.{nothing_of}
use Rattle.c_structs.specs.Verdicts.{icmp_verdict}
use Rattle.c_structs.specs.declared.codes.Reason.{Reason}
use Rattle.c_structs.specs.declared.codes.Reason.TheVariants as reason
use Rattle.c_structs.specs.declared.types.Ethernet.{Ethernet}
use Rattle.c_structs.specs.declared.types.FrameFields.{FrameFields}
use Rattle.c_read.specs.Captured.{IsCutOf, after_network, before, begin_of, end_of, network, payload_end, transport_header}
use Rattle.c_read.specs.FrameFields.{after_header, has_message, rejected, rejected_transport, tcp_fault, udp_fault, with_icmp, with_tcp_header, with_transport_by, with_udp_header}

-- equal structs
pub same-of : {n : ℕ} (f g : FrameFields) → f ≡ g → IsCutOf n f g
same-of f g is = inl (inl (record { checksum = inl (ap (λ (h : FrameFields). h.transport_checksum) is); fields = is ∙ ap (λ (h : FrameFields). record g { transport_checksum = h.transport_checksum; payload_captured = h.payload_captured }) (sym is) }))

-- the same of structs that are equal to these
pub cut-as : {n : ℕ} (f g f2 g2 : FrameFields) → f ≡ f2 → g ≡ g2 → IsCutOf n f2 g2 → IsCutOf n f g
cut-as {n} f g f2 g2 a c is = subst (λ h. IsCutOf n h g) (sym a) (subst (λ h. IsCutOf n f2 h) (sym c) is)

-- The header of a transport begins at the payload, has so many bytes without options, and follows all that is kept of
-- these structs.
pub record IsPast (f g : FrameFields) (least : ℕ) : Type 0 where
  pub kept : before transport_header g ≡ record (before transport_header f) { reason = g.reason; payload_offset = g.payload_offset; payload_len = g.payload_len }
  pub begins : g.transport_offset ≡ f.payload_offset
  pub ends : end_of transport_header g ≡ f.payload_offset + least

-- a transport header is cut
pub cut-transport : (n : ℕ) (f g : FrameFields) (least : ℕ) → f ≡ before transport_header f → IsPast f g least → n < f.payload_offset + least
    → IsCutOf n (rejected f reason.HeaderCut) g
cut-transport n f g least fresh past few =
    let first : rejected f reason.HeaderCut ≡ record (before transport_header f) { reason = 8 } = ap (λ (h : FrameFields). rejected h reason.HeaderCut) fresh in
    let last = ap (λ (h : FrameFields). record h { reason = 8; payload_offset = f.payload_offset; payload_len = f.payload_len; payload_captured = f.payload_captured }) past.kept in
    inr (inl (transport_header, record { reason = refl; offset = sym past.begins; missing = subst (λ (k : ℕ). n < k) (sym past.ends) few; fields = first ∙ sym last }))

-- ---- properties of a choice

pub choice-has : {A : Type 0} (P : FrameFields → Type 0) (o : Option A) (g : A → FrameFields) (h : FrameFields) → ((a : A) → P (g a)) → P h → P (option_map_or g o h)
choice-has P None g h a c = c
choice-has P (Some x) g h a c = a x

pub if-has : (P : FrameFields → Type 0) (b : Bool) (g h : FrameFields) → P g → P h → P (if b then g else h)
if-has P true g h a c = a
if-has P false g h a c = c

-- ---- network headers

-- nothing after an Ethernet header is stored yet
abbrev pub IsStart : FrameFields → Type 0
IsStart f = f ≡ record (before network f) { reason = f.reason; payload_offset = f.payload_offset; payload_len = f.payload_len; payload_captured = f.payload_captured }

pub start-network : (f : FrameFields) → IsStart f → f.network ≡ 0
start-network f start = ap (λ (h : FrameFields). h.network) start

pub start-transport : (f : FrameFields) → IsStart f → f.transport ≡ 0
start-transport f start = ap (λ (h : FrameFields). h.transport) start

pub start-rejected : (f : FrameFields) → IsStart f → f.rejected ≡ 0
start-rejected f start = ap (λ (h : FrameFields). h.rejected) start

-- the network header begins at the payload, and has so many bytes or more
pub record IsNext (f g : FrameFields) (len : ℕ) : Type 0 where
  pub ethernet : g.ethernet ≡ f.ethernet
  pub begins : begin_of network g ≡ f.payload_offset
  pub ends : f.payload_offset + len ≤ end_of network g

before-end : (n m k : ℕ) → n < m → m ≤ k → n < k
before-end n m k a c = omega (arith, a, c)

-- a network header is cut
pub cut-network : (n : ℕ) (f g : FrameFields) (len : ℕ) → IsStart f → IsNext f g len → n < f.payload_offset + len → IsCutOf n (rejected f reason.HeaderCut) g
cut-network n f g len start next few =
    let first = ap (λ (h : FrameFields). rejected h reason.HeaderCut) start in
    let last = ap (λ (e : Ethernet). record (nothing_of 0) { ethernet = e; reason = 8; payload_offset = f.payload_offset; payload_len = f.payload_len; payload_captured = f.payload_captured }) next.ethernet in
    inr (inl (network, record { reason = refl; offset = sym next.begins; missing = before-end n (f.payload_offset + len) (end_of network g) few next.ends; fields = first ∙ sym last }))

-- a header that is rejected
pub rejected-next : (f : FrameFields) (why : Reason) (len : ℕ) → f.network ≡ 0 → len ≤ f.payload_len → IsNext f (rejected f why) len
rejected-next f why len none fits = record {
  ethernet = refl;
  begins = ap (λ (k : ℕ). if k == 0 then f.payload_offset else f.network_offset) none;
  ends = subst (λ (k : ℕ). f.payload_offset + len ≤ (if k == 0 then payload_end f else after_network f)) (sym none) (omega (arith, fits));
}

-- what follows a network header keeps it, and begins where its payload does
pub record Follows (f g : FrameFields) : Type 0 where
  pub ethernet : g.ethernet ≡ f.ethernet
  pub network : g.network ≡ f.network
  pub offset : g.network_offset ≡ f.network_offset
  pub begins : after_network g ≡ f.payload_offset

-- nothing follows it
pub nothing-follows : (f : FrameFields) (why : Reason) → f.transport ≡ 0 → f.rejected ≡ 0 → Follows f f × Follows f (rejected f why)
nothing-follows f why transport none =
    let first : after_network f ≡ (if f.rejected == 0 then f.payload_offset else f.transport_offset) =
    ap (λ (k : ℕ). if (if k == 0 then f.rejected else k) == 0 then f.payload_offset else f.transport_offset) transport
    in
    let begins : after_network f ≡ f.payload_offset = first ∙ ap (λ (k : ℕ). if k == 0 then f.payload_offset else f.transport_offset) none in
    (record { ethernet = refl; network = refl; offset = refl; begins = begins }, record { ethernet = refl; network = refl; offset = refl; begins = begins })

-- a header of this length is stored
pub stored-next : (f next g : FrameFields) (len n : ℕ) → Follows next g → (next.network == 0) ≡ false → next.ethernet ≡ f.ethernet
    → next.network_offset ≡ f.payload_offset → next.payload_offset ≡ f.payload_offset + n → len ≤ n → IsNext f g len
stored-next f next g len n is stored link offset after fits =
    let there : (g.network == 0) ≡ false = ap (λ (k : ℕ). k == 0) is.network ∙ stored in
    let end : f.payload_offset + len ≤ after_network g = subst (λ (k : ℕ). f.payload_offset + len ≤ k) (sym (is.begins ∙ after)) (omega (arith, fits)) in
    record {
      ethernet = is.ethernet ∙ link;
      begins = ap (λ (b : Bool). if b then g.payload_offset else g.network_offset) there ∙ is.offset ∙ offset;
      ends = subst (λ (b : Bool). f.payload_offset + len ≤ (if b then payload_end g else after_network g)) (sym there) end;
    }

-- the payload of a packet, parsed or not
pub transport-follows : (f : FrameFields) (p : IpProtocol) (src dst : IpAddress) (bytes : List ℕ) → f.transport ≡ 0 → f.rejected ≡ 0 → Follows f (with_transport_by f p src dst bytes)
transport-follows f protocol.Udp src dst bytes transport none =
    if-has (Follows f) (nat_lt (length bytes) 8) (rejected f reason.TooShort) _ (nothing-follows f reason.TooShort transport none).1
    (choice-has (Follows f) (udp_of src dst false bytes) (λ u. after_header (with_udp_header f src dst bytes) 8 (length (udp.payload_of bytes))) (rejected_transport (with_udp_header f src dst bytes) (udp_fault bytes))
    (λ u. record { ethernet = refl; network = refl; offset = refl; begins = refl }) (record { ethernet = refl; network = refl; offset = refl; begins = refl }))
transport-follows f protocol.Tcp src dst bytes transport none =
    if-has (Follows f) (nat_lt (length bytes) 20) (rejected f reason.TooShort) _ (nothing-follows f reason.TooShort transport none).1
    (choice-has (Follows f) (tcp_of src dst false bytes) (λ u. after_header (with_tcp_header f src dst bytes) (tcp.header_len bytes) (length (tcp.payload_of bytes))) (rejected_transport (with_tcp_header f src dst bytes) (tcp_fault bytes (length bytes)))
    (λ u. record { ethernet = refl; network = refl; offset = refl; begins = refl }) (record { ethernet = refl; network = refl; offset = refl; begins = refl }))
transport-follows f p src dst bytes transport none =
    if-has (Follows f) (has_message p src bytes) (with_icmp f bytes (icmp_verdict src dst bytes)) f (record { ethernet = refl; network = refl; offset = refl; begins = refl }) (nothing-follows f reason.TooShort transport none).0

-- what a transport leaves as it is
abbrev pub KeepsBefore : FrameFields → FrameFields → Type 0
KeepsBefore f g = before transport_header g ≡ record (before transport_header f) { reason = g.reason; payload_offset = g.payload_offset; payload_len = g.payload_len }

pub transport-before : (f : FrameFields) (p : IpProtocol) (src dst : IpAddress) (bytes : List ℕ) → KeepsBefore f (with_transport_by f p src dst bytes)
transport-before f protocol.Udp src dst bytes =
    if-has (KeepsBefore f) (nat_lt (length bytes) 8) (rejected f reason.TooShort) _ refl
    (choice-has (KeepsBefore f) (udp_of src dst false bytes) (λ u. after_header (with_udp_header f src dst bytes) 8 (length (udp.payload_of bytes))) (rejected_transport (with_udp_header f src dst bytes) (udp_fault bytes))
    (λ u. refl) refl)
transport-before f protocol.Tcp src dst bytes =
    if-has (KeepsBefore f) (nat_lt (length bytes) 20) (rejected f reason.TooShort) _ refl
    (choice-has (KeepsBefore f) (tcp_of src dst false bytes) (λ u. after_header (with_tcp_header f src dst bytes) (tcp.header_len bytes) (length (tcp.payload_of bytes))) (rejected_transport (with_tcp_header f src dst bytes) (tcp_fault bytes (length bytes)))
    (λ u. refl) refl)
transport-before f p src dst bytes = if-has (KeepsBefore f) (has_message p src bytes) (with_icmp f bytes (icmp_verdict src dst bytes)) f refl refl
