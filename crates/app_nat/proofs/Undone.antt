-- A translation that is undone.
use Rattle.std.proofs.Common.{ℕ, ◌≡◌, ◌≢◌, ◌≤◌, ◌<◌, ◌-◌, ◌++◌, List, ◌∷◌, length, drop, take, slice_index, refl, sym, ap, subst, ◌∙◌, arith}
use Rattle.std.proofs.lemmas.List.{drop_at, length-take-le, take-append-drop, take_at}
use Rattle.ip_wire.proofs.ByteLists.{AreBytes-drop, AreBytes-slice_range}
use Rattle.ip_wire.proofs.Spelled.{AreBytes}
use Rattle.ip_wire.specs.Field.{field, with_field, with_range, word_at}
use Rattle.ip_wire.specs.Frame.{ipv4_payload}
use Rattle.ip_wire.specs.Ipv4 as ipv4
use Rattle.ip_wire.specs.Protocol.{protocol_of}
use Rattle.ip_wire.specs.WordSum.{sum_of_bytes, updated}
use Rattle.ip_wire.specs.TcpRepr.{TcpHeader}
use Rattle.ip_wire.specs.Types.{IpProtocol, Ipv4Repr, UdpRepr}
use Rattle.ip_wire.specs.declared.IpProtocol.TheVariants as protocol
use Rattle.ip_wire.proofs.Cells.{cells, cells-all, cells-drop, word_high, word_low}
use Rattle.app_nat.proofs.EchoEnds.{echo-back}
use Rattle.app_nat.proofs.Echoes.{reply-ident, request-ident}
use Rattle.app_nat.proofs.Headers.{addressed, keeps}
use Rattle.app_edit.proofs.Payloads.{range-len, range-past, range-same, range-twice}
use Rattle.app_nat.proofs.Residues.{sum-fits, updated-back}
use Rattle.app_nat.proofs.TcpEnds.{tcp-back}
use Rattle.app_nat.proofs.Translates.{addr-read, carried, ended-len}
use Rattle.app_edit.proofs.OtherPayloads.{front-len, inner-payload, past-front, payload-len, same-inner}
use Rattle.app_nat.proofs.UdpEnds.{udp-back}
use Rattle.app_nat.proofs.Words.{high-spelled, low-spelled, spelled-fits, spelled-word, word}
use Rattle.app_nat.specs.Nat.{CarriesPorts, HasUsualChecksums, HasUsualSum, IsTranslated, ReadsPorts, Transport, addr_at, addr_of, datagram, port_bit, port_of, reply, request, segment, translated_packet, with_address, with_end}
use Rattle.app_edit.specs.declared.side.Side.{Side}
use Rattle.app_edit.specs.declared.side.Side.TheVariants.{Source, Destination}

-- ---- the address

-- the bytes before the checksum, the checksum, both addresses and the rest
abbrev header : List ℕ → ℕ → List ℕ → List ℕ → List ℕ → List ℕ
header before s src dst rest = cells 10 before ++ word s (cells 4 src ++ (cells 4 dst ++ rest))

put-checksum : (s x : ℕ) (before src dst rest : List ℕ) → with_field (header before s src dst rest) 80 16 x ≡ header before x src dst rest
put-checksum s x before src dst rest =
    let n = word_at (header before s src dst rest) 80 16 in
    λ i. cells 10 before ++ (word_high n x i ∷ word_low n x i ∷ (cells 4 src ++ (cells 4 dst ++ rest)))

put-src : (s : ℕ) (before src dst rest new : List ℕ) → s < 65536
    → with_address Source (cells 4 new) (header before s src dst rest) ≡ header before (updated s (sum_of_bytes (cells 4 src)) (sum_of_bytes (cells 4 new))) new dst rest
put-src s before src dst rest new fits =
    ap (λ (c : ℕ). with_field (header before s new dst rest) 80 16 (updated c (sum_of_bytes (cells 4 src)) (sum_of_bytes (cells 4 new)))) (spelled-word s fits)
    ∙ put-checksum s (updated s (sum_of_bytes (cells 4 src)) (sum_of_bytes (cells 4 new))) before new dst rest

put-dst : (s : ℕ) (before src dst rest new : List ℕ) → s < 65536
    → with_address Destination (cells 4 new) (header before s src dst rest) ≡ header before (updated s (sum_of_bytes (cells 4 dst)) (sum_of_bytes (cells 4 new))) src new rest
put-dst s before src dst rest new fits =
    ap (λ (c : ℕ). with_field (header before s src new rest) 80 16 (updated c (sum_of_bytes (cells 4 dst)) (sum_of_bytes (cells 4 new)))) (spelled-word s fits)
    ∙ put-checksum s (updated s (sum_of_bytes (cells 4 dst)) (sum_of_bytes (cells 4 new))) before src new rest

fits-updated : (s old new : ℕ) → updated s old new < 65536
fits-updated s old new = omega arith

back-header : (side : Side) (s : ℕ) (before src dst rest new : List ℕ) → s < 65535
    → with_address side (addr_at side (header before s src dst rest)) (with_address side (cells 4 new) (header before s src dst rest)) ≡ header before s src dst rest
back-header Source s before src dst rest new usual =
    let o = sum_of_bytes (cells 4 src) in
    let n = sum_of_bytes (cells 4 new) in
    ap (with_address Source (cells 4 src)) (put-src s before src dst rest new (omega (arith, usual)))
    ∙ put-src (updated s o n) before new dst rest src (fits-updated s o n)
    ∙ ap (λ (k : ℕ). header before k src dst rest) (updated-back s o n usual (sum-fits (cells 4 src)) (sum-fits (cells 4 new)))
back-header Destination s before src dst rest new usual =
    let o = sum_of_bytes (cells 4 dst) in
    let n = sum_of_bytes (cells 4 new) in
    ap (with_address Destination (cells 4 dst)) (put-dst s before src dst rest new (omega (arith, usual)))
    ∙ put-dst (updated s o n) before src new rest dst (fits-updated s o n)
    ∙ ap (λ (k : ℕ). header before k src dst rest) (updated-back s o n usual (sum-fits (cells 4 dst)) (sum-fits (cells 4 new)))

indexed : (l : List ℕ) → 20 ≤ length l
    → l ≡ cells 10 l ++ (slice_index l 10 ∷ slice_index l 11 ∷ (cells 4 (drop 12 l) ++ (cells 4 (drop 16 l) ++ drop 20 l)))
indexed l room =
    let P : List ℕ → Type 0 = λ m. m ≡ cells 10 m ++ (slice_index m 10 ∷ slice_index m 11 ∷ (cells 4 (drop 12 m) ++ (cells 4 (drop 16 m) ++ drop 20 m))) in
    subst P (sym (cells-drop 20 l room)) refl

header-of : (l : List ℕ) → AreBytes l → 20 ≤ length l → l ≡ header l (field l 80 16) (drop 12 l) (drop 16 l) (drop 20 l)
header-of l are room =
    let g = slice_index l 10 in
    let h = slice_index l 11 in
    indexed l room
    ∙ (λ i. cells 10 l ++ (high-spelled g h (are 10) (are 11) i ∷ low-spelled g h (are 10) (are 11) i ∷ (cells 4 (drop 12 l) ++ (cells 4 (drop 16 l) ++ drop 20 l))))

address-back : (side : Side) (l addr : List ℕ) → AreBytes l → 20 ≤ length l → length addr ≡ 4 → field l 80 16 ≢ 65535
    → with_address side (addr_at side l) (with_address side addr l) ≡ l
address-back side l addr are room four usual =
    let fits : field l 80 16 < 65536 = spelled-fits (slice_index l 10) (slice_index l 11) in
    let P : List ℕ → List ℕ → Type 0 = λ m a. with_address side (addr_at side m) (with_address side a m) ≡ m in
    subst (λ (m : List ℕ). P m addr) (sym (header-of l are room))
    (subst (λ (a : List ℕ). P (header l (field l 80 16) (drop 12 l) (drop 16 l) (drop 20 l)) a) (sym (cells-all 4 addr four))
    (back-header side (field l 80 16) l (drop 12 l) (drop 16 l) (drop 20 l) addr (omega (arith, usual, fits))))

-- ---- the packet

-- payload and address may be written in either order
either_order : (side : Side) (bytes addr part : List ℕ) (h n : ℕ) → 20 ≤ length bytes → 20 ≤ h → 20 ≤ n → length addr ≡ 4
    → with_range (with_address side addr bytes) h n part ≡ with_address side addr (with_range bytes h n part)
either_order side bytes addr part h n room least most four =
    let F = take 20 bytes in
    let R = drop 20 bytes in
    let W = with_range R (h - 20) (n - 20) part in
    let len = front-len bytes room in
    let before = addressed side F R addr len four in
    let after = addressed side F W addr len four in
    ap (λ (l : List ℕ). with_range (with_address side addr l) h n part) (sym (take-append-drop 20 bytes))
    ∙ ap (λ (l : List ℕ). with_range l h n part) before.apart
    ∙ range-past (with_address side addr F) R part h n before.long least most
    ∙ sym after.apart
    ∙ ap (with_address side addr) (sym (past-front bytes part h n room least most))

-- the port of a UDP packet and of a TCP segment is the port in the bytes
udp-port : (u : UdpRepr) (payload : List ℕ) (v : Ipv4Repr) (side : Side) (bytes : List ℕ) → ReadsPorts v bytes (datagram u payload)
    → port_of side (datagram u payload) ≡ field bytes (port_bit side) 16
udp-port u payload v Source bytes r = r.1.src_port
udp-port u payload v Destination bytes r = r.1.dst_port

tcp-port : (u : TcpHeader) (payload : List ℕ) (v : Ipv4Repr) (side : Side) (bytes : List ℕ) → ReadsPorts v bytes (segment u payload)
    → port_of side (segment u payload) ≡ field bytes (port_bit side) 16
tcp-port u payload v Source bytes r = r.1.src_port
tcp-port u payload v Destination bytes r = r.1.dst_port

transport-back : (v : Ipv4Repr) (t : Transport) (side : Side) (old new : List ℕ) (port : ℕ) (bytes : List ℕ) → AreBytes bytes → port < 65536
    → (v.next_header ≡ protocol.Tcp → field bytes 128 16 ≢ 65535) → (v.next_header ≡ protocol.Icmp → HasUsualSum bytes)
    → ReadsPorts v bytes t → with_end v.next_header side new old (port_of side t) (with_end v.next_header side old new port bytes) ≡ bytes
transport-back v (datagram u payload) side old new port bytes are fits usual usual_echo r =
    let port_is = udp-port u payload v side bytes r in
    (λ i. with_end (r.0 i) side new old (port_is i) (with_end (r.0 i) side old new port bytes)) ∙ udp-back side bytes old new port are r.1.lengths.least fits
transport-back v (segment u payload) side old new port bytes are fits usual usual_echo r =
    let port_is = tcp-port u payload v side bytes r in
    (λ i. with_end (r.0 i) side new old (port_is i) (with_end (r.0 i) side old new port bytes)) ∙ tcp-back side bytes old new port are (omega (arith, r.1.lengths.least)) (usual r.0) fits
transport-back v (request ident seq_no payload) side old new port bytes are fits usual usual_echo r =
    let ident_is = request-ident bytes v ident seq_no payload are r in
    (λ i. with_end (r.0 i) side new old (ident_is i) (with_end (r.0 i) side old new port bytes)) ∙ echo-back bytes old new port are r.1.least (usual_echo r.0)
transport-back v (reply ident seq_no payload) side old new port bytes are fits usual usual_echo r =
    let ident_is = reply-ident bytes v ident seq_no payload are r in
    (λ i. with_end (r.0 i) side new old (ident_is i) (with_end (r.0 i) side old new port bytes)) ∙ echo-back bytes old new port are r.1.least (usual_echo r.0)

packet-back : (bytes : List ℕ) (v : Ipv4Repr) (t : Transport) (side : Side) (addr : List ℕ) (port : ℕ) → CarriesPorts bytes v t → AreBytes bytes → length addr ≡ 4 → port < 65536
    → field bytes 80 16 ≢ 65535 → (protocol_of (field bytes 72 8) ≡ protocol.Tcp → field (ipv4_payload bytes) 128 16 ≢ 65535)
    → (protocol_of (field bytes 72 8) ≡ protocol.Icmp → HasUsualSum (ipv4_payload bytes))
    → translated_packet side (addr_of side v) (port_of side t) (translated_packet side addr port bytes) ≡ bytes
packet-back bytes v t side addr port c are four fits usual usual_tcp usual_echo =
    let h = ipv4.header_len bytes in
    let n = ipv4.total_len bytes in
    let r = c.reads.0 in
    let within = r.lengths.within in
    let most : 20 ≤ n = omega (arith, r.lengths.header, within) in
    let S = ipv4_payload bytes in
    let are_inner = AreBytes-slice_range bytes h n are in
    let old = addr_at side bytes in
    let port_was = port_of side t in
    let p = protocol_of (field bytes 72 8) in
    let T = with_end p side old addr port S in
    let T_len : length T ≡ length S = ap (λ (q : IpProtocol). length (with_end q side old addr port S)) (sym r.next_header) ∙ ended-len v side old addr port S t are_inner c.carries in
    let len = T_len ∙ payload-len bytes v r in
    let C = with_range bytes h n T in
    let Q = with_address side addr C in
    let same = (same-inner bytes T h n r.lengths.least r.lengths.header most).shape in
    let long = range-len bytes T h n within r.lengths.whole len in
    let room : 20 ≤ length C = omega (arith, long, r.lengths.least) in
    let k = keeps side C addr room (omega (arith, same.header, r.lengths.header)) four in
    let is_header : ipv4.header_len Q ≡ h = k.shape.header ∙ same.header in
    let is_total : ipv4.total_len Q ≡ n = k.shape.total ∙ same.total in
    let is_protocol : protocol_of (field Q 72 8) ≡ p = ap protocol_of (k.shape.protocol ∙ same.protocol) in
    let is_payload : ipv4_payload Q ≡ T = k.payload ∙ inner-payload bytes T v r T_len in
    let back : with_end p side addr old port_was T ≡ S =
    ap (λ (q : IpProtocol). with_end q side addr old port_was (with_end q side old addr port S)) (sym r.next_header)
    ∙ transport-back v t side old addr port S are_inner fits (λ tcp. usual_tcp (sym r.next_header ∙ tcp)) (λ echo. usual_echo (sym r.next_header ∙ echo)) c.carries in
    ap (λ (a : List ℕ). translated_packet side a port_was Q) (addr-read side bytes v r)
    ∙ (λ i. with_address side old (with_range Q (is_header i) (is_total i) (with_end (is_protocol i) side (k.written i) old port_was (is_payload i))))
    ∙ ap (λ (l : List ℕ). with_address side old (with_range Q h n l)) back
    ∙ ap (with_address side old) (either_order side C addr S h n room r.lengths.header most four)
    ∙ ap (λ (l : List ℕ). with_address side old (with_address side addr l)) (range-twice bytes T S h n within r.lengths.whole len ∙ range-same bytes h n within)
    ∙ address-back side bytes addr are r.lengths.least four usual

-- ---- the frame

-- translating a frame there and back gives the frame again
pub undone : (frame there back : List ℕ) (side : Side) (addr : List ℕ) (port : ℕ) (was : IsTranslated frame there side addr port)
    → AreBytes frame → length addr ≡ 4 → port < 65536 → HasUsualChecksums frame
    → IsTranslated there back side (addr_of side was.header) (port_of side was.transport) → back ≡ frame
undone frame there back side addr port was are four fits usual again =
    let front : length (take 14 frame) ≡ 14 = length-take-le 14 frame was.before.reads.reads_header.whole in
    let Q = translated_packet side addr port (drop 14 frame) in
    let first : take 14 there ≡ take 14 frame = ap (take 14) was.bytes ∙ take_at (take 14 frame) Q 14 front in
    let after_header : drop 14 there ≡ Q = ap (drop 14) was.bytes ∙ drop_at (take 14 frame) Q 14 front in
    again.bytes
    ∙ (λ i. first i ++ translated_packet side (addr_of side was.header) (port_of side was.transport) (after_header i))
    ∙ ap (λ (l : List ℕ). take 14 frame ++ l)
    (packet-back (drop 14 frame) was.header was.transport side addr port (carried frame was.link was.header was.transport was.before) (AreBytes-drop 14 frame are) four fits usual.ipv4 usual.tcp usual.icmp)
    ∙ take-append-drop 14 frame
