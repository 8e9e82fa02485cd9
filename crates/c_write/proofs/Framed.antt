-- Whole packets and frames: the headers before a payload, and the payload.
use Rattle.std.proofs.Common.{◌≡◌, ◌≢◌, ◌∙◌, ℕ, ◌+◌, ◌-◌, ◌≤◌, ◌<◌, ◌&&◌, Bool, true, false, List, ◌++◌, Option, Some, None, drop, length, take, slice_range, nat_le, ap, append_assoc, sym, refl, subst, length-append, length-drop, arith}
use Rattle.std.proofs.lemmas.Bool.Decides.{nat_tests}
use Rattle.std.proofs.lemmas.Grind.{common_steps}
use Rattle.std.proofs.lemmas.List.{drop-drop}
use Rattle.std.proofs.lemmas.Option.{none-some}
use Rattle.std.specs.Option.{option_and_then, option_map, unwrap_or}
use Rattle.byteorder.specs.Endian.{big_bytes}
use Rattle.ip_wire.proofs.TcpLayer.{length-written}
use Rattle.ip_wire.specs.Field.{with_field, with_part, word_at}
use Rattle.ip_wire.specs.Ip.{dst_addr_of, src_addr_of}
use Rattle.ip_wire.specs.Tcp.{with_checksum}
use Rattle.ip_wire.specs.TcpRepr as tcp
use Rattle.ip_wire.specs.TcpRepr.{TcpHeader, header_len_of}
use Rattle.ip_wire.specs.Udp as udp
use Rattle.ip_wire.specs.Types.{IpAddress, IpRepr, Ipv4, Ipv4Repr, Ipv6, Ipv6Repr, UdpRepr}
use Rattle.ip_wire.specs.declared.IpAddress.TheVariants as address
use Rattle.ip_wire.specs.declared.IpProtocol.TheVariants as protocol
use Rattle.c_structs.specs.Addresses.{pair_of}
use Rattle.c_write.specs.Frames.{ip_header, framed, ip_packet, is_whole, packet_link, part, tcp_packet, udp_packet}
use Rattle.c_write.specs.Headers.{ends_of, has_port, header_bytes, ip_between, ip_value, is_expressible, only_if, ports_of, segment_bytes, segment_header_len, segment_with_flags, tcp_bytes, tcp_value, udp_bytes}
use Rattle.c_structs.specs.Written.{Fills}
use Rattle.c_structs.specs.declared.types.FrameFields.{FrameFields}
use Rattle.c_structs.specs.declared.types.Endpoint.{Endpoint}
use Rattle.c_structs.specs.declared.types.Ip.{Ip}
use Rattle.c_structs.specs.declared.types.Tcp.{Tcp}
use Rattle.c_structs.specs.declared.types.TcpOptions.{TcpOptions}

pub same-Some : {T : Type 0} (x y : T) → Some x ≡ Some y → x ≡ y
same-Some x y e = ap (λ o. unwrap_or o x) e

pub only_if-Some : {T : Type 0} (b : Bool) (x y : T) → only_if b x ≡ Some y → (b ≡ true) × (x ≡ y)
only_if-Some true x y e = (refl, same-Some x y e)
only_if-Some false x y e = absurd (none-some y e)

filtered : {T : Type 0} (b : Bool) (o : Option T) (v : T) → option_and_then (λ v. only_if b v) o ≡ Some v → o ≡ Some v
filtered b None v e = absurd (none-some v e)
filtered b (Some w) v e = ap Some (only_if-Some b w v e).1

chosen : (h : Ip) (w v : IpRepr) → only_if (is_expressible h w) w ≡ Some v → (is_expressible h v ≡ true) × (w ≡ v)
chosen h w v e = let is = only_if-Some (is_expressible h w) w v e in (subst (λ w. is_expressible h w ≡ true) is.1 is.0, is.1)

abbrev ipv4_between : Ip → ℕ → ℕ → List ℕ → List ℕ → Ipv4Repr
ipv4_between h number len a b = record { src_addr = a; dst_addr = b; next_header = protocol.Unknown number; payload_len = len; hop_limit = h.hop_limit }

abbrev ipv6_between : Ip → ℕ → ℕ → List ℕ → List ℕ → Ipv6Repr
ipv6_between h number len a b = record { src_addr = a; dst_addr = b; next_header = protocol.Unknown number; payload_len = len; hop_limit = h.hop_limit }

-- the addresses of a header are those that it was made of
addressed : (h : Ip) (number len : ℕ) (pair : Option (IpAddress × IpAddress)) (v : IpRepr)
    → option_and_then (λ v. only_if (is_expressible h v) v) (option_and_then (λ pair. ip_between h number len pair.0 pair.1) pair) ≡ Some v
    → (is_expressible h v ≡ true) × (pair ≡ Some (src_addr_of v, dst_addr_of v))
addressed h number len None v e = absurd (none-some v e)
addressed h number len (Some (address.Ipv4 a, address.Ipv4 b)) v e =
    let is = chosen h (Ipv4 (ipv4_between h number len a b)) v e in (is.0, ap (λ (w : IpRepr). Some (src_addr_of w, dst_addr_of w)) is.1)
addressed h number len (Some (address.Ipv6 a, address.Ipv6 b)) v e =
    let is = chosen h (Ipv6 (ipv6_between h number len a b)) v e in (is.0, ap (λ (w : IpRepr). Some (src_addr_of w, dst_addr_of w)) is.1)
addressed h number len (Some (address.Ipv4 a, address.Ipv6 b)) v e = absurd (none-some v e)
addressed h number len (Some (address.Ipv6 a, address.Ipv4 b)) v e = absurd (none-some v e)

pub ip_header-value : (f : FrameFields) (number len : ℕ) (v : IpRepr) → ip_header f number len ≡ Some v
    → (is_expressible f.ip v ≡ true) × (pair_of f.src.addr f.dst.addr ≡ Some (src_addr_of v, dst_addr_of v))
ip_header-value f number len v e =
    addressed f.ip number len (pair_of f.src.addr f.dst.addr) v (filtered (is_whole f.ip) (ip_value f.ip number f.src.addr f.dst.addr len) v e)

-- the addresses of two endpoints with ports
ends-there : (ports : Bool) (src dst : Endpoint) (a b : IpAddress) → ports ≡ true → pair_of src.addr dst.addr ≡ Some (a, b) → ends_of ports src dst ≡ Some (a, b)
ends-there ports src dst a b has pair =
    ap (λ p. option_and_then (λ pair. only_if p pair) (pair_of src.addr dst.addr)) has ∙ ap (λ o. option_and_then (λ pair. only_if true pair) o) pair

-- a packet whose header can be written
pub packet-written : (f : FrameFields) (number : ℕ) (packet : List ℕ) (v : IpRepr) → ip_header f number (length packet) ≡ Some v
    → ip_packet f number packet ≡ Some (header_bytes f.ip true v ++ packet)
packet-written f number packet v e = ap (λ o. option_map (λ v. header_bytes f.ip true v ++ packet) o) e

-- what is written to the front of a slice, of its length
pub filled-front : (frame : Option (List ℕ)) (bytes old new : List ℕ) (n : ℕ) → frame ≡ Some bytes → n ≤ length old → length new ≡ length old
    → new ≡ bytes ++ drop n old → Fills frame old new (Some n)
filled-front frame bytes old new n e room same is =
    let size : n ≡ length bytes = grind (arith, common_steps, room, same, is) in
    subst (λ o. Fills o old new (Some n)) (sym e) (size, room, is)

-- ---- UDP

pub length-udp : (v : UdpRepr) (payload : List ℕ) (src dst : IpAddress) → length (udp.bytes_of v payload src dst true) ≡ 8 + length payload
length-udp v payload src dst = simp length-append (omega arith)

-- an IP packet with UDP is its header and a UDP packet
pub udp-whole : (f : FrameFields) (payload : List ℕ) (v : IpRepr) → f.dst.port ≢ 0 → length payload ≤ 65527 → ip_header f 17 (8 + length payload) ≡ Some v
    → udp_packet f payload ≡ Some (header_bytes f.ip true v ++ udp.bytes_of (ports_of f.src f.dst) payload (src_addr_of v) (dst_addr_of v) true)
udp-whole f payload v port fits e =
    let bytes = udp.bytes_of (ports_of f.src f.dst) payload (src_addr_of v) (dst_addr_of v) true in
    let has : has_port f.dst ≡ true = grind (arith, nat_tests, port) in
    let pair = ends-there (has_port f.dst) f.src f.dst _ _ has (ip_header-value f 17 (8 + length payload) v e).1 in
    let small : nat_le (length payload) 65527 ≡ true = grind (arith, nat_tests, fits) in
    let packet : udp_bytes f.src f.dst payload true ≡ Some bytes =
    ap (λ o. option_and_then (λ pair. only_if (nat_le (length payload) 65527) (udp.bytes_of (ports_of f.src f.dst) payload pair.0 pair.1 true)) o) pair
    ∙ ap (λ b. only_if b bytes) small in
    let size = length-udp (ports_of f.src f.dst) payload (src_addr_of v) (dst_addr_of v) in
    ap (λ o. option_and_then (ip_packet f 17) o) packet ∙ packet-written f 17 bytes v (ap (ip_header f 17) size ∙ e)

-- ---- TCP

length-replaced : (bytes mid : List ℕ) (i j : ℕ) → i + length mid ≡ j → j ≤ length bytes → length (take i bytes ++ mid ++ drop j bytes) ≡ length bytes
length-replaced bytes mid i j size room = grind (arith, common_steps, size, room)

length-flags : (bytes : List ℕ) (x : ℕ) → 20 ≤ length bytes → length (with_field bytes 104 8 x) ≡ length bytes
length-flags bytes x long = length-replaced bytes (big_bytes 1 (with_part (word_at bytes 104 8) 0 8 x)) 13 14 refl (omega (arith, long))

length-urgent : (bytes : List ℕ) (x : ℕ) → 20 ≤ length bytes → length (with_field bytes 144 16 x) ≡ length bytes
length-urgent bytes x long = length-replaced bytes (big_bytes 2 (with_part (word_at bytes 144 16) 0 16 x)) 18 20 refl long

length-checksum : (bytes : List ℕ) (x : ℕ) → 20 ≤ length bytes → length (with_field bytes 128 16 x) ≡ length bytes
length-checksum bytes x long = length-replaced bytes (big_bytes 2 (with_part (word_at bytes 128 16) 0 16 x)) 16 18 refl (omega (arith, long))

length-marked : (h : Tcp) (u : TcpHeader) (payload : List ℕ) (src dst : IpAddress) → length (segment_with_flags h u payload) ≡ header_len_of u + length payload
length-marked h u payload src dst =
    let bytes = tcp.header_bytes u 0 ++ payload in
    let size : length bytes ≡ header_len_of u + length payload = length-written src dst u payload false in
    let long : 20 ≤ length bytes = omega (arith, size) in
    let flagged = length-flags bytes h.flags long in
    let long_too : 20 ≤ length (with_field bytes 104 8 h.flags) = omega (arith, long, flagged) in
    length-urgent (with_field bytes 104 8 h.flags) h.urgent_at long_too ∙ flagged ∙ size

length-summed : (src dst : IpAddress) (bytes : List ℕ) → 20 ≤ length bytes → length (with_checksum src dst bytes) ≡ length bytes
length-summed src dst bytes long =
    let zeroed = length-checksum bytes 0 long in
    let long_too : 20 ≤ length (with_field bytes 128 16 0) = omega (arith, long, zeroed) in
    length-checksum (with_field bytes 128 16 0) _ long_too ∙ zeroed

-- the length of a segment, with or without its checksum
pub length-segment : (h : Tcp) (u : TcpHeader) (payload : List ℕ) (src dst : IpAddress) (computed : Bool)
    → length (segment_bytes h u payload src dst computed) ≡ header_len_of u + length payload
length-segment h u payload src dst false = length-marked h u payload src dst
length-segment h u payload src dst true =
    let size = length-marked h u payload src dst in
    let long : 20 ≤ length (segment_with_flags h u payload) = omega (arith, size) in
    length-summed src dst (segment_with_flags h u payload) long ∙ size

-- a segment between two addresses, if its header can be written
pub tcp-segment : (h : Tcp) (o : TcpOptions) (src dst : Endpoint) (payload : List ℕ) (computed : Bool) (u : TcpHeader) (a b : IpAddress)
    → src.port ≢ 0 → dst.port ≢ 0 → pair_of src.addr dst.addr ≡ Some (a, b) → segment_header_len h o (length payload) ≡ Some (header_len_of u) → u ≡ tcp_value h o src.port dst.port
    → tcp_bytes h o src dst payload computed ≡ Some (segment_bytes h u payload a b computed)
tcp-segment h o src dst payload computed u a b from to pair len is =
    let has : has_port src && has_port dst ≡ true = grind (arith, nat_tests, from, to) in
    let ends = ends-there (has_port src && has_port dst) src dst a b has pair in
    let bytes = λ (p : IpAddress × IpAddress). segment_bytes h (tcp_value h o src.port dst.port) payload p.0 p.1 computed in
    ap (λ q. option_and_then (λ p. option_map (λ len. bytes p) (segment_header_len h o (length payload))) q) ends
    ∙ ap (λ q. option_map (λ len. bytes (a, b)) q) len
    ∙ ap (λ w. Some (segment_bytes h w payload a b computed)) (sym is)

-- an IP packet with TCP is its header and a segment
pub tcp-whole : (f : FrameFields) (o : TcpOptions) (payload : List ℕ) (u : TcpHeader) (v : IpRepr) → f.src.port ≢ 0 → f.dst.port ≢ 0
    → segment_header_len f.tcp o (length payload) ≡ Some (header_len_of u) → u ≡ tcp_value f.tcp o f.src.port f.dst.port
    → ip_header f 6 (header_len_of u + length payload) ≡ Some v
    → tcp_packet f o payload ≡ Some (header_bytes f.ip true v ++ segment_bytes f.tcp u payload (src_addr_of v) (dst_addr_of v) true)
tcp-whole f o payload u v from to len is e =
    let pair = (ip_header-value f 6 (header_len_of u + length payload) v e).1 in
    let packet = tcp-segment f.tcp o f.src f.dst payload true u (src_addr_of v) (dst_addr_of v) from to pair len is in
    let size = length-segment f.tcp u payload (src_addr_of v) (dst_addr_of v) true in
    ap (λ q. option_and_then (ip_packet f 6) q) packet
    ∙ packet-written f 6 (segment_bytes f.tcp u payload (src_addr_of v) (dst_addr_of v) true) v (ap (ip_header f 6) size ∙ e)

-- no IP header can carry it
pub tcp-unwritten : (f : FrameFields) (o : TcpOptions) (payload : List ℕ) (u : TcpHeader) (pair : Option (IpAddress × IpAddress))
    → segment_header_len f.tcp o (length payload) ≡ Some (header_len_of u) → u ≡ tcp_value f.tcp o f.src.port f.dst.port
    → ip_header f 6 (header_len_of u + length payload) ≡ None
    → option_and_then (ip_packet f 6) (option_and_then (λ p. option_map (λ len. segment_bytes f.tcp (tcp_value f.tcp o f.src.port f.dst.port) payload p.0 p.1 true)
    (segment_header_len f.tcp o (length payload))) pair) ≡ None
tcp-unwritten f o payload u None len is e = refl
tcp-unwritten f o payload u (Some (a, b)) len is e =
    let w = tcp_value f.tcp o f.src.port f.dst.port in
    let bytes = segment_bytes f.tcp w payload a b true in
    let size : length bytes ≡ header_len_of u + length payload =
    length-segment f.tcp w payload a b true ∙ ap (λ (w : TcpHeader). header_len_of w + length payload) (sym is) in
    ap (λ (q : Option ℕ). option_and_then (ip_packet f 6) (option_map (λ len. bytes) q)) len
    ∙ ap (λ (q : Option IpRepr). option_map (λ v. header_bytes f.ip true v ++ bytes) q) (ap (ip_header f 6) size ∙ e)

-- ---- around a payload in place

-- a part inside the bytes is there
pub part-there : (bytes : List ℕ) (first len : ℕ) → first + len ≤ length bytes → part bytes first len ≡ Some (slice_range bytes first (first + len))
part-there bytes first len room =
    let there : nat_le (first + len) (length bytes) ≡ true = grind (arith, nat_tests, room) in
    ap (λ b. only_if b (slice_range bytes first (first + len))) there

-- its length
pub length-there : (bytes : List ℕ) (first len : ℕ) → first + len ≤ length bytes → length (slice_range bytes first (first + len)) ≡ len
length-there bytes first len room = grind (arith, common_steps, room)

same-part : (old : List ℕ) (a k n : ℕ) → slice_range (drop a old) k (k + n) ≡ slice_range old (a + k) (a + k + n)
same-part old a k n =
    let count : k + n - k ≡ a + k + n - (a + k) = omega arith in
    ap (λ i. take i (drop k (drop a old))) count ∙ ap (λ s. take (a + k + n - (a + k)) s) (drop-drop k a old)

-- what is written after the headers
pub after-headers : (F : List ℕ → List ℕ) (headers old front rest new : List ℕ) (a k n : ℕ) → front ≡ headers → rest ≡ drop a old
    → new ≡ F (slice_range rest k (k + n)) ++ drop (k + n) rest
    → front ++ new ≡ (headers ++ F (slice_range old (a + k) (a + k + n))) ++ drop (a + k + n) old
after-headers F headers old front rest new a k n is following holds =
    let inner : slice_range (drop a old) k (k + n) ≡ slice_range old (a + k) (a + k + n) = same-part old a k n in
    let last : drop (k + n) (drop a old) ≡ drop (a + k + n) old = drop-drop (k + n) a old ∙ ap (λ i. drop i old) (omega arith) in
    let whole = holds ∙ ap (λ s. F (slice_range s k (k + n)) ++ drop (k + n) s) following
    ∙ ap (λ s. F s ++ drop (k + n) (drop a old)) inner ∙ ap (λ s. F (slice_range old (a + k) (a + k + n)) ++ s) last in
    ap (λ s. s ++ new) is ∙ ap (λ s. headers ++ s) whole ∙ sym (append_assoc headers (F (slice_range old (a + k) (a + k + n))) (drop (a + k + n) old))

-- ---- frames

pub length-link : (f : FrameFields) → length f.ethernet.src ≡ 6 → length f.ethernet.dst ≡ 6 → length (packet_link f) ≡ 14
length-link f src dst = simp length-append (omega (arith, src, dst))

-- no frame fits into less than its Ethernet header
pub framed-short : (f : FrameFields) (packet : Option (List ℕ)) (old : List ℕ) → length f.ethernet.src ≡ 6 → length f.ethernet.dst ≡ 6 → length old < 14
    → Fills (framed f packet) old old None
framed-short f None old src dst short = (refl, refl)
framed-short f (Some bytes) old src dst short =
    let link = length-link f src dst in
    let whole = length-append (packet_link f) bytes in
    (omega (arith, link, whole, short), refl)

-- no packet was written, and no frame
pub framed-none : (f : FrameFields) (packet : Option (List ℕ)) (old front rest new : List ℕ) → length f.ethernet.src ≡ 6 → length f.ethernet.dst ≡ 6
    → length front ≡ 14 → front ++ rest ≡ old → Fills packet rest new None → Fills (framed f packet) old (front ++ new) None
framed-none f None old front rest new src dst size is (none, same) = (refl, ap (λ s. front ++ s) same ∙ is)
framed-none f (Some bytes) old front rest new src dst size is (short, same) =
    let link = length-link f src dst in
    let whole = length-append (packet_link f) bytes in
    let parts : length old ≡ 14 + length rest = ap length (sym is) ∙ length-append front rest ∙ ap (λ n. n + length rest) size in
    (omega (arith, link, whole, short, parts), ap (λ s. front ++ s) same ∙ is)

linked-some : (header : List ℕ) (packet : Option (List ℕ)) (old rest new link : List ℕ) (n : ℕ) → link ≡ header → length link ≡ 14 → 14 ≤ length old
    → rest ≡ drop 14 old → Fills packet rest new (Some n) → Fills (option_map (λ bytes. header ++ bytes) packet) old (link ++ new) (Some (14 + n))
linked-some header None old rest new link n is size room following (none, same) = absurd (none-some n (sym none))
linked-some header (Some bytes) old rest new link n is size room following (count, fits, holds) =
    let len : length header ≡ 14 = ap length (sym is) ∙ size in
    let whole = length-append header bytes in
    let left : length rest ≡ length old - 14 = ap length following ∙ length-drop 14 old in
    let total : 14 + n ≡ length (header ++ bytes) = omega (arith, whole, len, count) in
    let within : 14 + n ≤ length old = omega (arith, left, count, fits, room) in
    let after : drop n (drop 14 old) ≡ drop (14 + n) old = drop-drop n 14 old in
    let end : new ≡ bytes ++ drop (14 + n) old = holds ∙ ap (λ s. bytes ++ drop n s) following ∙ ap (λ s. bytes ++ s) after in
    let all : link ++ new ≡ (header ++ bytes) ++ drop (14 + n) old = ap (λ s. s ++ new) is ∙ ap (λ s. header ++ s) end ∙ sym (append_assoc header bytes (drop (14 + n) old)) in
    (total, within, all)

-- the Ethernet header is before a packet that was written
pub framed-some : (f : FrameFields) (packet : Option (List ℕ)) (old rest new link : List ℕ) (n : ℕ) → link ≡ packet_link f → length link ≡ 14 → 14 ≤ length old
    → rest ≡ drop 14 old → Fills packet rest new (Some n) → Fills (framed f packet) old (link ++ new) (Some (14 + n))
framed-some f packet old rest new link n is size room following fills = linked-some (packet_link f) packet old rest new link n is size room following fills
