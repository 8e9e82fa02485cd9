-- There is a failure exactly if there is no packet, and no frame of it.
use Rattle.std.proofs.Common.{ℕ, ◌≡◌, ◌∙◌, ◌+◌, ◌≤◌, ◌&&◌, ◌==◌, ◌++◌, true, false, Bool, if◌then◌else◌, List, length, Option, Some, None, is_none, is_some, nat_lt, not, refl, sym, ap, arith}
use Rattle.std.proofs.lemmas.Bool.Decides.{nat_tests}
use Rattle.std.proofs.lemmas.Option.{none-some}
use Rattle.std.specs.Option.{option_and_then, option_map, option_or}
use Rattle.ip_wire.specs.Udp as udp
use Rattle.ip_wire.specs.Types.{IpAddress}
use Rattle.wire_tcp.proofs.OptionLens.{some_map}
use Rattle.c_write.proofs.Exact.{and_then-some, arp-exact, ip-value-exact, only-some, tcp-exact, udp-exact}
use Rattle.c_write.proofs.Framed.{length-segment, length-udp, only_if-Some, same-Some}
use Rattle.c_write.specs.Failures.{arp_failure, has_fields, ip_failure, most_payload, options_failure, pair_failure, rebuild_failure, tcp_frame_failure, udp_frame_failure}
use Rattle.c_write.specs.Frames.{arp_frame, framed, ip_header, ip_packet, is_whole, packet_link, rebuilt_of, tcp_frame, tcp_packet, udp_frame, udp_packet}
use Rattle.c_write.specs.Headers.{arp_bytes, ends_of, has_one_control, has_port, header_bytes, ip_value, link_bytes, only_if, options_header_len, ports_of, segment_bytes, tcp_bytes, tcp_value, udp_bytes}
use Rattle.c_structs.specs.declared.failures.Failure.{Failure}
use Rattle.c_structs.specs.declared.failures.Failure.TheVariants as failure
use Rattle.c_structs.specs.declared.types.Endpoint.{Endpoint}
use Rattle.c_structs.specs.declared.types.FrameFields.{FrameFields}
use Rattle.c_structs.specs.declared.types.Tcp.{Tcp}
use Rattle.c_structs.specs.declared.types.TcpOptions.{TcpOptions}

-- ---- options

pub and_then-of : {A B : Type 0} (f : A → Option B) (b : Bool) (o : Option A) → ((x : A) → o ≡ Some x → is_some (f x) ≡ b)
    → is_some (option_and_then f o) ≡ is_some o && b
and_then-of f b None each = refl
and_then-of f b (Some x) each = each x refl

-- ---- the headers

pub packet-exact : (f : FrameFields) (number : ℕ) (packet : List ℕ)
    → is_some (ip_packet f number packet) ≡ is_none (ip_failure f.ip f.src.addr f.dst.addr (length packet)) && is_whole f.ip
packet-exact f number packet =
    some_map (λ v. header_bytes f.ip true v ++ packet) (ip_header f number (length packet))
    ∙ and_then-some (λ v. only_if (is_whole f.ip) v) (is_whole f.ip) (ip_value f.ip number f.src.addr f.dst.addr (length packet)) (λ v. only-some (is_whole f.ip) v)
    ∙ ap (λ b. b && is_whole f.ip) (ip-value-exact f.ip number (length packet) f.src.addr f.dst.addr)

-- a packet that can be written has a frame
pub framed-exact : (f : FrameFields) (packet : Option (List ℕ)) → is_some (framed f packet) ≡ is_some packet
framed-exact f packet = some_map (λ bytes. packet_link f ++ bytes) packet

pub most-fits : (version : ℕ) → most_payload version ≤ 65535
most-fits version = grind (arith, nat_tests)

-- ---- UDP

udp-length : (v : Endpoint) (w : Endpoint) (payload packet : List ℕ) (b : Bool) (pair : Option (IpAddress × IpAddress))
    → option_and_then (λ pair. only_if b (udp.bytes_of (ports_of v w) payload pair.0 pair.1 true)) pair ≡ Some packet → length packet ≡ 8 + length payload
udp-length v w payload packet b None e = absurd (none-some packet e)
udp-length v w payload packet b (Some (src, dst)) e =
    ap length (sym (only_if-Some b _ packet e).1) ∙ length-udp (ports_of v w) payload src dst

no-both : (b c : Bool) → b && (false && c) ≡ false
no-both true c = refl
no-both false c = refl

not-whole : (b c : Bool) → b && (c && false) ≡ false
not-whole true true = refl
not-whole true false = refl
not-whole false c = refl

-- the tests of a packet whose header has 8 bytes and of the header before it, in one order
pub udp-tests : (pair : Option Failure) (port hop fields whole : Bool) (most n : ℕ) → most ≤ 65535
    → is_none (option_or pair (if not port then Some failure.NoPort else if nat_lt 65527 n then Some failure.PayloadTooLong else None))
    && (is_none (option_or pair (if hop then Some failure.NoHopLimit else if not fields then Some failure.BadField
    else if nat_lt most (8 + n) then Some failure.PayloadTooLong else None)) && whole)
    ≡ is_none (option_or (option_or pair (if not port then Some failure.NoPort else if hop then Some failure.NoHopLimit
    else if not (fields && whole) then Some failure.BadField else None))
    (if nat_lt most (8 + n) then Some failure.PayloadTooLong else None))
udp-tests (Some w) port hop fields whole most n least = refl
udp-tests None false hop fields whole most n least = refl
udp-tests None true true fields whole most n least = no-both _ whole
udp-tests None true false false whole most n least = no-both _ whole
udp-tests None true false true false most n least = not-whole _ _
udp-tests None true false true true most n least = grind (arith, nat_tests, least)

pub udp-packet-exact : (f : FrameFields) (payload : List ℕ) → is_some (udp_packet f payload) ≡ is_none (udp_frame_failure f (length payload))
udp-packet-exact f payload =
    let n = length payload in
    let each = λ (packet : List ℕ) (e : udp_bytes f.src f.dst payload true ≡ Some packet).
    packet-exact f 17 packet ∙ ap (λ k. is_none (ip_failure f.ip f.src.addr f.dst.addr k) && is_whole f.ip)
    (udp-length f.src f.dst payload packet _ (ends_of (has_port f.dst) f.src f.dst) e) in
    and_then-of (ip_packet f 17) _ (udp_bytes f.src f.dst payload true) each
    ∙ ap (λ b. b && (is_none (ip_failure f.ip f.src.addr f.dst.addr (8 + n)) && is_whole f.ip)) (udp-exact f.src f.dst payload true)
    ∙ udp-tests (pair_failure f.src.addr f.dst.addr) (has_port f.dst) (f.ip.hop_limit == 0) (has_fields f.ip f.src.addr.version) (is_whole f.ip)
    (most_payload f.src.addr.version) n (most-fits f.src.addr.version)

pub udp-frame-exact : (f : FrameFields) (payload : List ℕ) → is_some (udp_frame f payload) ≡ is_none (udp_frame_failure f (length payload))
udp-frame-exact f payload = framed-exact f (udp_packet f payload) ∙ udp-packet-exact f payload

-- ---- TCP

tcp-length : (h : Tcp) (o : TcpOptions) (v w : Endpoint) (payload packet : List ℕ) (size : Option ℕ) (pair : Option (IpAddress × IpAddress))
    → option_and_then (λ pair. option_map (λ len. segment_bytes h (tcp_value h o v.port w.port) payload pair.0 pair.1 true) size) pair ≡ Some packet
    → length packet ≡ options_header_len o + length payload
tcp-length h o v w payload packet size None e = absurd (none-some packet e)
tcp-length h o v w payload packet None (Some (src, dst)) e = absurd (none-some packet e)
tcp-length h o v w payload packet (Some n) (Some (src, dst)) e =
    ap length (sym (same-Some _ packet e)) ∙ length-segment h (tcp_value h o v.port w.port) payload src dst true

tcp-tests : (pair : Option Failure) (port hop fields whole control options : Bool) (most n : ℕ) → most ≤ 65535
    → is_none (option_or pair (if not port then Some failure.NoPort else if not control then Some failure.TwoControls
    else if options then Some failure.OptionsTooLong else if nat_lt 65535 n then Some failure.PayloadTooLong else None))
    && (is_none (option_or pair (if hop then Some failure.NoHopLimit else if not fields then Some failure.BadField
    else if nat_lt most n then Some failure.PayloadTooLong else None)) && whole)
    ≡ is_none (option_or (option_or pair (if not port then Some failure.NoPort else if hop then Some failure.NoHopLimit
    else if not (fields && whole) then Some failure.BadField else None))
    (if not control then Some failure.TwoControls else if options then Some failure.OptionsTooLong else if nat_lt most n then Some failure.PayloadTooLong else None))
tcp-tests (Some w) port hop fields whole control options most n least = refl
tcp-tests None false hop fields whole control options most n least = refl
tcp-tests None true true fields whole control options most n least = no-both _ whole
tcp-tests None true false false whole control options most n least = no-both _ whole
tcp-tests None true false true false control options most n least = not-whole _ _
tcp-tests None true false true true false options most n least = refl
tcp-tests None true false true true true true most n least = refl
tcp-tests None true false true true true false most n least = grind (arith, nat_tests, least)

pub tcp-packet-exact : (f : FrameFields) (o : TcpOptions) (payload : List ℕ) → is_some (tcp_packet f o payload) ≡ is_none (tcp_frame_failure f o (length payload))
tcp-packet-exact f o payload =
    let n = options_header_len o + length payload in
    let packets = tcp_bytes f.tcp o f.src f.dst payload true in
    let each = λ (packet : List ℕ) (e : packets ≡ Some packet).
    packet-exact f 6 packet ∙ ap (λ k. is_none (ip_failure f.ip f.src.addr f.dst.addr k) && is_whole f.ip)
    (tcp-length f.tcp o f.src f.dst payload packet _ (ends_of (has_port f.src && has_port f.dst) f.src f.dst) e) in
    and_then-of (ip_packet f 6) _ packets each
    ∙ ap (λ b. b && (is_none (ip_failure f.ip f.src.addr f.dst.addr n) && is_whole f.ip)) (tcp-exact f.tcp o f.src f.dst payload true)
    ∙ tcp-tests (pair_failure f.src.addr f.dst.addr) (has_port f.src && has_port f.dst) (f.ip.hop_limit == 0) (has_fields f.ip f.src.addr.version) (is_whole f.ip)
    (has_one_control f.tcp.flags) (is_some (options_failure o)) (most_payload f.src.addr.version) n (most-fits f.src.addr.version)

pub tcp-frame-exact : (f : FrameFields) (o : TcpOptions) (payload : List ℕ) → is_some (tcp_frame f o payload) ≡ is_none (tcp_frame_failure f o (length payload))
tcp-frame-exact f o payload = framed-exact f (tcp_packet f o payload) ∙ tcp-packet-exact f o payload

-- ---- ARP, and rebuilding

pub arp-frame-exact : (f : FrameFields) → is_some (arp_frame f) ≡ is_none (arp_failure f.src.addr f.dst.addr)
arp-frame-exact f = some_map (λ packet. link_bytes f.ethernet 0x0806 ++ packet) (arp_bytes f.arp f.src.addr f.dst.addr) ∙ arp-exact f.arp f.src.addr f.dst.addr

pub rebuilt-exact : (frame : List ℕ) → is_some (rebuilt_of frame) ≡ is_none (rebuild_failure frame)
rebuilt-exact frame = grind (arith, nat_tests)
