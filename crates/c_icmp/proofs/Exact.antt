-- There is a failure exactly if there is no message, packet or frame.
use Rattle.std.proofs.Common.{ℕ, ◌≡◌, ◌∙◌, ◌+◌, ◌≤◌, ◌&&◌, ◌==◌, true, false, Bool, if◌then◌else◌, List, length, length-append, Option, Some, None, is_none, is_some, nat_le, nat_lt, not, refl, sym, ap, arith}
use Rattle.std.proofs.lemmas.Bool.Decides.{nat_tests}
use Rattle.std.specs.Option.{option_and_then}
use Rattle.app_mld.specs.Mld.{report_bytes}
use Rattle.ip_wire.specs.Types.{IpAddress}
use Rattle.wire_icmp.specs.Icmp.{emitted}
use Rattle.wire_icmp.specs.Ndisc.{body_of, bytes_of}
use Rattle.wire_icmp.specs.declared.ndisc.repr.NdiscRepr.{NdiscRepr}
use Rattle.c_structs.specs.Addresses.{pair_of}
use Rattle.c_structs.specs.declared.failures.Failure.TheVariants as failure
use Rattle.c_structs.specs.declared.types.Addr.{Addr}
use Rattle.c_structs.specs.declared.types.FrameFields.{FrameFields}
use Rattle.c_structs.specs.declared.types.Icmp.{Icmp}
use Rattle.c_write.proofs.Exact.{and_then-some, only-some, or-none, pair-exact}
use Rattle.c_write.proofs.ExactFrames.{and_then-of, framed-exact, most-fits, packet-exact, udp-tests}
use Rattle.c_write.specs.Failures.{has_fields, ip_failure, most_payload, pair_failure}
use Rattle.c_write.specs.Frames.{ip_packet, is_whole}
use Rattle.c_write.specs.Headers.{is_yes, only_if}
use Rattle.c_icmp.proofs.Packets.{length-icmp}
use Rattle.c_icmp.specs.Frames.{icmp_failure, icmp_frame, icmp_frame_failure, icmp_packet, protocol_number}
use Rattle.c_icmp.specs.Messages.{header_value, icmp_bytes}
use Rattle.c_icmp.specs.Mld.{are_ipv6, mld_failure, mld_report}
use Rattle.c_icmp.specs.Neighbours.{has_ipv6, is_accepted, is_ipv6, ndisc_failure, ndisc_frame, ndisc_ip, ndisc_packet, ndisc_value}
use Rattle.c_icmp.specs.declared.types.Ndisc.{Ndisc}

-- ---- any message

fits-exact : (n : ℕ) → nat_le n 65527 ≡ is_none (if nat_lt 65527 n then Some failure.PayloadTooLong else None)
fits-exact n = grind (arith, nat_tests)

pub icmp-exact : (h : Icmp) (src dst : Addr) (payload : List ℕ) (computed : Bool)
    → is_some (icmp_bytes h src dst payload computed) ≡ is_none (icmp_failure src dst (length payload))
icmp-exact h src dst payload computed =
    let n = length payload in
    let none = is_none (pair_failure src dst) in
    and_then-some (λ (pair : IpAddress × IpAddress). only_if (nat_le n 65527) (emitted (header_value h) payload pair.0 pair.1 computed)) (nat_le n 65527) (pair_of src dst)
    (λ pair. only-some (nat_le n 65527) (emitted (header_value h) payload pair.0 pair.1 computed))
    ∙ ap (λ (b : Bool). b && nat_le n 65527) (pair-exact src dst)
    ∙ ap (λ (b : Bool). none && b) (fits-exact n)
    ∙ sym (or-none (pair_failure src dst) (if nat_lt 65527 n then Some failure.PayloadTooLong else None))

-- a message has a header of 8 bytes, as UDP
pub icmp-packet-exact : (f : FrameFields) (payload : List ℕ) → is_some (icmp_packet f payload) ≡ is_none (icmp_frame_failure f (length payload))
icmp-packet-exact f payload =
    let n = length payload in
    let number = protocol_number f.src.addr.version in
    let message = icmp_bytes f.icmp f.src.addr f.dst.addr payload true in
    let each = λ (packet : List ℕ) (e : message ≡ Some packet).
    packet-exact f number packet ∙ ap (λ (k : ℕ). is_none (ip_failure f.ip f.src.addr f.dst.addr k) && is_whole f.ip)
    (length-icmp f.icmp f.src.addr f.dst.addr payload packet true e) in
    and_then-of (ip_packet f number) _ message each
    ∙ ap (λ (b : Bool). b && (is_none (ip_failure f.ip f.src.addr f.dst.addr (8 + n)) && is_whole f.ip)) (icmp-exact f.icmp f.src.addr f.dst.addr payload true)
    ∙ udp-tests (pair_failure f.src.addr f.dst.addr) true (f.ip.hop_limit == 0) (has_fields f.ip f.src.addr.version) (is_whole f.ip)
    (most_payload f.src.addr.version) n (most-fits f.src.addr.version)

pub icmp-frame-exact : (f : FrameFields) (payload : List ℕ) → is_some (icmp_frame f payload) ≡ is_none (icmp_frame_failure f (length payload))
icmp-frame-exact f payload = framed-exact f (icmp_packet f payload) ∙ icmp-packet-exact f payload

-- ---- neighbour discovery

-- a message fits into every packet
few-bytes : (v : NdiscRepr) (src dst : List ℕ) → length (body_of v) ≤ 65527 → length (bytes_of v src dst true) ≤ 65535
few-bytes v src dst few =
    let size : length (bytes_of v src dst true) ≡ 8 + length (body_of v) = simp length-append (omega arith) in
    omega (arith, size, few)

-- the target, and an option with a hardware address or none
few-after : (n : Ndisc) (has advert : Bool) → is_yes n.has_hardware ≡ has → is_yes n.is_advert ≡ advert → length n.target.octets ≡ 16 → length n.hardware ≡ 6 → length (body_of (ndisc_value n)) ≤ 65527
few-after n true true has is target hardware = rw (has, is) (simp length-append (omega (arith, target, hardware)))
few-after n true false has is target hardware = rw (has, is) (simp length-append (omega (arith, target, hardware)))
few-after n false true has is target hardware = rw (has, is) (simp length-append (omega (arith, target)))
few-after n false false has is target hardware = rw (has, is) (simp length-append (omega (arith, target)))

-- the IP header of a message fits between IPv6 addresses
header-fits : (src dst : Addr) (len : ℕ) → is_ipv6 src ≡ true → is_ipv6 dst ≡ true → len ≤ 65535 → is_none (ip_failure ndisc_ip src dst len) && is_whole ndisc_ip ≡ true
header-fits src dst len from to fits = grind (arith, nat_tests)

both-are : (a c d : Bool) → (a && c && d) ≡ true → (a ≡ true) × (c ≡ true)
both-are true true d e = (refl, refl)
both-are true false d e = absurd (cc)
both-are false c d e = absurd (cc)

-- a message that may be written is written
tested : (bytes : List ℕ) (f : List ℕ → Option (List ℕ)) (ipv6 accepted : Bool) → (ipv6 ≡ true → is_some (f bytes) ≡ true)
    → is_some (option_and_then f (only_if (ipv6 && accepted) bytes))
    ≡ is_none (if not ipv6 then Some failure.NoVersion else if not accepted then Some failure.BadField else None)
tested bytes f false accepted whole = refl
tested bytes f true false whole = refl
tested bytes f true true whole = whole refl

pub ndisc-frame-exact : (f : FrameFields) (n : Ndisc) → length n.target.octets ≡ 16 → length n.hardware ≡ 6 → is_some (ndisc_frame f n) ≡ is_none (ndisc_failure f n)
ndisc-frame-exact f n target hardware = framed-exact f (ndisc_packet f n) ∙ tested bytes (ip_packet g 58) (has_ipv6 f n) (is_accepted f n) whole
  where
    g : FrameFields
    g = record f { ip = ndisc_ip }

    bytes : List ℕ
    bytes = bytes_of (ndisc_value n) f.src.addr.octets f.dst.addr.octets true

    few : length bytes ≤ 65535
    few = few-bytes (ndisc_value n) f.src.addr.octets f.dst.addr.octets (few-after n (is_yes n.has_hardware) (is_yes n.is_advert) refl refl target hardware)

    whole : has_ipv6 f n ≡ true → is_some (ip_packet g 58 bytes) ≡ true
    whole is =
        let ends = both-are (is_ipv6 f.src.addr) (is_ipv6 f.dst.addr) (is_ipv6 n.target) is in
        packet-exact g 58 bytes ∙ header-fits f.src.addr f.dst.addr (length bytes) ends.0 ends.1 few

-- ---- multicast listener discovery

pub mld-exact : (f : FrameFields) → is_some (mld_report f) ≡ is_none (mld_failure f)
mld-exact f = by (are_ipv6 f) (report_bytes (record { 0 = f.ethernet.src }) f.src.addr.octets f.dst.addr.octets)
  where
    by : (b : Bool) (bytes : List ℕ) → is_some (only_if b bytes) ≡ is_none (if b then None else Some failure.NoVersion)
    by true bytes = refl
    by false bytes = refl
