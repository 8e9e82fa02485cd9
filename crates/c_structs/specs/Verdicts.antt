-- What a checksum says.
-- Pinned by: `worked/read`
use Rattle.std.specs.Prelude.{◌==◌, if◌then◌else◌, List, ℕ, take}
use Rattle.ip_wire.specs.Field.{field}
use Rattle.ip_wire.specs.Ipv4 as ipv4
use Rattle.ip_wire.specs.Tcp as tcp
use Rattle.ip_wire.specs.Types.{IpAddress}
use Rattle.ip_wire.specs.Udp as udp
use Rattle.ip_wire.specs.WordSum.{sum_of_bytes}
use Rattle.wire_icmp.specs.Icmp.{verifies}
use Rattle.c_structs.specs.declared.codes.Verdict.{Verdict}
use Rattle.c_structs.specs.declared.codes.Verdict.TheVariants as verdict

-- what the checksum of an IPv4 header says
abbrev pub ipv4_verdict : List ℕ → Verdict
ipv4_verdict bytes = if sum_of_bytes (take (ipv4.header_len bytes) bytes) == 65535 then verdict.Right else verdict.Wrong

-- a UDP checksum of 0 means that the sender computed none; over IPv6 it must compute one
abbrev pub zero_udp_verdict : IpAddress → Verdict
zero_udp_verdict src = if udp.is_ipv4 src then verdict.LeftOut else verdict.Wrong

-- what the checksum of a UDP packet says; the device may still have to compute it, and then it is only the
-- pseudo-header sum
abbrev pub udp_verdict : IpAddress → IpAddress → List ℕ → Verdict
udp_verdict src dst bytes =
    if field bytes 48 16 == 0 then zero_udp_verdict src
    else if udp.packet_sum src dst (take (udp.packet_len bytes) bytes) == 65535 then verdict.Right
    else if field bytes 48 16 == udp.pseudo_header_sum src dst bytes then verdict.LeftToDevice
    else verdict.Wrong

-- what the checksum of a UDP packet says that was not captured as a whole
abbrev pub cut_udp_verdict : IpAddress → List ℕ → Verdict
cut_udp_verdict src bytes = if field bytes 48 16 == 0 then zero_udp_verdict src else verdict.ChecksumCut

-- what the checksum of a TCP segment says; the device may still have to compute it, and then it is only the
-- pseudo-header sum
abbrev pub tcp_verdict : IpAddress → IpAddress → List ℕ → Verdict
tcp_verdict src dst bytes =
    if tcp.segment_sum src dst bytes == 65535 then verdict.Right
    else if field bytes 128 16 == tcp.pseudo_header_sum src dst bytes then verdict.LeftToDevice
    else verdict.Wrong

-- what the checksum of an ICMP message says; it covers the whole message, and over IPv6 the pseudo-header too
abbrev pub icmp_verdict : IpAddress → IpAddress → List ℕ → Verdict
icmp_verdict src dst bytes = if verifies src dst bytes then verdict.Right else verdict.Wrong
