use Rattle.std.proofs.Common.{◌≡◌, Some, None}
use Rattle.net_base.specs.Checksum.{verifies}
use Rattle.wire_addr.specs.IpVersion.{packet_version}
use Rattle.wire_addr.specs.declared.ip_version.IpVersion.TheVariants as version
use Rattle.wire_ipv4.specs.Ipv4.{ipv4_of}
use Rattle.wire_ip.proofs.IpComputed.{answers-Err, answers-Ok, ip_of_Ipv4, ip_of_Ipv6, ip_of_None}
use Rattle.wire_ipv6.specs.Ipv6.{ipv6_of}
use Rattle.wire_ip.specs.declared.ip.repr.IpRepr.TheVariants.{Ipv4, Ipv6}
use Rattle.wire_ip.proofs.ip.repr.IpRepr.parse.Goals as goal

pub returns-in_err-of_packet : goal.returns-in_err-of_packet
returns-in_err-of_packet c =
    let bytes = c.args.packet.now.buffer.now in
    let verified = verifies c.args.caps.now.ipv4 in
    let version : packet_version bytes ≡ None = rw c.into_inner-bytes.ensures at c.in_err-of_packet.ensures.value in
    let answer = answers-Err verified bytes c.from_residual.result c.from_residual.ensures.0 (ip_of_None verified bytes version) in
    record { reads = answer.reads; value = answer.value }

pub returns-in_err-value-in-Ipv4 : goal.returns-in_err-value-in-Ipv4
returns-in_err-value-in-Ipv4 c =
    let bytes = c.args.packet.now.buffer.now in
    let verified = verifies c.args.caps.now.ipv4 in
    let version : packet_version bytes ≡ Some version.Ipv4 = rw (c.into_inner-bytes.ensures, c.in-Ipv4.is) at c.in_ok-of_packet.ensures.value in
    let read : ipv4_of verified bytes ≡ None = rw (c.new_unchecked.ensures, c.into_inner-bytes.ensures) at c.in_err-value-in-Ipv4.ensures.value in
    let answer = answers-Err verified bytes c.from_residual-in_err-value-in-Ipv4.result c.from_residual-in_err-value-in-Ipv4.ensures.0 (ip_of_Ipv4 verified bytes None version read) in
    record { reads = answer.reads; value = answer.value }

pub returns-in_ok-value-in-Ipv4 : goal.returns-in_ok-value-in-Ipv4
returns-in_ok-value-in-Ipv4 c =
    let bytes = c.args.packet.now.buffer.now in
    let verified = verifies c.args.caps.now.ipv4 in
    let value = c.in_ok-value-in-Ipv4.value in
    let version : packet_version bytes ≡ Some version.Ipv4 = rw (c.into_inner-bytes.ensures, c.in-Ipv4.is) at c.in_ok-of_packet.ensures.value in
    let read : ipv4_of verified bytes ≡ Some value = rw (c.new_unchecked.ensures, c.into_inner-bytes.ensures) at c.in_ok-value-in-Ipv4.ensures.value in
    let answer = answers-Ok verified bytes (Ipv4 value) (ip_of_Ipv4 verified bytes (Some value) version read) in
    record { reads = answer.reads; value = answer.value }

pub returns-in_err-value-in-Ipv6 : goal.returns-in_err-value-in-Ipv6
returns-in_err-value-in-Ipv6 c =
    let bytes = c.args.packet.now.buffer.now in
    let verified = verifies c.args.caps.now.ipv4 in
    let version : packet_version bytes ≡ Some version.Ipv6 = rw (c.into_inner-bytes.ensures, c.in-Ipv6.is) at c.in_ok-of_packet.ensures.value in
    let read : ipv6_of bytes ≡ None = rw (c.new_unchecked-in-Ipv6.ensures, c.into_inner-bytes.ensures) at c.in_err-value-in-Ipv6.ensures.value in
    let answer = answers-Err verified bytes c.from_residual-in_err-value-in-Ipv6.result c.from_residual-in_err-value-in-Ipv6.ensures.0 (ip_of_Ipv6 verified bytes None version read) in
    record { reads = answer.reads; value = answer.value }

pub returns-in_ok-value-in-Ipv6 : goal.returns-in_ok-value-in-Ipv6
returns-in_ok-value-in-Ipv6 c =
    let bytes = c.args.packet.now.buffer.now in
    let verified = verifies c.args.caps.now.ipv4 in
    let value = c.in_ok-value-in-Ipv6.value in
    let version : packet_version bytes ≡ Some version.Ipv6 = rw (c.into_inner-bytes.ensures, c.in-Ipv6.is) at c.in_ok-of_packet.ensures.value in
    let read : ipv6_of bytes ≡ Some value = rw (c.new_unchecked-in-Ipv6.ensures, c.into_inner-bytes.ensures) at c.in_ok-value-in-Ipv6.ensures.value in
    let answer = answers-Ok verified bytes (Ipv6 value) (ip_of_Ipv6 verified bytes (Some value) version read) in
    record { reads = answer.reads; value = answer.value }
