use Rattle.std.proofs.Common.{◌≡◌, arith}
use Rattle.std.proofs.lemmas.Grind.{common_steps}
use Rattle.ip_frames.proofs.ReadLines.{lines-ipv4, lines-ipv6-fragment, lines-ipv6-other}
use Rattle.ip_wire.specs.Frame.{ipv4_payload}
use Rattle.ip_wire.specs.Ipv6.{payload_of}
use Rattle.ip_frames.proofs.payload.push_packet.Goals as goal

pub returns-in_ok-writeln-in-Ipv4 : goal.returns-in_ok-writeln-in-Ipv4
returns-in_ok-writeln-in-Ipv4 c =
    let bytes = c.args.bytes.now in
    let lines = lines-ipv4 c.args.header.now c.in-Ipv4.value bytes c.in-Ipv4.is c.requires.packet in
    let payload : c.payload.result.now ≡ ipv4_payload bytes = rw c.new_unchecked-packet.ensures at c.payload.ensures in
    rw (lines, ← payload) (grind (arith, common_steps))

pub returns-in-Ipv6Frag : goal.returns-in-Ipv6Frag
returns-in-Ipv6Frag c =
    let bytes = c.args.bytes.now in
    let lines = lines-ipv6-fragment c.args.header.now c.in-Ipv6.value bytes c.in-Ipv6.is c.requires.packet c.in-Ipv6Frag.is in
    let payload : c.payload-in-Ipv6Frag.result.now ≡ payload_of bytes = rw c.new_unchecked-packet-in-Ipv6.ensures at c.payload-in-Ipv6Frag.ensures in
    rw (lines, ← payload) (grind (arith, common_steps))

pub returns-in_default : goal.returns-in_default
returns-in_default c =
    let bytes = c.args.bytes.now in
    let lines = lines-ipv6-other c.args.header.now c.in-Ipv6.value bytes c.in-Ipv6.is c.requires.packet c.in_default.not-Ipv6Frag in
    let payload : c.payload-in_default.result.now ≡ payload_of bytes = rw c.new_unchecked-packet-in-Ipv6.ensures at c.payload-in_default.ensures in
    rw (lines, ← payload) (grind (arith, common_steps))
