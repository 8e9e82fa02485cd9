use Rattle.std.proofs.Common.{arith}
use Rattle.std.proofs.lemmas.Grind.{common_steps}
use Rattle.ip_frames.proofs.ReadLines.{lines-ipv4-unread, lines-ipv6-unread}
use Rattle.ip_frames.proofs.payload.push_unread.Goals as goal

pub returns-in-Ipv4 : goal.returns-in-Ipv4
returns-in-Ipv4 c = rw (lines-ipv4-unread c.args.ethertype c.args.bytes.now c.in-Ipv4.is c.requires) (grind (arith, common_steps))

pub returns-in-Ipv6 : goal.returns-in-Ipv6
returns-in-Ipv6 c = rw (lines-ipv6-unread c.args.ethertype c.args.bytes.now c.in-Ipv6.is c.requires) (grind (arith, common_steps))
