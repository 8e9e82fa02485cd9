use Rattle.std.specs.Cmp.{unsigned_Decides}
use Rattle.std.specs.Cmp.Lexicographic.{pointwise_decides}
use Rattle.ip_wire.specs.Ipv4.{packet_bytes}
use Rattle.ip_wire.specs.declared.Carried.TheVariants.{Arp, Packet, Fragment, Unread}
use Rattle.promises.proofs.Equal.{also, apart}
use Rattle.promises.proofs.equality.comparisons.payloads.Goals as goal

pub returns : goal.returns
returns c (Arp v) (Arp w) = c.eq_is_equality.ensures.arp v w
returns c (Arp _) _ = apart
returns c (Packet v t) (Packet w u) = also (c.eq_is_equality_ip.ensures v w) (c.transports.ensures t u)
returns c (Packet _ _) _ = apart
returns c (Fragment p) (Fragment q) = pointwise_decides unsigned_Decides (packet_bytes p) (packet_bytes q)
returns c (Fragment _) _ = apart
returns c (Unread p) (Unread q) = pointwise_decides unsigned_Decides p.now q.now
returns c (Unread _) _ = apart
