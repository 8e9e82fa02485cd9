use Rattle.std.specs.Cmp.{unsigned_Decides}
use Rattle.std.specs.Cmp.Lexicographic.{pointwise_decides}
use Rattle.ip_wire.specs.declared.Transport.TheVariants.{Udp, Tcp, Other, Unread}
use Rattle.promises.proofs.Equal.{also, apart}
use Rattle.promises.proofs.equality.comparisons.transports.Goals as goal

pub returns : goal.returns
returns c (Udp v p) (Udp w q) = also (c.eq_is_equality.ensures.udp v w) (pointwise_decides unsigned_Decides p.now q.now)
returns c (Udp _ _) _ = apart
returns c (Tcp v) (Tcp w) = c.segments.ensures v w
returns c (Tcp _) _ = apart
returns c (Other p) (Other q) = pointwise_decides unsigned_Decides p.now q.now
returns c (Other _) _ = apart
returns c (Unread p) (Unread q) = pointwise_decides unsigned_Decides p.now q.now
returns c (Unread _) _ = apart
