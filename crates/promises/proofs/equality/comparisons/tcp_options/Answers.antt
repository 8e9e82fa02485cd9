use Rattle.std.specs.Cmp.{unsigned_Decides}
use Rattle.std.specs.Cmp.Lexicographic.{pointwise_decides}
use Rattle.ip_wire.specs.declared.TcpOption.TheVariants.{EndOfList, NoOperation, MaxSegmentSize, WindowScale, SackPermitted, SackRange, TimeStamp, Unknown}
use Rattle.promises.proofs.Equal.{alike, also, apart, options, pairs}
use Rattle.promises.proofs.equality.comparisons.tcp_options.Goals as goal

pub returns : goal.returns
returns c EndOfList EndOfList = alike
returns c EndOfList _ = apart
returns c NoOperation NoOperation = alike
returns c NoOperation _ = apart
returns c (MaxSegmentSize m) (MaxSegmentSize n) = unsigned_Decides m n
returns c (MaxSegmentSize _) _ = apart
returns c (WindowScale m) (WindowScale n) = unsigned_Decides m n
returns c (WindowScale _) _ = apart
returns c SackPermitted SackPermitted = alike
returns c SackPermitted _ = apart
returns c (SackRange p) (SackRange q) = pointwise_decides (options (pairs unsigned_Decides unsigned_Decides)) p q
returns c (SackRange _) _ = apart
returns c (TimeStamp m e) (TimeStamp n f) = also (unsigned_Decides m n) (unsigned_Decides e f)
returns c (TimeStamp _ _) _ = apart
returns c (Unknown k p) (Unknown l q) = also (unsigned_Decides k l) (pointwise_decides unsigned_Decides p.now q.now)
returns c (Unknown _ _) _ = apart
