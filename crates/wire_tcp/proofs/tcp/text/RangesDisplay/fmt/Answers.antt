use Rattle.std.proofs.Common.{subst}
use Rattle.std.specs.Fmt.{DisplaysOnOk}
use Rattle.wire_tcp.proofs.TcpTexts.{debug_list_of_ranges}
use Rattle.wire_tcp.proofs.tcp.text.RangesDisplay.fmt.Goals as goal

pub returns-clause-writes : goal.returns-clause-writes
returns-clause-writes g c =
    subst (λ o. DisplaysOnOk g.W.Write.write_str_gives c.args.f.now c.write.result o c.write.new.self)
    (debug_list_of_ranges c.args.self.now.0.now) c.write.ensures.writes
