use Rattle.std.proofs.Common.{rules, Result, Err}
use Rattle.net_base.proofs.Readings.{answer_computed}
use Rattle.net_base.specs.declared.error.Error.{Error}
use Rattle.wire_ipv6.proofs.Ipv6Computed.{ipv6_of-Reads}
use Rattle.wire_ipv6.specs.Ipv6.{Reads, ipv6_of}
use Rattle.wire_ipv6.specs.declared.ipv6.repr.Ipv6Repr.{Ipv6Repr}
use Rattle.wire_ipv6.proofs.ipv6.repr.Ipv6Repr.parse.Goals as goal

pub returns-in_err-check_len-clause-value : goal.returns-in_err-check_len-clause-value
returns-in_err-check_len-clause-value c =
    let bytes = c.args.packet.now.buffer.now in
    answer_computed (Reads bytes) c.from_residual.result (ipv6_of bytes) (search rules) (ipv6_of-Reads bytes)

pub returns-then-version-ne6-clause-value : goal.returns-then-version-ne6-clause-value
returns-then-version-ne6-clause-value c =
    let bytes = c.args.packet.now.buffer.now in
    let rejected : Result Ipv6Repr Error = Err (record {}) in
    answer_computed (Reads bytes) rejected (ipv6_of bytes) (search rules) (ipv6_of-Reads bytes)

pub returns-clause-value : goal.returns-clause-value
returns-clause-value c = (ipv6_of-Reads c.args.packet.now.buffer.now _).1 (search rules)
