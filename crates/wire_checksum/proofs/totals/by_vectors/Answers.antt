use Rattle.std.proofs.Common.{◌*◌, ◌/◌, length, arith}
use Rattle.wire_checksum.proofs.Chains.{ends}
use Rattle.wire_checksum.proofs.totals.by_vectors.Goals as goal

pub returns : goal.returns
returns c =
    ends (length c.args.bytes.now / 32 * 32) c.args.bytes.now c.split_at.result.0.now c.split_at.result.1.now c.lanes.result c.plain.result c.around.result (omega arith) (omega arith) c.split_at.ensures.front c.split_at.ensures.back c.lanes.ensures c.plain.ensures c.around.ensures
