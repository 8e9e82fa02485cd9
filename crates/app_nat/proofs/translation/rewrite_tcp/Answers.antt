use Rattle.std.proofs.Common.{◌≡◌, ◌∙◌, length, refl, rules}
use Rattle.ip_wire.proofs.Spelled.{AreBytes}
use Rattle.ip_wire.specs.Field.{field}
use Rattle.app_nat.proofs.EndsRead.{tcp-rewrites}
use Rattle.app_nat.proofs.TcpEnds.{tcp-written}
use Rattle.app_nat.proofs.Translates.{rewritten}
use Rattle.app_nat.specs.Nat.{segment, with_tcp_end}
use Rattle.app_nat.proofs.translation.rewrite_tcp.Goals as goal

pub returns-clause-bytes : goal.returns-clause-bytes
returns-clause-bytes c =
    let bytes = c.args.bytes.now in
    let are : AreBytes bytes = c.bytes_fit.ensures in
    let checksum : c.checksum-checksum.result ≡ field bytes 128 16 = search rules in
    let is = rw (checksum, c.replace_port-old_port.ensures.before) at c.updated_checksum-checksum.ensures in
    let written = tcp-written c.args.side bytes c.args.old c.args.new c.args.port c.updated_checksum-checksum.result are c.requires.len is in
    search rules ∙ written

pub returns-clause-reads : goal.returns-clause-reads
returns-clause-reads c v u payload far named =
    let bytes = c.args.bytes.now in
    let are : AreBytes bytes = c.bytes_fit.ensures in
    let old : length c.args.old ≡ 4 = search rules in
    let new : length c.args.new ≡ 4 = search rules in
    rewritten c.args.side c.args.side v bytes (with_tcp_end c.args.side c.args.old c.args.new c.args.port bytes) _ c.args.new c.args.port (segment u payload) refl (returns-clause-bytes c) (tcp-rewrites c.args.side v bytes c.args.old c.args.new c.args.port u payload are c.requires.len (search rules) old new far named)
