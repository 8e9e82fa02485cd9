use Rattle.std.proofs.Common.{◌≡◌, ◌≢◌, ◌∙◌, ◌-◌, ap, length, refl, rules}
use Rattle.ip_wire.proofs.Spelled.{AreBytes}
use Rattle.ip_wire.specs.Field.{field}
use Rattle.ip_wire.specs.Udp.{checksum_for}
use Rattle.app_nat.proofs.EndsRead.{udp-rewrites}
use Rattle.app_nat.proofs.Translates.{rewritten}
use Rattle.app_nat.proofs.UdpEnds.{udp-unsummed, udp-written}
use Rattle.app_nat.specs.Nat.{datagram, with_udp_end}
use Rattle.app_nat.proofs.translation.rewrite_udp.Goals as goal

pub returns-then-checksum-eq0-clause-reads : goal.returns-then-checksum-eq0-clause-reads
returns-then-checksum-eq0-clause-reads c v u payload far named =
    let bytes = c.args.bytes.now in
    let are : AreBytes bytes = c.bytes_fit.ensures in
    let old : length c.args.old ≡ 4 = search rules in
    let new : length c.args.new ≡ 4 = search rules in
    let none : field bytes 48 16 ≡ 0 = search rules in
    rewritten c.args.side c.args.side v bytes (with_udp_end c.args.side c.args.old c.args.new c.args.port bytes) _ c.args.new c.args.port (datagram u payload) refl
    (c.replace_port-old_port.ensures.written ∙ udp-unsummed c.args.side bytes c.args.old c.args.new c.args.port are c.requires.len none)
    (udp-rewrites c.args.side v bytes c.args.old c.args.new c.args.port u payload are c.requires.len (search rules) old new far named)

pub returns-clause-bytes : goal.returns-clause-bytes
returns-clause-bytes c =
    let bytes = c.args.bytes.now in
    let are : AreBytes bytes = c.bytes_fit.ensures in
    let checksum : c.checksum-checksum.result ≡ field bytes 48 16 = search rules in
    let usual : field bytes 48 16 ≢ 0 = rw checksum at c.if-checksum-eq0.false in
    let sum = rw (checksum, c.replace_port-old_port.ensures.before) at c.updated_checksum-checksum.ensures in
    let is = c.udp_checksum.ensures ∙ ap (λ n. checksum_for (65535 - n)) sum in
    let written = udp-written c.args.side bytes c.args.old c.args.new c.args.port c.udp_checksum.result are c.requires.len usual is in
    search rules ∙ written

pub returns-clause-reads : goal.returns-clause-reads
returns-clause-reads c v u payload far named =
    let bytes = c.args.bytes.now in
    let are : AreBytes bytes = c.bytes_fit.ensures in
    let old : length c.args.old ≡ 4 = search rules in
    let new : length c.args.new ≡ 4 = search rules in
    rewritten c.args.side c.args.side v bytes (with_udp_end c.args.side c.args.old c.args.new c.args.port bytes) _ c.args.new c.args.port (datagram u payload) refl (returns-clause-bytes c)
    (udp-rewrites c.args.side v bytes c.args.old c.args.new c.args.port u payload are c.requires.len (search rules) old new far named)
