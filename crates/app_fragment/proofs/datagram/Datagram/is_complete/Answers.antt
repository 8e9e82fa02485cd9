use Rattle.std.proofs.Common.{◌≡◌, ◌≤◌, length, rules, arith}
use Rattle.app_fragment.specs.Datagram.{fragments_of}
use Rattle.app_fragment.specs.Parts.{part_header_len}
use Rattle.app_fragment.proofs.Agreeing.{found}
use Rattle.app_fragment.proofs.Collected.{header_least, some_header}
use Rattle.app_fragment.proofs.Complete.{complete_packet}
use Rattle.app_fragment.proofs.datagram.Datagram.is_complete.Goals as goal

pub returns-then-part_header_len-lt-IPV4_HEADER_LEN-clause-missing : goal.returns-then-part_header_len-lt-IPV4_HEADER_LEN-clause-missing
returns-then-part_header_len-lt-IPV4_HEADER_LEN-clause-missing c = λ e ps h payload m.
    let d = c.args.self.now in
    let long : length c.args.self.now.header ≡ 60 = search rules in
    let least : 20 ≤ part_header_len c.args.self.now.header = header_least d.header d.key ps long h.all (some_header d c.args.buffer.now c.args.received.now ps payload h m) in
    omega (arith, c.part_header_len.ensures)

pub returns-clause-make : goal.returns-clause-make
returns-clause-make c = λ yes ps h.
    let d = c.args.self.now in
    complete_packet c.args.buffer.now c.args.received.now d.ends.len d.ends.high (fragments_of ps) h.within h.assembles
    (c.is_complete.ensures.some yes) (c.is_complete.ensures.all yes)

pub returns-clause-missing : goal.returns-clause-missing
returns-clause-missing c = λ no ps h payload m.
    let d = c.args.self.now in
    found c.args.buffer.now c.args.received.now d.ends.len d.ends.high (fragments_of ps) payload h.assembles.holds h.assembles.reached m
    (c.is_complete.ensures.missing no)
