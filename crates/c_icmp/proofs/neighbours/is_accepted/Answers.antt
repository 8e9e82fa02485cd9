use Rattle.std.proofs.Common.{◌≡◌, refl}
use Rattle.wire_icmp.specs.Ndisc.{is_allowed}
use Rattle.c_icmp.proofs.Ndiscs.{accepted}
use Rattle.c_icmp.specs.Neighbours.{ndisc_value}
use Rattle.c_icmp.proofs.neighbours.is_accepted.Goals as goal

pub returns : goal.returns
returns c =
    let f = c.args.frame.now in
    let n = c.args.ndisc.now in
    let value : c.value.result ≡ ndisc_value n = c.value.ensures in
    let test = rw (value, c.ipv6-src.ensures, c.ipv6-dst.ensures) at c.is_allowed.ensures in
    accepted (ndisc_value n) f.src.addr.octets f.dst.addr.octets c.is_allowed.result (is_allowed (ndisc_value n) f.src.addr.octets f.dst.addr.octets) refl test
