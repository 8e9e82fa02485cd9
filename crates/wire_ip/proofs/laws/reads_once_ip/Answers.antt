use Rattle.wire_ip.proofs.IpComputed.{Reads_ip_of}
use Rattle.wire_ip.proofs.laws.reads_once_ip.Goals as goal

pub returns : goal.returns
returns c =
    let value = Reads_ip_of c.args.verified c.args.bytes.now c.args.value c.requires.value in
    let other = Reads_ip_of c.args.verified c.args.bytes.now c.args.other c.requires.other in
    cc
