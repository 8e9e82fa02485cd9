use Rattle.wire_ip.proofs.IpPayload.{payload-fits, payload-len}
use Rattle.wire_ip.proofs.laws.read_payload_fits_ip.Goals as goal

pub returns-clause-len : goal.returns-clause-len
returns-clause-len c = payload-len c.args.bytes.now c.args.verified c.args.value c.requires

pub returns-clause-fits : goal.returns-clause-fits
returns-clause-fits c = payload-fits c.args.bytes.now c.args.verified c.args.value c.requires
