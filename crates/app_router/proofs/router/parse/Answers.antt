use Rattle.std.proofs.Common.{◌≡◌, rules}
use Rattle.ip_wire.specs.Ipv6.{packet_bytes}
use Rattle.app_router.proofs.router.parse.Goals as goal

pub returns-in-Ok-parse-clause-carries : goal.returns-in-Ok-parse-clause-carries
returns-in-Ok-parse-clause-carries c =
    let bytes : packet_bytes c.new_unchecked.result ≡ c.args.packet.now = search rules in
    let reads = rw bytes at c.parse.ensures.reads in
    record { names = c.in-Ipv6.is; reads = (reads c.in-Ok-parse.header).0 c.in-Ok-parse.is }
