use Rattle.std.proofs.Common.{◌≡◌, ◌↔◌, IsTrue, rules}
use Rattle.ip_wire.specs.Ipv6.{payload_of}
use Rattle.ip_wire.specs.Protocol.{number_of}
use Rattle.app_host.specs.Ipv6Chain.{LeadsNowhere, LeadsTo}
use Rattle.app_host.proofs.IcmpErrors.{told_by, told_nowhere}
use Rattle.app_host.proofs.Ipv6Chains.{leads_along, nowhere_along}
use Rattle.app_host.specs.declared.icmp_error.About.TheVariants.{Fragments}
use Rattle.app_host.proofs.icmp_error.is_told_of_ipv6.Goals as goal

pub returns-in-Some : goal.returns-in-Some
returns-in-Some c =
    let n = number_of c.args.header.now.next_header in
    let payload : c.payload-payload.result.now ≡ payload_of c.args.packet.now = search rules in
    let leads : LeadsTo c.in-Some.protocol c.in-Some.message.now n (payload_of c.args.packet.now) = leads_along c.number.ensures payload c.in-Some.ensures in
    told_by c.args.about c.in-Some.protocol n c.in-Some.message.now (payload_of c.args.packet.now) c.is_icmp_error.result leads c.is_icmp_error.ensures

pub returns-in-None : goal.returns-in-None
returns-in-None c =
    let n = number_of c.args.header.now.next_header in
    let payload : c.payload-payload.result.now ≡ payload_of c.args.packet.now = search rules in
    let none : LeadsNowhere n (payload_of c.args.packet.now) = nowhere_along c.number.ensures payload c.in-None.ensures in
    let same : IsTrue c.eq.result ↔ (c.args.about ≡ Fragments) = search rules in
    told_nowhere c.args.about n (payload_of c.args.packet.now) c.eq.result none same
