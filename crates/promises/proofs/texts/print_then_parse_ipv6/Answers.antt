use Rattle.std.proofs.Common.{◌≡◌, Some, ap, rules, subst, sym}
use Rattle.ip_wire.specs.Printed.{ipv6_text}
use Rattle.ip_wire.specs.Read.{ReadsIpv6}
use Rattle.promises.proofs.texts.print_then_parse_ipv6.Goals as goal

pub returns-in-Ok : goal.returns-in-Ok
returns-in-Ok c =
    let same : c.as_bytes-in-Ok.result.now ≡ ipv6_text c.args.address.now = search rules in
    let again : c.as_bytes-in-Ok.result.now ≡ c.as_bytes.result.now = search rules in
    let printed = subst (λ t. ReadsIpv6 t c.args.address.now) (sym same) c.print_reads_back.ensures.ipv6 in
    let read = subst (λ t. ReadsIpv6 t c.in-Ok.parsed) (sym again) c.in-Ok.ensures in
    ap Some (sym (c.ipv6_one_reading.ensures printed read))

pub returns : goal.returns
returns c =
    let same : c.as_bytes.result.now ≡ ipv6_text c.args.address.now = search rules in
    absurd (c.in-Err.ensures c.args.address.now (subst (λ t. ReadsIpv6 t c.args.address.now) (sym same) c.print_reads_back.ensures.ipv6))
