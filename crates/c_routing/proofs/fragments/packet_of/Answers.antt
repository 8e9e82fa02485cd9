use Rattle.std.proofs.Common.{◌≡◌, Some, ap, drop, rules, subst, sym, ◌∙◌}
use Rattle.std.specs.Result.{result_ok}
use Rattle.c_routing.proofs.Fragmenting.{found-ipv4, found-ipv6, lengths-ipv6, none-ipv6}
use Rattle.c_routing.specs.Fragmented.{packet_of}
use Rattle.ip_wire.specs.Ipv6 as ipv6
use Rattle.c_routing.proofs.fragments.packet_of.Goals as goal

pub returns-in-Ok-clause-some : goal.returns-in-Ok-clause-some
returns-in-Ok-clause-some c =
    let back : c.split_at.result.1.now ≡ drop 14 c.args.frame.now = search rules in
    let is : packet_of c.args.frame.now ≡ Some (drop 14 c.args.frame.now) = found-ipv4 c.args.frame.now c.in_ok-link.link c.in-Ok.field-0 (search rules) (search rules) (search rules) in
    rw back is

pub returns-in-Ok-parse-clause-some : goal.returns-in-Ok-parse-clause-some
returns-in-Ok-parse-clause-some c =
    let v = c.in-Ok-parse.field-0 in
    let back : c.split_at.result.1.now ≡ drop 14 c.args.frame.now = search rules in
    let bytes : ipv6.packet_bytes c.new_unchecked-in-Ipv6.result ≡ drop 14 c.args.frame.now = search rules in
    let reads = subst (λ b. ipv6.Reads b v) bytes ((c.parse-in-Ipv6.ensures.reads v).0 c.in-Ok-parse.is) in
    let is : packet_of c.args.frame.now ≡ Some (drop 14 c.args.frame.now) = found-ipv6 c.args.frame.now c.in_ok-link.link v (search rules) (search rules) reads in
    rw back is

pub returns-in-Ok-parse-clause-lengths : goal.returns-in-Ok-parse-clause-lengths
returns-in-Ok-parse-clause-lengths c =
    let v = c.in-Ok-parse.field-0 in
    let bytes : ipv6.packet_bytes c.new_unchecked-in-Ipv6.result ≡ c.split_at.result.1.now = search rules in
    lengths-ipv6 c.split_at.result.1.now v (subst (λ b. ipv6.Reads b v) bytes ((c.parse-in-Ipv6.ensures.reads v).0 c.in-Ok-parse.is))

pub returns-in-Err-parse-clause-none : goal.returns-in-Err-parse-clause-none
returns-in-Err-parse-clause-none c = λ e.
    let bytes : ipv6.packet_bytes c.new_unchecked-in-Ipv6.result ≡ drop 14 c.args.frame.now = search rules in
    none-ipv6 c.args.frame.now c.in_ok-link.link (search rules) (search rules)
    (ap ipv6.ipv6_of (sym bytes) ∙ c.parse-in-Ipv6.ensures.value ∙ ap result_ok c.in-Err-parse.is)
