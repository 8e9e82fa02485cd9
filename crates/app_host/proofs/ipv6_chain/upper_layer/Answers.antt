use Rattle.std.proofs.Common.{◌≡◌, ◌∙◌, sym, true, false, arith}
use Rattle.app_host.specs.Ipv6Chain.{ends, goes_on, is_extension_header}
use Rattle.app_host.proofs.Ipv6Chains.{leads_along, next_leads}
use Rattle.app_host.proofs.ipv6_chain.upper_layer.Goals as goal

pub returns-in_default : goal.returns-in_default
returns-in_default c =
    λ protocol message leads.
    let on : is_extension_header c.loop-rest.number ≡ true = sym c.is_extension_header.ensures ∙ c.loop-rest-test.true in
    let whole = (next_leads ((c.loop-rest.invariant protocol message).0 leads) on).0 in
    omega (arith, whole, c.header_after.ensures.cut c.in_default.is)

pub loop-rest-preserved : goal.loop-rest-preserved
loop-rest-preserved c =
    λ protocol message.
    let before = c.loop-rest.invariant protocol message in
    let on : is_extension_header c.loop-rest.number ≡ true = sym c.is_extension_header.ensures ∙ c.loop-rest-test.true in
    let after = c.in-Some.ensures in (
      λ leads. leads_along (sym after.next) (sym after.following) (next_leads (before.0 leads) on).1,
      λ leads. before.1 (goes_on c.loop-rest.number c.loop-rest.rest.now on after.whole (leads_along after.next after.following leads)),
    )

pub returns : goal.returns
returns c =
    let off : is_extension_header c.loop-rest.number ≡ false = sym c.is_extension_header.ensures ∙ c.loop-rest-test.false in
    (c.loop-rest.invariant c.loop-rest.number c.loop-rest.rest.now).1 (ends off)
