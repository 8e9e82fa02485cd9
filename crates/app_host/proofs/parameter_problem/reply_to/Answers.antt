use Rattle.std.proofs.Common.{◌≡◌, ◌≤◌, ◌∙◌, None, Some, ap, arith, length, rules, sym}
use Rattle.ip_wire.specs.Protocol.{number_of}
use Rattle.app_host.proofs.ParameterProblems.{IsForUs, no_problem, problem}
use Rattle.app_host.specs.Ipv6Fault.{fault_of}
use Rattle.app_host.specs.declared.ipv6_fault.Fault.TheVariants.{Reported, Silent}
use Rattle.app_host.proofs.parameter_problem.reply_to.Goals as goal

pub returns-then-payload-gt-IPV6_MAX_PAYLOAD_LEN-clause-reply : goal.returns-then-payload-gt-IPV6_MAX_PAYLOAD_LEN-clause-reply
returns-then-payload-gt-IPV6_MAX_PAYLOAD_LEN-clause-reply c =
    let payload = c.args.payload.now in
    let long = c.if-payload-gt-IPV6_MAX_PAYLOAD_LEN.true in
    no_problem c.args.ours.now c.args.frame.now c.args.header.now payload (λ code pointer about fits for_us fault. omega (arith, long, fits))

pub returns-else-not-is_for_us-clause-reply : goal.returns-else-not-is_for_us-clause-reply
returns-else-not-is_for_us-clause-reply c =
    let ours = c.args.ours.now in
    let ip = c.args.header.now in
    let payload = c.args.payload.now in
    let fits : length payload ≤ 65535 = omega arith in
    let for_us : IsForUs ours ip.dst_addr = search rules in
    let fault : fault_of (number_of ip.next_header) payload ≡ Some (Reported c.in-Reported.code c.in-Reported.pointer c.in-Reported.about) =
    ap (λ n. fault_of n payload) (sym c.number.ensures) ∙ sym c.first_fault.ensures ∙ c.in-Some.is ∙ ap Some c.in-Reported.is
    in
    problem ours c.args.frame.now ip payload c.in-Reported.code c.in-Reported.pointer c.in-Reported.about c.error_to.result fits for_us fault c.error_to.ensures.error

pub returns-then-not-is_for_us-clause-reply : goal.returns-then-not-is_for_us-clause-reply
returns-then-not-is_for_us-clause-reply c =
    let none : ¬ IsForUs c.args.ours.now c.args.header.now.dst_addr = search rules in
    no_problem c.args.ours.now c.args.frame.now c.args.header.now c.args.payload.now (λ code pointer about fits for_us fault. none for_us)

pub returns-in-Silent-clause-reply : goal.returns-in-Silent-clause-reply
returns-in-Silent-clause-reply c =
    let payload = c.args.payload.now in
    let silent : fault_of (number_of c.args.header.now.next_header) payload ≡ Some Silent =
    ap (λ n. fault_of n payload) (sym c.number.ensures) ∙ sym c.first_fault.ensures ∙ c.in-Some.is ∙ ap Some c.in-Silent.is
    in
    no_problem c.args.ours.now c.args.frame.now c.args.header.now payload (λ code pointer about fits for_us fault. absurd (let other = silent in cc))

pub returns-in-None-clause-reply : goal.returns-in-None-clause-reply
returns-in-None-clause-reply c =
    let payload = c.args.payload.now in
    let none : fault_of (number_of c.args.header.now.next_header) payload ≡ None = ap (λ n. fault_of n payload) (sym c.number.ensures) ∙ sym c.first_fault.ensures ∙ c.in-None.is in
    no_problem c.args.ours.now c.args.frame.now c.args.header.now payload (λ code pointer about fits for_us fault. absurd (let other = none in cc))
