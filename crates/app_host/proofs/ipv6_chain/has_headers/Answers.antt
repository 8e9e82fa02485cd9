use Rattle.std.proofs.Common.{◌∙◌, ap, arith, length, suc, sym}
use Rattle.std.specs.Prelude.{nat_le}
use Rattle.app_host.proofs.Ipv6Chains.{has_headers-not, has_headers-to}
use Rattle.app_host.proofs.ipv6_chain.has_headers.Goals as goal

pub returns-in-Some : goal.returns-in-Some
returns-in-Some c =
    ap (λ n. nat_le n (length c.in-Some.message.now)) c.least_len.ensures ∙ sym (has_headers-to (suc (length c.args.bytes.now)) (omega arith) c.in-Some.ensures)

pub returns-in-None : goal.returns-in-None
returns-in-None c = sym (has_headers-not (suc (length c.args.bytes.now)) c.args.number c.args.bytes.now c.in-None.ensures)
