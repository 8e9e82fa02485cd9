use Rattle.std.proofs.Common.{◌≡◌, inr, refl, rules}
use Rattle.std.proofs.lemmas.Result.{IfErr-weaker, on_err_weaker, on_ok_weaker}
use Rattle.app_nat.proofs.Mapped.{kept-inside, disallowed-zero}
use Rattle.app_edit.specs.declared.side.Side.TheVariants.{Source}
use Rattle.app_nat.proofs.flows.packet_out.Goals as goal

pub returns-in_err-packet-clause-rejected : goal.returns-in_err-packet-clause-rejected
returns-in_err-packet-clause-rejected c =
    search (rules, kept-inside c.args.nat.now c.args.mappings.now c.args.now c.args.frame.now c.in_err-packet.field-0.0 c.in_err-packet.ensures.rejected)

pub returns-clause-out : goal.returns-clause-out
returns-clause-out c =
    let outside : c.from_octets.result ≡ c.args.nat.now.outside = search rules in
    on_ok_weaker c.rewrite.result
    (λ t. record {
      packet = c.in_ok-packet.packet;
      carries = c.in_ok-packet.ensures.packet;
      answerable = search rules;
      port = c.in-Some.port;
      opens = rw (c.event.ensures, c.src.ensures, c.dst.ensures) at c.in-Some.ensures.opened;
      translated = rw outside at t;
    })
    c.rewrite.ensures.translated

pub returns-clause-rejected : goal.returns-clause-rejected
returns-clause-rejected c = IfErr-weaker c.rewrite.result _ _ (λ r why. absurd (c.in-Some.ensures.port (disallowed-zero c.args.frame.now Source c.in-Some.port why))) c.rewrite.ensures.disallowed

pub returns-clause-table : goal.returns-clause-table
returns-clause-table c = on_err_weaker c.rewrite.result (λ why. absurd (c.in-Some.ensures.port (disallowed-zero c.args.frame.now Source c.in-Some.port why))) c.rewrite.ensures.disallowed

pub returns-in_default-clause-rejected : goal.returns-in_default-clause-rejected
returns-in_default-clause-rejected c =
    inr (inr (
      refl,
      record {
        packet = c.in_ok-packet.packet;
        carries = c.in_ok-packet.ensures.packet;
        answerable = search rules;
        full = rw (c.event.ensures, c.src.ensures) at c.in_default.ensures.full;
      },
    ))
