use Rattle.std.proofs.Common.{◌≡◌, ◌∙◌, false, inl, inr, refl, rules, sym}
use Rattle.std.proofs.lemmas.Result.{on_ok_weaker}
use Rattle.app_nat.proofs.Mapped.{in-zero, kept-outside, undiffering}
use Rattle.app_nat.proofs.flows.packet_in.Goals as goal

pub returns-in_err-packet-clause-rejected : goal.returns-in_err-packet-clause-rejected
returns-in_err-packet-clause-rejected c =
    search (rules, kept-outside c.args.nat.now c.args.mappings.now c.args.now c.args.frame.now c.in_err-packet.field-0.0 c.in_err-packet.ensures.rejected)

pub returns-in_default-clause-rejected : goal.returns-in_default-clause-rejected
returns-in_default-clause-rejected c = inl (
  inr (
    refl,
    record {
      packet = c.in_ok-packet.packet;
      carries = c.in_ok-packet.ensures.packet;
      unmapped = λ own no_request. rw c.event.ensures at c.in_default.ensures.none;
    },
  ),
  c.in_default.ensures.unchanged,
)

for_outside : (c : goal.After-slice_known-2-1) → c.in_ok-packet.packet.header.dst_addr ≡ c.args.nat.now.outside
for_outside c = sym c.octets.ensures ∙ undiffering c.octets.result c.args.nat.now.outside c.ne.result c.ne.ensures c.if-ne.false

pub returns-clause-came : goal.returns-clause-came
returns-clause-came c =
    on_ok_weaker c.rewrite.result
    (λ t. record {
      packet = c.in_ok-packet.packet;
      carries = c.in_ok-packet.ensures.packet;
      outside = for_outside c;
      no_request = λ is. let on = c.is_echo_request.ensures.1 is in let off : c.is_echo_request.result ≡ false = search rules in cc;
      inside = c.in-Some.inside;
      finds = rw (c.event.ensures, c.src.ensures) at c.in-Some.ensures.found;
      translated = t;
    })
    c.rewrite.ensures.translated

pub returns-clause-rejected : goal.returns-clause-rejected
returns-clause-rejected c =
    in-zero c.rewrite.result c.args.nat.now c.args.mappings.now c.find.new.mappings c.args.now c.args.frame.now c.in_ok-packet.packet c.in-Some.inside
    c.in_ok-packet.ensures.packet (for_outside c) (rw (c.event.ensures, c.src.ensures) at c.in-Some.ensures.found) c.rewrite.ensures.rejected c.rewrite.ensures.disallowed
