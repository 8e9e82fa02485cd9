use Rattle.std.proofs.Common.{inr, rules}
use Rattle.std.proofs.lemmas.Slice.Eq.{strip_prefix_is}
use Rattle.wire_addr.proofs.Ipv6.{mapped_text}
use Rattle.wire_addr.proofs.groups_text.mapped_as_printed.Goals as goal

pub returns : goal.returns
returns c = inr (inr (inr (mapped_text c.args.text.now c.in_ok-part.part.now c.in_ok-dotted.field-0 c.mapped.result (search (strip_prefix_is, rules)) c.in_ok-dotted.ensures c.mapped.ensures)))
