use Rattle.std.proofs.Common.{sym, ap, ◌∙◌}
use Rattle.wire_addr.specs.Bytes.{address_bytes}
use Rattle.wire_addr.proofs.Readers.{groups_once}
use Rattle.wire_addr.proofs.laws.ipv6_one_reading.Goals as goal

pub returns : goal.returns
returns c = λ h k. h.2 ∙ ap address_bytes (groups_once c.args.text.now h.0 k.0 h.1 k.1) ∙ sym k.2
