use Rattle.std.proofs.Common.{refl}
use Rattle.std.proofs.Output.{has_written_append}
use Rattle.wire_arp.specs.ArpText.{fields_text}
use Rattle.wire_arp.proofs.arp.text.write_fields.Goals as goal

pub returns : goal.returns
unfolding fields_text
returns g c plain ok =
    let numbers = c.in_ok-write_numbers.ensures plain refl in
    rw (← c.hardware_type.ensures, ← c.protocol_type.ensures, ← c.hardware_len.ensures, ← c.protocol_len.ensures, ← c.operation.ensures)
    (has_written_append _ _ _ _ _ _ numbers (c.write_addresses.ensures numbers.plain ok))
