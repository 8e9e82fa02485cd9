use Rattle.std.proofs.Common.{◌≡◌, ◌-◌, get_or, take, drop, length, arith, rules}
use Rattle.std.proofs.lemmas.Grind.{common_steps}
use Rattle.wire_addr.proofs.Prints.{hex_joined-pairs, padded, padded_hex_byte}
use Rattle.wire_addr.specs.Printed.{hex_byte}
use Rattle.wire_addr.specs.Grammar.{colon}
use Rattle.wire_addr.proofs.raw_hardware_address.RawHardwareAddressDisplay.fmt.Goals as goal

pub loop-octet-init : goal.loop-octet-init
loop-octet-init g c =
    let first = get_or c.args.self.now 0 0 in
    let pair : padded first ≡ hex_byte first = padded_hex_byte first (search rules) in
    first_of (search rules, grind (arith, common_steps))

pub loop-octet-preserved : goal.loop-octet-preserved
loop-octet-preserved g c =
    let octet = get_or (take (length c.as_bytes.result.now - 1) (drop 1 c.as_bytes.result.now)) c.loop-octet.octet-index 0 in
    let pair : padded octet ≡ hex_byte octet = padded_hex_byte octet (search rules) in
    first_of (search rules, grind (arith, common_steps))

pub returns-after-loop-octet-clause-writes : goal.returns-after-loop-octet-clause-writes
returns-after-loop-octet-clause-writes g c = rw (hex_joined-pairs colon c.args.self.now) (first_of (search rules, grind (arith, common_steps)))
