use Rattle.std.proofs.Common.{◌≡◌, ◌++◌, ◌∙◌, ◌+◌, List, ℕ, drop, slice_range, ap, arith, refl, rules}
use Rattle.net_base.proofs.Cells.{cells-all}
use Rattle.wire_arp.specs.Arp.{operation_number}
use Rattle.wire_arp.proofs.ArpEmitted.{AreAddresses, front_bytes, packet_written}
use Rattle.wire_arp.proofs.arp.repr.write_ethernet_ipv4.Goals as goal

pub returns : goal.returns
returns c =
    let v = c.args in
    let sha = v.source_hardware_addr.0 in
    let spa = v.source_protocol_addr in
    let tha = v.target_hardware_addr.0 in
    let tpa = v.target_protocol_addr in
    let front = c.write_u64.new.buf in
    let a = c.write_front.new.bytes in
    let addresses : AreAddresses sha spa tha tpa =
    record { source_hardware = search rules; source_protocol = search rules; target_hardware = search rules; target_protocol = search rules } in
    let number : c.from.result ≡ operation_number v.operation = c.from.ensures ∙ c.number.ensures in
    let eight = front_bytes (0x0001080006040000 + c.from.result) (operation_number v.operation) (omega (arith, c.number.ensures)) (omega (arith, number)) in
    let one = c.write_u64.ensures ∙ ap (λ (part : List ℕ). part ++ drop 8 v.bytes.now) eight in
    let two : a ≡ (sha ++ spa ++ tha ++ tpa) ++ drop 20 (slice_range front 8 28) =
    rw (
      c.write_front.ensures,
      c.octets.ensures,
      c.octets-2.ensures,
      cells-all 6 sha addresses.source_hardware,
      cells-all 4 spa addresses.source_protocol,
      cells-all 6 tha addresses.target_hardware,
      cells-all 4 tpa addresses.target_protocol,
    ) refl
    in
    packet_written (operation_number v.operation) sha spa tha tpa v.bytes.now front a addresses c.requires one two
