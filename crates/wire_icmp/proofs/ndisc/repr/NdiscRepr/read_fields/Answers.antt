use Rattle.std.proofs.Common.{ℕ, rules, ◌≡◌, ◌-◌, ◌∙◌, List, Option, Some, None, ap, arith, drop, length, length-drop, refl, sym, take}
use Rattle.std.proofs.lemmas.List.{take_all}
use Rattle.wire_addr.specs.declared.ethernet_address.EthernetAddress.{EthernetAddress}
use Rattle.wire_icmp.proofs.NdiscComputed.{value_of-advert, value_of-solicit}
use Rattle.wire_icmp.specs.NdOption.{lladdr_of}
use Rattle.wire_icmp.proofs.ndisc.repr.NdiscRepr.read_fields.Goals as goal

-- the address in the options of the code is that in all bytes after the target
found : (type : ℕ) (bytes read : List ℕ) (lladdr : Option (Option EthernetAddress)) → read ≡ bytes
    → lladdr_of type (take (length read - 24) (drop 24 read)) ≡ lladdr → lladdr_of type (drop 24 bytes) ≡ lladdr
found type bytes read lladdr same is =
    let all = take_all (length read - 24) (drop 24 read) (omega (arith, length-drop 24 read)) in
    ap (lladdr_of type) (ap (drop 24) (sym same) ∙ sym all) ∙ is

pub returns-in_err-lladdr-in-135 : goal.returns-in_err-lladdr-in-135
returns-in_err-lladdr-in-135 c =
    let bytes = c.args.packet.now.buffer.now in
    value_of-solicit bytes None (sym c.msg_type.ensures ∙ c.in-135.is) (found 1 bytes _ None c.as_bytes-bytes.ensures c.in_err-lladdr-in-135.ensures) ∙ search rules

pub returns-in_err-lladdr-in-136 : goal.returns-in_err-lladdr-in-136
returns-in_err-lladdr-in-136 c =
    let bytes = c.args.packet.now.buffer.now in
    value_of-advert bytes None (sym c.msg_type.ensures ∙ c.in-136.is) (found 2 bytes _ None c.as_bytes-bytes.ensures c.in_err-lladdr-in-136.ensures) ∙ search rules

pub returns-in_ok-lladdr-in-135 : goal.returns-in_ok-lladdr-in-135
returns-in_ok-lladdr-in-135 c =
    let bytes = c.args.packet.now.buffer.now in
    let lladdr = Some c.in_ok-lladdr-in-135.lladdr in
    value_of-solicit bytes lladdr (sym c.msg_type.ensures ∙ c.in-135.is) (found 1 bytes _ lladdr c.as_bytes-bytes.ensures c.in_ok-lladdr-in-135.ensures)
    ∙ rw (c.from_octets-target_addr.ensures, c.array_at.ensures, c.as_bytes-bytes.ensures) refl

pub returns-in_ok-lladdr-in-136 : goal.returns-in_ok-lladdr-in-136
returns-in_ok-lladdr-in-136 c =
    let bytes = c.args.packet.now.buffer.now in
    let lladdr = Some c.in_ok-lladdr-in-136.lladdr in
    value_of-advert bytes lladdr (sym c.msg_type.ensures ∙ c.in-136.is) (found 2 bytes _ lladdr c.as_bytes-bytes.ensures c.in_ok-lladdr-in-136.ensures)
    ∙ rw (c.from_octets-target_addr.ensures, c.array_at.ensures, c.read_flags.ensures, c.as_bytes-bytes.ensures) refl
