use Rattle.std.proofs.Common.{◌≡◌, ◌∙◌, ap, false, refl, slice_range, sym, true}
use Rattle.ip_wire.proofs.Found.{reads-nothing}
use Rattle.wire_ipv4.specs.Ipv4.{header_len, is_fragment, total_len}
use Rattle.wire_ipv6.specs.Ipv6.{payload_of}
use Rattle.ip_wire.proofs.frame.carried.Carried.read.Goals as goal

pub returns-in-Ok : goal.returns-in-Ok
returns-in-Ok c =
    let read = ((rw c.new_unchecked-packet.ensures at c.in-Ok.ensures.reads) c.in-Ok.field-0).0 refl in
    let part : is_fragment c.args.bytes.now ≡ true = ap (λ slice. is_fragment slice.now) (sym c.new_unchecked-packet.ensures) ∙ sym c.is_fragment.ensures ∙ c.if-is_fragment.true in
    (ap (λ slice. slice.now) c.new_unchecked-packet.ensures, part, (_, (c.in-Ipv4.is, read)))

pub returns-in-Ok-2 : goal.returns-in-Ok-2
returns-in-Ok-2 c =
    let read = ((rw c.new_unchecked-packet.ensures at c.in-Ok.ensures.reads) c.in-Ok.field-0).0 refl in
    let whole : is_fragment c.args.bytes.now ≡ false = ap (λ slice. is_fragment slice.now) (sym c.new_unchecked-packet.ensures) ∙ sym c.is_fragment.ensures ∙ c.if-is_fragment.false in
    let payload : c.payload.result.now ≡ slice_range c.args.bytes.now (header_len c.args.bytes.now) (total_len c.args.bytes.now) = rw c.new_unchecked-packet.ensures at c.payload.ensures in
    (c.in-Ipv4.is, (read, whole), rw payload at c.read.ensures)

pub returns-in-Err : goal.returns-in-Err
returns-in-Err c =
    let none = rw c.new_unchecked-packet.ensures at c.in-Err.ensures.reads in (
      reads-nothing c.args.caps.now c.args.ethertype c.args.bytes.now (λ w type r. let apart = sym c.in-Ipv4.is ∙ type in cc)
          (λ w type r. let apart = (none w).1 r in cc) (λ w type r. let apart = sym c.in-Ipv4.is ∙ type in cc),
      refl,
    )

pub returns-in-Ok-parse : goal.returns-in-Ok-parse
returns-in-Ok-parse c =
    let read = ((rw c.new_unchecked-packet-in-Ipv6.ensures at c.in-Ok-parse.ensures.reads) c.in-Ok-parse.value).0 refl in
    let payload : c.payload-in-Ok-parse.result.now ≡ payload_of c.args.bytes.now = rw c.new_unchecked-packet-in-Ipv6.ensures at c.payload-in-Ok-parse.ensures in
    (c.in-Ipv6.is, read, rw payload at c.read-in-Ok-parse.ensures)

pub returns-in-Err-parse : goal.returns-in-Err-parse
returns-in-Err-parse c =
    let none = rw c.new_unchecked-packet-in-Ipv6.ensures at c.in-Err-parse.ensures.reads in (
      reads-nothing c.args.caps.now c.args.ethertype c.args.bytes.now (λ w type r. let apart = sym c.in-Ipv6.is ∙ type in cc)
          (λ w type r. let apart = sym c.in-Ipv6.is ∙ type in cc) (λ w type r. let apart = (none w).1 r in cc),
      refl,
    )

pub returns-in-Ok-parse-2 : goal.returns-in-Ok-parse-2
returns-in-Ok-parse-2 c =
    let read = ((rw c.new_unchecked.ensures at c.in-Ok-parse-2.ensures.reads) c.in-Ok-parse-2.value).0 refl in
    (c.in-Arp.is, read)

pub returns-in-Err-parse-2 : goal.returns-in-Err-parse-2
returns-in-Err-parse-2 c =
    let none = rw c.new_unchecked.ensures at c.in-Err-parse-2.ensures.reads in (
      reads-nothing c.args.caps.now c.args.ethertype c.args.bytes.now (λ w type r. let apart = (none w).1 r in cc)
          (λ w type r. let apart = sym c.in-Arp.is ∙ type in cc) (λ w type r. let apart = sym c.in-Arp.is ∙ type in cc),
      refl,
    )

pub returns-in-Unknown : goal.returns-in-Unknown
returns-in-Unknown c = (
  reads-nothing c.args.caps.now c.args.ethertype c.args.bytes.now (λ w type r. let apart = sym c.in-Unknown.is ∙ type in cc)
      (λ w type r. let apart = sym c.in-Unknown.is ∙ type in cc) (λ w type r. let apart = sym c.in-Unknown.is ∙ type in cc),
  refl,
)
