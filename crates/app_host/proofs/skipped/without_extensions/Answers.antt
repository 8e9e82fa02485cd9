use Rattle.std.proofs.Common.{◌∙◌, Option, ap, drop, sym}
use Rattle.std.specs.Option.{option_map_or}
use Rattle.ip_wire.specs.Protocol.{number_of}
use Rattle.wire_extensions.specs.Extension.{is_extension}
use Rattle.wire_extensions.specs.declared.chain.Chain.{Chain}
use Rattle.app_host.proofs.Skips.{none-skipped}
use Rattle.app_host.specs.Skipped.{header_past}
use Rattle.app_host.proofs.skipped.without_extensions.Goals as goal

pub returns-then-not-is_extension : goal.returns-then-not-is_extension
returns-then-not-is_extension c =
    let v = c.args.header in
    let payload = c.args.payload.now in
    let number = number_of v.next_header in
    let off = ap is_extension (sym c.number-number.ensures) ∙ (sym c.is_extension.ensures ∙ c.if-not-is_extension.true) in
    sym (ap (λ (o : Option Chain). option_map_or (λ (d : Chain). (header_past v payload d, drop d.len payload)) o (v, payload)) (none-skipped number payload off))
