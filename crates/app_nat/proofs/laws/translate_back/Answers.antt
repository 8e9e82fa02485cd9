use Rattle.std.proofs.Common.{◌≡◌, IfErr, ap, rules, sym}
use Rattle.std.proofs.lemmas.Result.{IfErr-weaker}
use Rattle.app_nat.proofs.WayBack.{goes-back}
use Rattle.app_nat.proofs.Translates.{untranslated}
use Rattle.app_nat.specs.Nat.{addr_of, on_side}
use Rattle.app_nat.proofs.laws.translate_back.Goals as goal

pub returns-in_err-packet-clause-rejected : goal.returns-in_err-packet-clause-rejected
returns-in_err-packet-clause-rejected c = search (rules, untranslated c.args.frame.now c.args.side c.args.port c.in_err-packet.field-0.0 c.in_err-packet.ensures.rejected)

from_source : (c : goal.After-slice_known-in-Source-1) → (c.translate.new.frame ≡ c.args.frame.now) × IfErr c.translate.result (λ _. ⊥)
from_source c =
    let p = c.in_ok-packet.packet in
    goes-back c.translate.result c.args.frame.now c.rewrite.new.frame c.translate.new.frame p c.args.side c.args.addr p.header.src_addr c.args.port p.src_port
    c.in_ok-packet.ensures.packet c.in_ok-rewrite.ensures.translated (ap (λ s. addr_of s p.header) (sym c.in-Source.is)) (ap (on_side p.src_port p.dst_port) (sym c.in-Source.is))
    c.bytes_fit.ensures (search rules) (search rules) c.requires c.translate.ensures.translated c.translate.ensures.rejected

pub returns-in-Source-clause-same : goal.returns-in-Source-clause-same
returns-in-Source-clause-same c = (from_source c).0

pub returns-in-Source-clause-rejected : goal.returns-in-Source-clause-rejected
returns-in-Source-clause-rejected c = IfErr-weaker c.translate.result _ _ (λ r none. absurd none) (from_source c).1

from_destination : (c : goal.After-slice_known-in-Destination-1) → (c.translate-in-Destination.new.frame ≡ c.args.frame.now) × IfErr c.translate-in-Destination.result (λ _. ⊥)
from_destination c =
    let p = c.in_ok-packet.packet in
    let call = c.translate-in-Destination in
    goes-back call.result c.args.frame.now c.rewrite.new.frame call.new.frame p c.args.side c.args.addr p.header.dst_addr c.args.port p.dst_port
    c.in_ok-packet.ensures.packet c.in_ok-rewrite.ensures.translated (ap (λ s. addr_of s p.header) (sym c.in-Destination.is)) (ap (on_side p.src_port p.dst_port) (sym c.in-Destination.is))
    c.bytes_fit.ensures (search rules) (search rules) c.requires call.ensures.translated call.ensures.rejected

pub returns-in-Destination-clause-same : goal.returns-in-Destination-clause-same
returns-in-Destination-clause-same c = (from_destination c).0

pub returns-in-Destination-clause-rejected : goal.returns-in-Destination-clause-rejected
returns-in-Destination-clause-rejected c = IfErr-weaker c.translate-in-Destination.result _ _ (λ r none. absurd none) (from_destination c).1
