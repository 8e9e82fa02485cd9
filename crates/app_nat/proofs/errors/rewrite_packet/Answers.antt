use Rattle.std.proofs.Common.{List, ℕ, ◌≡◌, ◌↔◌, ◌-◌, ◌∙◌, ap, drop, length, rules, subst, sym, true}
use borrow.Rule.Slice.PartMut.{mid_of, put_mid}
use Rattle.app_edit.proofs.Layouts.{placed}
use Rattle.app_edit.specs.Sides.{opposite}
use Rattle.app_edit.specs.declared.layout.Layout.{Layout}
use Rattle.app_nat.proofs.Quotes.{packet-with}
use Rattle.app_nat.specs.Errors.{Reports, error_with, quoted_of, quoting}
use Rattle.app_nat.specs.Nat.{with_addr, with_address}
use Rattle.ip_wire.specs.Field.{with_range}
use Rattle.ip_wire.specs.Frame.{ipv4_payload}
use Rattle.ip_wire.specs.Ipv4.{HasChecksum, Reads, header_len, total_len}
use Rattle.ip_wire.specs.declared.IpVersion.TheVariants.{Ipv4}
use Rattle.app_nat.proofs.errors.rewrite_packet.Goals as goal

-- the message that is rewritten is the payload of the packet
message : (c : goal.After-slice_known-3-1) → mid_of c.of-layout.result.start (c.of-layout.result.end - c.of-layout.result.start) c.args.bytes.now ≡ ipv4_payload c.args.bytes.now
message c = ap (λ (l : Layout). mid_of l.start (l.end - l.start) c.args.bytes.now) c.of-layout.ensures

-- the packet has it in the place of its payload
inner : (c : goal.After-slice_known-3-1) → put_mid c.of-layout.result.start (c.of-layout.result.end - c.of-layout.result.start) c.args.bytes.now c.rewrite_message.new.bytes ≡ with_range c.args.bytes.now (header_len c.args.bytes.now) (total_len c.args.bytes.now) c.rewrite_message.new.bytes
inner c = placed c.of-layout.result Ipv4 c.args.bytes.now c.rewrite_message.new.bytes c.of-layout.ensures c.requires.within

pub returns-clause-bytes : goal.returns-clause-bytes
returns-clause-bytes c =
    let bytes = c.args.bytes.now in
    let part = c.rewrite_message.new.bytes in
    let side : c.opposite.result ≡ opposite c.args.side = c.opposite.ensures in
    let written : part ≡ error_with c.args.protocol c.args.side c.args.addr c.args.port (ipv4_payload bytes) = rw (message c) at c.rewrite_message.ensures.bytes in
    c.set_addr.ensures.bytes
    ∙ (λ i. with_address (side i) c.args.addr (inner c i))
    ∙ ap (λ (l : List ℕ). with_address (opposite c.args.side) c.args.addr (with_range bytes (header_len bytes) (total_len bytes) l)) written

pub returns-clause-carries : goal.returns-clause-carries
returns-clause-carries c v q named reads r =
    let bytes = c.args.bytes.now in
    let part = c.rewrite_message.new.bytes in
    let side : c.opposite.result ≡ opposite c.args.side = c.opposite.ensures in
    let new = c.set_addr.new.packet in
    let at : new ≡ with_address (opposite c.args.side) c.args.addr (with_range bytes (header_len bytes) (total_len bytes) part) =
    c.set_addr.ensures.bytes ∙ (λ i. with_address (side i) c.args.addr (inner c i)) in
    let whole = packet-with bytes part new v (opposite c.args.side) c.args.addr (search rules) reads (c.rewrite_message.auto.bytes ∙ ap length (message c)) at
    (λ w h. subst (λ s. Reads new true (with_addr s c.args.addr w)) side (c.set_addr.ensures.reads w (subst (λ (l : List ℕ). Reads l true w) (sym (inner c)) h))) in
    let reports : Reports c.args.side part (quoting q c.args.addr c.args.port) = (rw (message c) at c.rewrite_message.ensures.reports) q named r in
    let summed : HasChecksum (quoted_of bytes) ↔ HasChecksum (drop 8 part) = rw (message c) at c.rewrite_message.ensures.summed in (
      whole.0,
      subst (λ (l : List ℕ). Reports c.args.side l (quoting q c.args.addr c.args.port)) (sym whole.1) reports,
      subst (λ (l : List ℕ). HasChecksum (quoted_of bytes) ↔ HasChecksum (drop 8 l)) (sym whole.1) summed,
    )
