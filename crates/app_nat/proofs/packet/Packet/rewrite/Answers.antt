use Rattle.std.proofs.Common.{List, ℕ, ◌≡◌, ◌++◌, ap, drop, rules, take}
use Rattle.app_nat.proofs.Translates.{carried, translates}
use Rattle.app_nat.proofs.packet.Packet.rewrite.Goals as goal

pub returns-clause-translated : goal.returns-clause-translated
returns-clause-translated c =
    let frame = c.args.frame.now in
    let is = c.requires in
    let header = c.args.self.now.header in
    let described = c.allows_port.ensures is.transport is.described in
    let allowed = described.0 (search rules) in
    let after_header : c.split_at_mut-packet.result.1.now ≡ drop 14 frame = search rules in
    let front : c.split_at_mut-packet.result.0.now ≡ take 14 frame = search rules in
    let carries = rw after_header at c.rewrite_packet.ensures.carries in
    let bytes = rw after_header at c.rewrite_packet.ensures.bytes in
    translates frame _ c.rewrite_packet.new.packet is.link header is.transport c.args.side c.args.addr c.args.port (search rules) c.bytes_fit.ensures is.carries
    (carries is.transport allowed (carried frame is.link header is.transport is.carries)) bytes (ap (λ (l : List ℕ). l ++ c.rewrite_packet.new.packet) front)
