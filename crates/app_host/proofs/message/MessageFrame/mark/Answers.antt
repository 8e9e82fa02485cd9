use Rattle.std.proofs.Common.{◌≡◌, ◌++◌, ap, drop, length, rules, take}
use Rattle.app_host.proofs.Marked.{remarked-frame}
use Rattle.app_host.proofs.message.MessageFrame.mark.Goals as goal

pub returns : goal.returns
returns c =
    let old = c.args.out.now in
    let part = c.set_dscp.new.packet in
    let front : c.split_at_mut-packet.result.0.now ≡ take 14 old = search rules in
    let dst : length c.args.self.now.header.dst_addr.0 ≡ 6 = search rules in
    let src : length c.args.self.now.header.src_addr.0 ≡ 6 = search rules in
    let following : c.split_at_mut-packet.result.1.now ≡ drop 14 old = search rules in
    remarked-frame c.args.self.now old (c.split_at_mut-packet.result.0.now ++ part) part dst src c.requires.reads (ap (λ l. l ++ part) front) (rw following at c.set_dscp.ensures)
