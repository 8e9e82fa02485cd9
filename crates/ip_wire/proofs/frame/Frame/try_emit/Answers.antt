use Rattle.std.proofs.Common.{◌≡◌, ◌+◌, ap, rules, take}
use Rattle.ip_wire.proofs.Placed.{placed_after}
use Rattle.ip_wire.specs.FrameValue.{carried_bytes}
use Rattle.wire_ethernet.specs.Ethernet.{bytes_of, frame_bytes_mut}
use Rattle.ip_wire.proofs.frame.Frame.try_emit.Goals as goal

pub returns-in-Some : goal.returns-in-Some
returns-in-Some c =
    let f = c.args.self.now in
    let old = c.args.out.now in
    let room : frame_bytes_mut c.new_unchecked.result ≡ take 14 old = search rules in
    let front = rw room at c.emit.ensures.holds in
    let placed = placed_after (bytes_of f.header) (carried_bytes c.args.caps.now f.carried) old _ c.emit.new.frame.buffer.now c.try_emit.new.out 14 c.in-Some.len
    (search rules) (search rules) (search rules) front (search rules) in
    (ap (λ n. 14 + n) (search rules), placed.0, placed.1)
