use Rattle.ip_frames.proofs.ReadLines.{lines-arp, lines-fragment}
use Rattle.ip_frames.proofs.payload.push_payload.Goals as goal

pub returns-in-Arp : goal.returns-in-Arp
returns-in-Arp c =
    let found = rw c.in-Arp.is at c.requires in
    rw (lines-arp _ c.in-Arp.value c.args.bytes.now found.0 found.1) c.push_message.ensures

pub returns-in-Fragment : goal.returns-in-Fragment
returns-in-Fragment c =
    let found = rw c.in-Fragment.is at c.requires in
    rw (lines-fragment _ found.2.0 c.args.bytes.now found.2.1 found.1, ← found.0) c.push_fragment.ensures
