use Rattle.std.proofs.Common.{sym, ◌∙◌}
use Rattle.ip_frames.proofs.ReadLines.{lines-tcp-unread, lines-udp-unread}
use Rattle.ip_frames.proofs.transport.push_unread.Goals as goal

pub returns-in-Udp : goal.returns-in-Udp
returns-in-Udp c =
    let lines = lines-udp-unread c.args.header.now c.args.bytes.now (sym c.next_header.ensures ∙ c.in-Udp.is) c.requires in
    rw lines (rw (c.udp_verdict.ensures, c.new_unchecked-packet.ensures) at c.push_udp.ensures)

pub returns-in-Tcp : goal.returns-in-Tcp
returns-in-Tcp c =
    let lines = lines-tcp-unread c.args.header.now c.args.bytes.now (sym c.next_header.ensures ∙ c.in-Tcp.is) c.requires in
    rw lines (rw (c.tcp_verdict.ensures, c.new_unchecked-packet-in-Tcp.ensures) at c.push_tcp.ensures)
