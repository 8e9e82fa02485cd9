use Rattle.std.proofs.Common.{◌≡◌, rules, subst, sym}
use Rattle.ip_wire.specs.Frame.{ReadsFrame, all_checked, datagram, packet}
use Rattle.app_short.proofs.read_frame.udp_packet.Goals as goal

pub returns-in-Err-clause-none : goal.returns-in-Err-clause-none
returns-in-Err-clause-none c = λ none link header ports payload whole.
    let caps : c.default.result ≡ all_checked = search rules in
    let read = packet header (datagram ports payload) in
    (c.in-Err.ensures.reads link read).1 (subst (λ caps. ReadsFrame caps c.args.bytes.now link read) (sym caps) whole)
