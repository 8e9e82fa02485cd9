use Rattle.app_host.proofs.HostReplies.{by_arp}
use Rattle.app_host.proofs.KindReplies.{by-frame, no-arp}
use Rattle.ip_wire.specs.declared.Carried.TheVariants as carried
use Rattle.ip_wire.specs.declared.Frame.{Frame}
use Rattle.app_host.proofs.kinds.answer_arp.Goals as goal

pub returns-in-Some : goal.returns-in-Some
returns-in-Some c = λ bytes found.
    let host = c.args.host.now in
    let request : Frame = record { header = c.args.link; carried = carried.Arp c.args.message } in
    by-frame host bytes request c.args.out.now c.send_inlined.new.out c.send_inlined.result found
    (record { reply = c.in-Some.reply; gives = by_arp host request c.in-Some.reply c.in-Some.ensures; sends = c.send_inlined.ensures })

pub returns-in-None : goal.returns-in-None
returns-in-None c = λ bytes found. no-arp c.args.host.now bytes c.args.link c.args.message c.args.out.now c.in-None.ensures found

pub send_inlined-requires : goal.send_inlined-requires
send_inlined-requires c = c.in-Some.ensures.0
