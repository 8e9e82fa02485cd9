use Rattle.app_host.proofs.ArpReplies.{no_reply, replied}
use Rattle.app_host.proofs.arp.reply.Goals as goal

pub returns-in-Some : goal.returns-in-Some
returns-in-Some c =
    replied c.args.ours.now c.args.request.now c.arp.result c.in-Arp.message c.in-Some.asker c.in-Some.reply c.in-Arp.is
    ((c.reply_to.ensures c.in-Some.asker c.in-Some.reply).0 c.in-Some.is) c.arp.ensures

pub returns-in-None : goal.returns-in-None
returns-in-None c =
    no_reply c.args.ours.now c.args.request.now c.in-Arp.message c.in-Arp.is (λ asker reply r. absurd (let is = (c.reply_to.ensures asker reply).1 r in let none = c.in-None.is in cc))
