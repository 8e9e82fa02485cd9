use Rattle.std.proofs.Common.{SFits, rules, w64}
use Rattle.c_icmp.proofs.ErrorReplies.{written}
use Rattle.c_icmp.proofs.interfaces.write_message.Goals as goal

pub returns : goal.returns
returns c =
    let fits : SFits w64 c.returned.result = search rules in
    written c.args.frame.now _ _ _ _ c.send_message.ensures.beyond c.send_message.ensures.within c.returned.ensures fits
