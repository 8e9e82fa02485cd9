use Rattle.std.proofs.Common.{◌≡◌, Some, length, rules}
use Rattle.app_host.proofs.Marked.{emitted-unmarked, sent-marked}
use Rattle.app_host.proofs.Messages.{sent}
use Rattle.app_host.proofs.message.MessageFrame.send.Goals as goal

pub mark-requires-clause-reads : goal.mark-requires-clause-reads
mark-requires-clause-reads c =
    let same : length c.try_emit.new.out ≡ length c.args.out.now = search rules in
    let (len, fits, rest, reads, written) = sent c.args.self.now c.args.out.now c.try_emit.new.out (Some c.in-Some.len) c.requires c.message_composes.ensures same c.in-Some.ensures in
    reads

pub mark-requires-clause-unmarked : goal.mark-requires-clause-unmarked
mark-requires-clause-unmarked c = emitted-unmarked c.args.self.now c.args.out.now c.try_emit.new.out c.in-Some.len (search rules) (search rules) c.in-Some.ensures

pub returns-in-Some-clause-sends : goal.returns-in-Some-clause-sends
returns-in-Some-clause-sends c =
    let same : length c.try_emit.new.out ≡ length c.args.out.now = search rules in
    sent-marked c.args.self.now c.args.out.now c.try_emit.new.out c.mark.new.out c.in-Some.len
    (sent c.args.self.now c.args.out.now c.try_emit.new.out (Some c.in-Some.len) c.requires c.message_composes.ensures same c.in-Some.ensures) c.mark.ensures
