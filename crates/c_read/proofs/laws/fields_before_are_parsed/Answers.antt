use Rattle.c_read.proofs.StoredParts.{stores-fragment, stores-rejected, stores-unread}
use Rattle.c_read.proofs.laws.fields_before_are_parsed.Goals as goal

pub returns : goal.returns
returns c =
    let frame = c.args.frame.now in
    record { fragment = stores-fragment frame; rejected = stores-rejected frame; unread = stores-unread frame }
