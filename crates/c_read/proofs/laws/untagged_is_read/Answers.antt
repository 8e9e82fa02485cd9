use Rattle.std.proofs.Common.{◌∙◌, sym}
use Rattle.c_read.proofs.Untagged.{linked-whole}
use Rattle.c_read.proofs.laws.untagged_is_read.Goals as goal

pub returns : goal.returns
returns c none = c.read_linked.ensures.value ∙ linked-whole c.args.bytes.now none ∙ sym c.read_frame.ensures.value
