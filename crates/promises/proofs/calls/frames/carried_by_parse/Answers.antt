use Rattle.std.proofs.Common.{◌∙◌, sym}
use Rattle.promises.proofs.Found.{carried_read}
use Rattle.promises.proofs.calls.frames.carried_by_parse.Goals as goal

pub returns : goal.returns
returns c = c.is_read-is_read.ensures ∙ carried_read c.args.caps.now c.args.ethertype c.args.bytes.now c.read.result c.parse.result c.read.ensures c.parse.ensures.ok c.parse.ensures.reads ∙ sym c.is_ok.ensures.value
