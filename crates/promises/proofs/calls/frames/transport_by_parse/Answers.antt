use Rattle.std.proofs.Common.{◌∙◌, sym}
use Rattle.promises.proofs.Found.{transport_read}
use Rattle.promises.proofs.calls.frames.transport_by_parse.Goals as goal

pub returns : goal.returns
returns c = c.is_read-is_read.ensures ∙ transport_read c.args.caps.now c.args.header.now c.args.bytes.now c.read.result c.parse.result c.read.ensures c.parse.ensures.ok c.parse.ensures.reads ∙ sym c.is_ok.ensures.value
