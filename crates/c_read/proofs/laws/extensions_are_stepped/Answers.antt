use Rattle.wire_extensions.proofs.Leads.{chain-leads}
use Rattle.c_read.proofs.PlainFrame.{plain-steps}
use Rattle.c_read.proofs.laws.extensions_are_stepped.Goals as goal

pub returns : goal.returns
returns c = record {
  leads = chain-leads c.args.protocol c.args.payload.now;
  plain = plain-steps c.args.caps c.args.frame.now;
}
