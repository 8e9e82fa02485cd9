use Rattle.app_nat.proofs.Zeros.{out-ports}
use Rattle.app_nat.proofs.laws.no_mapping_leads_to_zero.Goals as goal

pub returns : goal.returns
returns c =
    out-ports c.translate_out.result c.args.nat.now c.args.mappings.now c.translate_out.new.mappings c.args.now c.args.frame.now c.translate_out.new.frame
    c.translate_out.ensures.out c.translate_out.ensures.table
