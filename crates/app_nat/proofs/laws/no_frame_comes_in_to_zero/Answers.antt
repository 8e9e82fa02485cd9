use Rattle.app_nat.proofs.Zeros.{in-ports, in-reason, in-table}
use Rattle.app_nat.proofs.laws.no_frame_comes_in_to_zero.Goals as goal

pub returns-clause-keeps : goal.returns-clause-keeps
returns-clause-keeps c =
    in-ports c.translate_in.result c.args.nat.now c.args.mappings.now c.translate_in.new.mappings c.args.now c.args.frame.now c.translate_in.new.frame
    c.translate_in.ensures.came c.translate_in.ensures.rejected

pub returns-clause-reason : goal.returns-clause-reason
returns-clause-reason c =
    in-reason c.translate_in.result c.args.nat.now c.args.mappings.now c.translate_in.new.mappings c.args.now c.args.frame.now c.translate_in.ensures.rejected

pub returns-clause-table : goal.returns-clause-table
returns-clause-table c =
    in-table c.translate_in.result c.args.nat.now c.args.mappings.now c.translate_in.new.mappings c.args.now c.args.frame.now c.translate_in.ensures.rejected
