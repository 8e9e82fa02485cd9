use Rattle.promises.proofs.RouterOnce.{one_back}
use Rattle.promises.proofs.once.tables.check_source_by_both.Goals as goal

pub returns : goal.returns
returns c = one_back c.args.routes.now c.args.src.now c.args.interface c.check_source_by_table.result c.check_source_by_index.result
    (c.check_source_by_table.ensures c.requires.index c.requires.table) (c.check_source_by_index.ensures c.requires.index)
