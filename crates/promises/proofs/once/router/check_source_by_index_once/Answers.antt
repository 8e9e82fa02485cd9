use Rattle.promises.proofs.RouterOnce.{index_fault}
use Rattle.promises.proofs.once.router.check_source_by_index_once.Goals as goal

pub returns : goal.returns
returns c = index_fault c.args.routes.now c.args.nodes.now c.args.src.now c.args.interface c.check_source_by_index.result c.check_source_by_index-2.result c.requires
    c.check_source_by_index.ensures c.check_source_by_index-2.ensures
