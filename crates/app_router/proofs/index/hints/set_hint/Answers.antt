use Rattle.std.proofs.Common.{◌≡◌, get_or}
use Rattle.std.proofs.lemmas.List.{get_or_default}
use Rattle.app_router.specs.Index.{node_at, node_with}
use Rattle.app_router.proofs.HintPlaces.{hint_other, hint_set}
use Rattle.app_router.proofs.Links.{unmarked_set}
use Rattle.app_router.proofs.Splits.{unread}
use Rattle.app_router.proofs.index.hints.set_hint.Goals as goal

pub returns-clause-same : goal.returns-clause-same
returns-clause-same c =
    let nodes = c.args.nodes.now in
    let node = get_or nodes c.args.place unread in
    let same : node ≡ node_at nodes c.args.place = get_or_default nodes c.args.place unread (node_with 0 0 0 0) c.requires in
    unmarked_set nodes c.args.place c.args.hint node same

pub returns-clause-set : goal.returns-clause-set
returns-clause-set c = hint_set c.args.nodes.now c.args.place c.args.hint (get_or c.args.nodes.now c.args.place unread) c.requires

pub returns-clause-others : goal.returns-clause-others
returns-clause-others c k apart = hint_other c.args.nodes.now c.args.place k _ apart
