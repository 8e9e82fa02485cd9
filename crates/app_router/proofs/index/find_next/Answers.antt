use Rattle.std.proofs.Common.{refl}
use Rattle.app_router.proofs.index.find_next.Goals as goal

pub returns : goal.returns
returns c blocks index =
    c.found.ensures blocks c.args.addr.now c.target-target.ensures.octets c.target-target.ensures.value index (c.if-not-splits.ensures.split refl)
