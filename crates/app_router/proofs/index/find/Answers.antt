use Rattle.app_router.proofs.index.find.Goals as goal

pub returns : goal.returns
returns c blocks index =
    c.found.ensures blocks c.args.addr.now c.target-target.ensures.octets c.target-target.ensures.value index c.count_up_to.ensures.split
