use Rattle.app_options.proofs.Scales.{at_most, near}
use Rattle.app_options.proofs.laws.what_is_told_fits.Goals as goal

pub returns-clause-most : goal.returns-clause-most
returns-clause-most c =
    let bound = at_most c.args.own.now.peer_scale _ c.args.size c.args.window c.requires.knows in
    rw (c.window_in.ensures.value, c.from.ensures, c.window_out.ensures.value) bound

pub returns-clause-scaled : goal.returns-clause-scaled
returns-clause-scaled c scaled ring size =
    let bound = near c.args.own.now.peer_scale _ c.args.size c.args.window c.requires.knows scaled ring size in
    rw (c.window_in.ensures.value, c.from.ensures, c.window_out.ensures.value) bound
