use Rattle.app_fragment.proofs.Slots.{place-unique}
use Rattle.app_fragment.proofs.laws.partials.place_is_unique.Goals as goal

pub returns : goal.returns
returns c = place-unique c.args.partials.now c.args.now c.args.key.now
