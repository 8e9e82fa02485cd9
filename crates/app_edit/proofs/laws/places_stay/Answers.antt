use Rattle.app_edit.proofs.Kept.{found}
use Rattle.app_edit.proofs.PlacesStay.{places-stay}
use Rattle.app_edit.proofs.laws.places_stay.Goals as goal

pub returns : goal.returns
returns c o p is allowed =
    places-stay o p c.args.frame.now c.args.bytes.now c.args.at (found c.of.result c.args.frame.now p c.of.ensures.value c.of.ensures.holds is) is c.requires allowed
