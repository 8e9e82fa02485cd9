use Rattle.std.proofs.Common.{refl, ap}
use Rattle.app_connection.specs.Openings.{renews}
use Rattle.app_connection.specs.Runs.{End}
use Rattle.app_connection.proofs.laws.openings.another_connection_begins.Goals as goal

pub returns : goal.returns
returns c = λ a b k is. renews (record a { number = k }) k refl (ap (λ (x : End). x.was_opened) is) (λ n. refl)
