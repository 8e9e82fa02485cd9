use Rattle.ip_wire.proofs.Options.{value}
use Rattle.ip_wire.proofs.Settles.{meaning_of-only, meaning_of-read}
use Rattle.ip_wire.specs.Frame.{meaning_of}
use Rattle.ip_wire.proofs.laws.meaning_is_read.Goals as goal

pub returns-clause-means : goal.returns-clause-means
returns-clause-means c = meaning_of-read c.args.frame.now

pub returns-clause-only : goal.returns-clause-only
returns-clause-only c = λ whole.
    let (m, is) = value (meaning_of c.args.frame.now) whole in meaning_of-only c.args.frame.now m is
