use Rattle.ip_wire.proofs.Unread.{frame-stays, payload-unread-stays}
use Rattle.ip_wire.proofs.laws.unread_stays.Goals as goal

pub returns-clause-carried : goal.returns-clause-carried
returns-clause-carried c = frame-stays c.args.frame.now (λ i. (c.type_inv.frame i).fits)

pub returns-clause-transport : goal.returns-clause-transport
returns-clause-transport c = payload-unread-stays c.args.frame.now
