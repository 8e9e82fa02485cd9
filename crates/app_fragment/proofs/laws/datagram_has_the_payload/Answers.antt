use Rattle.std.proofs.lemmas.Option.{IfSome_then}
use Rattle.app_fragment.proofs.Made.{payload_made}
use Rattle.app_fragment.proofs.Orders.{any_order, cut_makes}
use Rattle.app_fragment.proofs.Unique.{unique}
use Rattle.app_fragment.proofs.laws.datagram_has_the_payload.Goals as goal
use Rattle.app_fragment.specs.Datagram.{fragments_of}
use Rattle.app_fragment.specs.Parts.{whole_payload}

pub returns : goal.returns
returns c = IfSome_then c.write.result c.write.ensures.whole (λ len is ps fs payload h some cut same.
    unique (fragments_of ps) (whole_payload c.write.new.out) payload (payload_made c.args.datagram.now.key ps len c.write.new.out (is ps h))
    (any_order fs (fragments_of ps) payload same (cut_makes fs payload some cut)))
