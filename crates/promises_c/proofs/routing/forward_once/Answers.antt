use Rattle.std.proofs.Common.{ap, of_z, subst, sym, to_z, w32}
use Rattle.c_routing.specs.Forwarded.{Forwards, ethernet_addr}
use Rattle.promises_c.proofs.RoutingOnce.{forwards_once}
use Rattle.promises_c.proofs.routing.forward_once.Goals as goal

pub returns-clause-returned : goal.returns-clause-returned
returns-clause-returned c = ap (λ r. to_z w32 (of_z w32 r)) (forwards_once c.args.frame.now _ _ _ _ _ _ c.lk_forward.ensures
    (subst (λ o. Forwards o c.lk_forward-2.new.frame (ethernet_addr c.args.src.now) (ethernet_addr c.args.dst.now) c.lk_forward-2.result) (sym c.requires) c.lk_forward-2.ensures)).0

pub returns-clause-written : goal.returns-clause-written
returns-clause-written c = (forwards_once c.args.frame.now _ _ _ _ _ _ c.lk_forward.ensures
    (subst (λ o. Forwards o c.lk_forward-2.new.frame (ethernet_addr c.args.src.now) (ethernet_addr c.args.dst.now) c.lk_forward-2.result) (sym c.requires) c.lk_forward-2.ensures)).1
