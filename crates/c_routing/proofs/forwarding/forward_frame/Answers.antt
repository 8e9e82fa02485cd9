use Rattle.std.proofs.Common.{rules}
use Rattle.c_routing.proofs.Forwards.{not-forwarded, too-long}
use Rattle.c_routing.specs.Forwarded.{ethernet_addr}
use Rattle.c_routing.proofs.forwarding.forward_frame.Goals as goal

pub returns-in-Err : goal.returns-in-Err
returns-in-Err c =
    not-forwarded c.args.frame.now c.forward.new.frame (ethernet_addr c.args.src.now) (ethernet_addr c.args.dst.now) c.in-Err.fault c.code-in-Err.result
    (search rules) (search rules) (search rules) (search rules) (search rules)

pub returns-then-frame-gt-MAX_LEN : goal.returns-then-frame-gt-MAX_LEN
returns-then-frame-gt-MAX_LEN c =
    too-long c.args.frame.now (ethernet_addr c.args.src.now) (ethernet_addr c.args.dst.now) c.code.result (search rules) (search rules) (search rules)
