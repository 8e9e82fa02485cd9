use Rattle.std.proofs.Common.{rules}
use Rattle.c_routing.proofs.Fragmenting.{returned}
use Rattle.c_routing.specs.Fragmented.{frame_at}
use Rattle.c_routing.proofs.fragments.write_at.Goals as goal

pub returns-in-Some : goal.returns-in-Some
returns-in-Some c =
    returned (frame_at c.args.ident c.args.mtu c.args.frame.now c.args.at) c.args.out.now c.fill_at.new.out c.in-Some.len _ c.if-out-gt-MAX_LEN.false c.in-Some.ensures (search rules)
