use Rattle.std.proofs.Common.{◌∙◌, ap, arith, drop}
use Rattle.c_write.proofs.TcpStamped.{length-with_stamp_first, with_stamp_first-append}
use Rattle.c_write.specs.TcpKept.{with_stamp_first}
use Rattle.c_write.proofs.tcp_kept.copy_stamped.Goals as goal

pub returns-in-Some : goal.returns-in-Some
returns-in-Some c =
    let bytes = c.args.bytes.now in
    let (len, room, is) = c.in-Some.ensures in (
      len ∙ ap (λ n. n) (let e = length-with_stamp_first bytes c.requires in omega (arith, e)),
      room,
      c.move_stamp.ensures ∙ ap (with_stamp_first bytes) is ∙ with_stamp_first-append bytes (drop c.in-Some.len c.args.out.now) c.requires,
    )

pub returns-in-None : goal.returns-in-None
returns-in-None c =
    let (short, same) = c.in-None.ensures in
    (let e = length-with_stamp_first c.args.bytes.now c.requires in omega (arith, e, short), same)
