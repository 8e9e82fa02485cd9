use Rattle.std.proofs.Common.{◌≤◌, arith, length, pos, refl, rules}
use Rattle.app_fragment.specs.Partials.{table}
use Rattle.app_fragment.specs.declared.Reassembled.TheVariants as answer
use Rattle.c_routing.proofs.Reassembling.{unwritten, whole, whole-small}
use Rattle.c_routing.proofs.reassembly.reassemble_packet.Goals as goal

pub overflow_add-result : goal.overflow_add-result
overflow_add-result c =
    let small : c.in-Whole.len ≤ 1099511627775 =
    whole-small (table c.args.partials.now c.args.memory.now) (table c.reassemble.new.partials c.reassemble.new.memory) c.args.now c.in-Whole.len c.min.result (length c.args.out.now) c.split_at.result.0.now
    c.split_at.result.1.now c.split_at_mut-front.result.1.now c.reassemble.new.out c.split_at_mut-front.ensures.back_len c.requires.room c.in-Whole.ensures in
    omega (arith, small)

pub overflow_cast-result : goal.overflow_cast-result
overflow_cast-result c =
    let small : c.in-Whole.len ≤ 1099511627775 =
    whole-small (table c.args.partials.now c.args.memory.now) (table c.reassemble.new.partials c.reassemble.new.memory) c.args.now c.in-Whole.len c.min.result (length c.args.out.now) c.split_at.result.0.now
    c.split_at.result.1.now c.split_at_mut-front.result.1.now c.reassemble.new.out c.split_at_mut-front.ensures.back_len c.requires.room c.in-Whole.ensures in
    search rules

pub returns-in-Whole : goal.returns-in-Whole
returns-in-Whole c =
    let small : c.in-Whole.len ≤ 1099511627775 =
    whole-small (table c.args.partials.now c.args.memory.now) (table c.reassemble.new.partials c.reassemble.new.memory) c.args.now c.in-Whole.len c.min.result (length c.args.out.now) c.split_at.result.0.now
    c.split_at.result.1.now c.split_at_mut-front.result.1.now c.reassemble.new.out c.split_at_mut-front.ensures.back_len c.requires.room c.in-Whole.ensures in
    whole (table c.args.partials.now c.args.memory.now) (table c.reassemble.new.partials c.reassemble.new.memory) c.args.now c.in-Whole.len c.min.result c.args.frame.now c.args.out.now
    c.split_at.result.0.now c.split_at.result.1.now c.split_at_mut-front.result.0.now c.split_at_mut-front.result.1.now c.reassemble.new.out c.copy_from_slice.new.self _
    c.min.ensures c.split_at_mut-front.ensures.front c.split_at_mut-front.ensures.back (search rules) c.split_at.ensures.front c.split_at.ensures.back c.split_at.ensures.front_len
    c.copy_from_slice.ensures.after (search rules) c.in-Whole.ensures

pub returns-in-Incomplete : goal.returns-in-Incomplete
returns-in-Incomplete c =
    unwritten (table c.args.partials.now c.args.memory.now) (table c.reassemble.new.partials c.reassemble.new.memory) c.args.now c.min.result c.args.frame.now c.args.out.now
    c.split_at.result.0.now c.split_at.result.1.now c.split_at_mut-front.result.0.now c.split_at_mut-front.result.1.now c.reassemble.new.out answer.Incomplete (pos 0)
    c.min.ensures c.split_at_mut-front.ensures.front c.split_at_mut-front.ensures.back (search rules) c.split_at.ensures.front c.split_at.ensures.back refl refl c.in-Incomplete.ensures

pub returns-in-Rejected : goal.returns-in-Rejected
returns-in-Rejected c =
    unwritten (table c.args.partials.now c.args.memory.now) (table c.reassemble.new.partials c.reassemble.new.memory) c.args.now c.min.result c.args.frame.now c.args.out.now
    c.split_at.result.0.now c.split_at.result.1.now c.split_at_mut-front.result.0.now c.split_at_mut-front.result.1.now c.reassemble.new.out answer.Rejected _
    c.min.ensures c.split_at_mut-front.ensures.front c.split_at_mut-front.ensures.back (search rules) c.split_at.ensures.front c.split_at.ensures.back refl (search rules) c.in-Rejected.ensures

pub returns-in-TooLong : goal.returns-in-TooLong
returns-in-TooLong c =
    unwritten (table c.args.partials.now c.args.memory.now) (table c.reassemble.new.partials c.reassemble.new.memory) c.args.now c.min.result c.args.frame.now c.args.out.now
    c.split_at.result.0.now c.split_at.result.1.now c.split_at_mut-front.result.0.now c.split_at_mut-front.result.1.now c.reassemble.new.out answer.TooLong _
    c.min.ensures c.split_at_mut-front.ensures.front c.split_at_mut-front.ensures.back (search rules) c.split_at.ensures.front c.split_at.ensures.back refl (search rules) c.in-TooLong.ensures

pub returns-in-Dropped : goal.returns-in-Dropped
returns-in-Dropped c =
    unwritten (table c.args.partials.now c.args.memory.now) (table c.reassemble.new.partials c.reassemble.new.memory) c.args.now c.min.result c.args.frame.now c.args.out.now
    c.split_at.result.0.now c.split_at.result.1.now c.split_at_mut-front.result.0.now c.split_at_mut-front.result.1.now c.reassemble.new.out answer.Dropped _
    c.min.ensures c.split_at_mut-front.ensures.front c.split_at_mut-front.ensures.back (search rules) c.split_at.ensures.front c.split_at.ensures.back refl (search rules) c.in-Dropped.ensures

pub returns-in-NoRoom : goal.returns-in-NoRoom
returns-in-NoRoom c =
    unwritten (table c.args.partials.now c.args.memory.now) (table c.reassemble.new.partials c.reassemble.new.memory) c.args.now c.min.result c.args.frame.now c.args.out.now
    c.split_at.result.0.now c.split_at.result.1.now c.split_at_mut-front.result.0.now c.split_at_mut-front.result.1.now c.reassemble.new.out answer.NoRoom _
    c.min.ensures c.split_at_mut-front.ensures.front c.split_at_mut-front.ensures.back (search rules) c.split_at.ensures.front c.split_at.ensures.back refl (search rules) c.in-NoRoom.ensures
