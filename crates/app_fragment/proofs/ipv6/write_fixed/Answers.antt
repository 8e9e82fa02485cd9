use Rattle.std.proofs.Common.{arith, sym, ◌∙◌}
use Rattle.std.proofs.lemmas.List.{length-take-le}
use Rattle.app_fragment.proofs.ipv6.write_fixed.Goals as goal

pub slice_bounds-copy_from_slice-end : goal.slice_bounds-copy_from_slice-end
slice_bounds-copy_from_slice-end c = sym (length-take-le 40 c.args.packet.now (omega (arith, c.requires.lengths)))

pub copy_from_slice-requires : goal.copy_from_slice-requires
copy_from_slice-requires c = c.requires.room ∙ sym (length-take-le 40 c.args.packet.now (omega (arith, c.requires.lengths)))
