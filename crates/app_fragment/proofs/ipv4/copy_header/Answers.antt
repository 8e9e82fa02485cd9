use Rattle.std.proofs.Common.{length}
use Rattle.app_fragment.proofs.Headers.{copied-header}
use Rattle.app_fragment.proofs.ipv4.copy_header.Goals as goal

pub returns : goal.returns
returns c =
    copied-header c.args.packet.now c.copy_from_slice.new.self c.set_options.new.options c.args.at (length c.args.header.now) c.requires.lengths
    c.requires.room c.copy_from_slice.ensures.after c.set_options.ensures
