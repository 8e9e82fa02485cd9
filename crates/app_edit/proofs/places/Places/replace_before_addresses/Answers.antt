use Rattle.std.proofs.Common.{◌∙◌, ap}
use Rattle.app_edit.proofs.Beside.{before-addresses}
use Rattle.app_edit.proofs.places.Places.replace_before_addresses.Goals as goal
use Rattle.app_edit.specs.Edited.{with_header_checksum, written}

pub returns : goal.returns
returns c =
    let p = c.args.self.now in
    let xs = c.args.frame.now in
    let at = c.args.at in
    let bytes = c.args.bytes.now in
    c.write_header_checksum.ensures
    ∙ ap (λ ys. with_header_checksum p.version ys c.header_checksum-header.result) c.write_at.ensures
    ∙ ap (λ n. with_header_checksum p.version (written xs at bytes) n) c.header_checksum-header.ensures
    ∙ before-addresses p xs bytes at c.requires.places c.bytes_fit.ensures c.requires.before
