use Rattle.std.proofs.Common.{◌∙◌, ◌+◌, ap, arith, length, slice_range, sym}
use Rattle.ip_wire.specs.WordSum.{updated}
use Rattle.app_edit.proofs.EndSums.{header-covered}
use Rattle.app_edit.proofs.Stays.{least-end}
use Rattle.app_edit.proofs.places.Places.header_over.Goals as goal
use Rattle.app_edit.specs.Checksums.{sum_at}
use Rattle.app_edit.specs.Edited.{header_checksum}

pub returns : goal.returns
returns c =
    let p = c.args.self.now in
    let xs = c.args.frame.now in
    let at = c.args.at in
    let bytes = c.args.bytes.now in
    let held = c.requires.places in
    c.update_bytes.ensures.value ∙ ap (λ n. updated n (sum_at at (slice_range xs at (at + length bytes))) (sum_at at bytes)) c.word_at.ensures
    ∙ sym (header-covered xs bytes p.start at c.requires.some c.requires.first (omega (arith, least-end p.version, held.header, c.requires.last)) (omega (arith, held.inside, held.whole)))
    ∙ ap (λ v. header_checksum v p.start xs at bytes) (sym c.requires.version)
