use Rattle.std.proofs.Common.{◌≡◌, ◌∙◌, ◌+◌, false, length, rules, slice_range, sym}
use Rattle.app_edit.proofs.EndSums.{port-checksum}
use Rattle.app_edit.proofs.places.Segment.checksum_over_port.Goals as goal
use Rattle.app_edit.specs.Checksums.{sum_at}
use Rattle.app_edit.specs.Edited.{is_left, updated_by, word_at}
use Rattle.app_edit.specs.Places.{checksum_place}

pub returns : goal.returns
returns c =
    let s = c.args.self.now in
    let xs = c.args.frame.now in
    let at = c.args.at in
    let bytes = c.args.bytes.now in
    let whole : c.update_whole.result ≡ updated_by s.protocol (word_at xs (checksum_place s)) (sum_at 0 (slice_range xs at (at + length bytes))) (sum_at 0 bytes) = search rules in
    let complete : is_left c.args.offload c.args.version s xs ≡ false = search rules in
    whole ∙ sym (port-checksum c.args.offload c.args.version s xs bytes at c.requires.inside c.requires.len c.requires.even c.requires.first c.requires.last complete)
