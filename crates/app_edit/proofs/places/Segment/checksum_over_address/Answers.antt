use Rattle.std.proofs.Common.{◌≡◌, ◌≢◌, ◌∙◌, ◌+◌, ◌-◌, Bool, ap, false, if◌then◌else◌, length, rules, slice_range, sym, true}
use Rattle.ip_wire.specs.WordSum.{updated}
use Rattle.ip_wire.specs.declared.IpProtocol.TheVariants as protocol
use Rattle.app_edit.proofs.EndSums.{address-checksum, by-other, by_address}
use Rattle.app_edit.proofs.places.Segment.checksum_over_address.Goals as goal
use Rattle.app_edit.specs.Checksums.{sum_at}
use Rattle.app_edit.specs.Edited.{is_left, updated_by, word_at}
use Rattle.app_edit.specs.Places.{checksum_place}

pub returns-then-is_left : goal.returns-then-is_left
returns-then-is_left c =
    let s = c.args.self.now in
    let xs = c.args.frame.now in
    let at = c.args.at in
    let bytes = c.args.bytes.now in
    let old = sum_at at (slice_range xs at (at + length bytes)) in
    let new = sum_at at bytes in
    let field : c.word_at-field.result ≡ word_at xs (checksum_place s) = search rules in
    let left : is_left c.args.offload c.args.version s xs ≡ true = search rules in
    ap (λ n. 65535 - n) (c.update_bytes.ensures.value ∙ ap (λ n. updated (65535 - n) old new) field)
    ∙ ap (λ (b : Bool). if b then 65535 - updated (65535 - word_at xs (checksum_place s)) old new else by_address s.protocol (word_at xs (checksum_place s)) old new) (sym left)
    ∙ sym (address-checksum c.args.offload c.args.version s xs bytes at c.requires.inside c.requires.some c.requires.first c.requires.last)

pub returns-in_default : goal.returns-in_default
returns-in_default c =
    let s = c.args.self.now in
    let xs = c.args.frame.now in
    let at = c.args.at in
    let bytes = c.args.bytes.now in
    let old = sum_at at (slice_range xs at (at + length bytes)) in
    let new = sum_at at bytes in
    let f = word_at xs (checksum_place s) in
    let whole : c.update_whole.result ≡ updated_by s.protocol f old new = search rules in
    let complete : is_left c.args.offload c.args.version s xs ≡ false = search rules in
    let other : s.protocol ≢ protocol.Icmp = search rules in
    whole ∙ sym (by-other s.protocol f old new other)
    ∙ ap (λ (b : Bool). if b then 65535 - updated (65535 - f) old new else by_address s.protocol f old new) (sym complete)
    ∙ sym (address-checksum c.args.offload c.args.version s xs bytes at c.requires.inside c.requires.some c.requires.first c.requires.last)
