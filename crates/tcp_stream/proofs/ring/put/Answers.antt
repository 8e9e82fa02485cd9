use Rattle.std.proofs.Common.{◌≡◌, ◌+◌, ◌-◌, ◌<◌, ◌++◌, ◌∙◌, ap, subst, ℕ, List, length, take, drop, min, arith}
use Rattle.std.proofs.lemmas.List.{take_rest, length-take-le, length-drop}
use borrow.Rule.Slice.PartMut.{put_mid}
use Rattle.tcp_stream.proofs.Places.{Written, written, put_before, put_round}
use Rattle.tcp_stream.proofs.ring.put.Goals as goal
use Rattle.tcp_stream.proofs.ring.put.Goals.{then-end-buffer, else-end-buffer}

pub returns : goal.returns
returns c =
    let b = c.args.buffer.now in
    let ys = c.args.bytes.now in
    let s = c.args.start in
    let at = c.if-end-buffer.at in
    let first = c.min-first.result in
    let size : first ≡ min (length ys) (length b - at) = c.min-first.ensures in
    let copied : c.copy_from_slice.new.self ≡ take first ys = c.copy_from_slice.ensures.after in
    let rest : c.copy_from_slice-2.new.self ≡ drop first ys = c.copy_from_slice-2.ensures.after ∙ take_rest ys first in
    let mid = put_mid at (at + first - at) b c.copy_from_slice.new.self in
    let in_at : at < length b = elim c.if-end-buffer.branch [ then-end-buffer w ↦ omega arith | else-end-buffer w ↦ omega arith ] in
    let long : length c.copy_from_slice.new.self ≡ at + first - at = ap length copied ∙ length-take-le first ys (omega arith) ∙ (let e : first ≡ at + first - at = omega arith in e) in
    let one : Written at b (take first ys) mid = subst (λ (l : List ℕ). Written at b l mid) copied (written at (at + first - at) b c.copy_from_slice.new.self long (omega arith)) in
    let long_rest : length c.copy_from_slice-2.new.self ≡ length ys - first = ap length rest ∙ length-drop first ys in
    let end = c.copy_from_slice-2.new.self ++ drop (length ys - first) mid in
    let two : Written 0 mid (drop first ys) end = subst (λ (l : List ℕ). Written 0 mid l end) rest (written 0 (length ys - first) mid c.copy_from_slice-2.new.self long_rest (omega (arith, one.size))) in
    elim c.if-end-buffer.branch [
      | then-end-buffer w ↦ put_round s c.args.len at first b mid end ys c.requires.start c.requires.room size one two (omega arith)
      | else-end-buffer w ↦ put_before s c.args.len at first b mid end ys c.requires.start c.requires.room size one two (omega arith) in_at
    ]
