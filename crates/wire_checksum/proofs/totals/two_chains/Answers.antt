use Rattle.std.proofs.Common.{ℕ, List, ◌≡◌, ◌+◌, ◌*◌, ◌/◌, [], get_or, length, sum, ◌∙◌, ap, arith}
use Rattle.std.specs.Simd.{first_chunks}
use Rattle.std.proofs.lemmas.List.{take_all}
use Rattle.wire_checksum.specs.WordSum.{words, residue}
use Rattle.wire_checksum.proofs.WordLists.{chunk-added}
use Rattle.wire_checksum.proofs.Chains.{chunk-long, in-two, side-by-side}
use Rattle.wire_checksum.proofs.totals.two_chains.Goals as goal

pub loop-block-init : goal.loop-block-init
unfolding words
loop-block-init c = record { so_far = ap residue (omega arith) }

pub loop-block-preserved : goal.loop-block-preserved
loop-block-preserved c =
    let bytes = c.args.bytes.now in
    let l = c.loop-block in
    let i = l.block-index in
    let n = length bytes / 128 in
    let blocks = c.as_chunks.result.0.now in
    let cut = c.as_chunks.ensures.front in
    let v = get_or blocks i [] in
    let hs = c.as_chunks-in-loop-block.result.0.now in
    let long = chunk-long 128 n i bytes blocks cut (omega arith) (omega arith) in
    let two : length v / 64 ≡ 2 = omega (arith, long) in
    let both = in-two 64 v hs (omega arith) (omega (arith, long)) (c.as_chunks-in-loop-block.ensures.front ∙ ap (λ (k : ℕ). first_chunks 64 k v) two) in
    let first = c.add_eight-first in
    let second = c.add_eight-second in
    let added = side-by-side l.first l.second first.result second.result (sum (words (get_or hs 0 []))) (sum (words (get_or hs 1 []))) (sum (words v)) first.ensures second.ensures both in
    record {
      so_far = chunk-added 128 n bytes blocks (256 * c.args.start) i ((i + 1) * 128) (l.first + l.second) (first.result + second.result) cut (omega arith) (omega arith) (omega arith) (omega arith) added l.invariant.so_far;
    }

pub returns : goal.returns
returns c =
    let l = c.loop-block in
    c.around.ensures ∙ l.invariant.so_far ∙ ap (λ (b : List ℕ). residue (256 * c.args.start + sum (words b))) (take_all (l.block-index * 128) c.args.bytes.now (omega arith))
