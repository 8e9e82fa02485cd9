use Rattle.std.proofs.Common.{ℕ, ◌≡◌, ◌∙◌, ◌+◌, ◌^◌, ◌<◌, ap, ap₂, arith, get_or, inl, inr, length}
use Rattle.std.proofs.lemmas.Bool.{cases_lt}
use Rattle.app_router.proofs.HintPlaces.{masked}
use Rattle.app_router.proofs.Splits.{unread, unread_at}
use Rattle.app_router.specs.Hints.{hint_at, part_for, part_of, place_in}
use Rattle.app_router.specs.declared.index.Node.{Node}
use Rattle.app_router.proofs.index.hints.hinted_part.Goals as goal

pub returns-then-high-len : goal.returns-then-high-len
returns-then-high-len c many plain =
    let nodes = c.args.nodes.now in
    let some : 0 < c.parts.result = omega (arith, c.parts.ensures, many) in
    let inside : c.share-part.result + 1 < length nodes = let less = c.share-part.ensures.within some in omega (arith, c.parts.ensures, less) in
    let part : c.share-part.result ≡ part_for nodes c.args.target.now = c.share-part.ensures.value ∙ ap (λ (n : ℕ). part_of n c.args.target.now.high) c.parts.ensures in
    let read : (get_or nodes (c.share-part.result + 1) unread).hint ≡ hint_at nodes (part_for nodes c.args.target.now + 1) =
    ap (λ (n : Node). n.hint) (unread_at nodes (c.share-part.result + 1) inside) ∙ ap (λ (p : ℕ). hint_at nodes (p + 1)) part in
    let fits : (get_or nodes (c.share-part.result + 1) unread).hint < 2 ^ 32 = c.place_in-low.ensures.fits in
    let more = c.if-hint-places.true in
    absurd (elim plain [
      | inl large ↦ let mask = c.place_bits-places.ensures.many large in omega (arith, mask, more, fits)
      | inr small ↦ elim (cases_lt (length nodes) (2 ^ 25)) [
        | inl few ↦ let mask = c.place_bits-places.ensures.few few in omega (arith, mask, more, small, read)
        | inr large ↦ let mask = c.place_bits-places.ensures.many large in omega (arith, mask, more, fits)
      ]
    ])

pub returns-else-hint-places : goal.returns-else-hint-places
returns-else-hint-places c many plain =
    let nodes = c.args.nodes.now in
    let n = length nodes in
    let some : 0 < c.parts.result = omega (arith, c.parts.ensures, many) in
    let less = c.share-part.ensures.within some in
    let first : c.share-part.result + 1 < n = omega (arith, c.parts.ensures, less) in
    let second : c.share-part.result + 2 < n = omega (arith, c.parts.ensures, less) in
    let part : c.share-part.result ≡ part_for nodes c.args.target.now = c.share-part.ensures.value ∙ ap (λ (n : ℕ). part_of n c.args.target.now.high) c.parts.ensures in
    let at = c.share-part.result in
    let low = get_or nodes (at + 1) unread in
    let high = get_or nodes (at + 2) unread in
    let read_low : low.hint ≡ hint_at nodes (part_for nodes c.args.target.now + 1) = ap (λ (n : Node). n.hint) (unread_at nodes (at + 1) first) ∙ ap (λ (p : ℕ). hint_at nodes (p + 1)) part in
    let read_high : high.hint ≡ hint_at nodes (part_for nodes c.args.target.now + 2) = ap (λ (n : Node). n.hint) (unread_at nodes (at + 2) second) ∙ ap (λ (p : ℕ). hint_at nodes (p + 2)) part in
    ap₂ (λ (a : ℕ) (b : ℕ). (a, b))
    (c.place_in-low.ensures.value ∙ masked n low.hint c.place_bits-places.result c.place_in-low.ensures.fits c.place_bits-places.ensures.few c.place_bits-places.ensures.many ∙ ap (place_in n) read_low)
    (c.place_in-high.ensures.value ∙ masked n high.hint c.place_bits-places.result c.place_in-high.ensures.fits c.place_bits-places.ensures.few c.place_bits-places.ensures.many ∙ ap (place_in n) read_high)
