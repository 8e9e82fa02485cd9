use Rattle.std.proofs.Common.{List, ℕ, ◌≡◌, ◌++◌, ◌∙◌, ap, drop, false, refl, rules, take, true}
use Rattle.std.proofs.lemmas.List.{take-append-drop}
use Rattle.c_routing.proofs.Clampings.{clamps, no-segment, not-above, too-long}
use Rattle.c_routing.specs.Clamped.{clamped}
use Rattle.c_routing.proofs.clamping.clamp_frame.Goals as goal

pub returns-then-frame-gt-MAX_LEN : goal.returns-then-frame-gt-MAX_LEN
returns-then-frame-gt-MAX_LEN c = too-long c.args.offload c.args.frame.now c.args.limit _ refl (search rules)

pub returns-in-None : goal.returns-in-None
returns-in-None c = no-segment c.args.offload c.args.frame.now c.args.frame.now c.args.limit _ refl (search rules) c.in-None.ensures.none refl

pub returns-then-clamp_packet : goal.returns-then-clamp_packet
returns-then-clamp_packet c =
    let frame = c.args.frame.now in
    let body = c.clamp_packet.new.packet in
    let (link, v, payload, carried) = c.in-Some.ensures.some in
    let front : c.split_at_mut-packet.result.0.now ≡ take 14 frame = search rules in
    let following : c.split_at_mut-packet.result.1.now ≡ drop 14 frame = search rules in
    let yes : c.clamp_packet.result ≡ true = search rules in
    let above = ((rw following at c.clamp_packet.ensures.when) v payload (carried.reads_carried.1, carried.reads_carried.2)).0 yes in
    let is : body ≡ clamped c.args.offload c.in-Some.header (drop 14 frame) c.args.limit = rw (yes, following) at c.clamp_packet.ensures.bytes in
    clamps c.args.offload frame _ body link c.in-Some.header v payload c.args.limit _ refl (search rules) carried above (ap (λ (l : List ℕ). l ++ body) front) is
    (λ choice said r. (rw following at c.clamp_packet.ensures.after) choice v payload said above r)

pub returns-else-clamp_packet : goal.returns-else-clamp_packet
returns-else-clamp_packet c =
    let frame = c.args.frame.now in
    let body = c.clamp_packet.new.packet in
    let (link, v, payload, carried) = c.in-Some.ensures.some in
    let front : c.split_at_mut-packet.result.0.now ≡ take 14 frame = search rules in
    let following : c.split_at_mut-packet.result.1.now ≡ drop 14 frame = search rules in
    let no : c.clamp_packet.result ≡ false = search rules in
    let is : body ≡ drop 14 frame = rw (no, following) at c.clamp_packet.ensures.bytes in
    not-above c.args.offload frame _ link c.in-Some.header v payload c.args.limit _ refl (search rules) carried
    (λ above. let yes : c.clamp_packet.result ≡ true = ((rw following at c.clamp_packet.ensures.when) v payload (carried.reads_carried.1, carried.reads_carried.2)).1 above in absurd (cc))
    ((λ i. front i ++ is i) ∙ take-append-drop 14 frame)
