use Rattle.std.proofs.Common.{◌≡◌, ◌≤◌, ◌<◌, ◌+◌, ◌*◌, ◌-◌, arith, length, rules}
use Rattle.app_fragment.proofs.Slots.{adds-here, others, part-end, place-inside}
use Rattle.app_fragment.proofs.partials.take.Goals as goal

inside : (c : goal.After-share_len-len) → c.place_of-place.result < length c.args.partials.now
inside c = place-inside c.args.partials.now c.args.now c.args.key.now c.place_of-place.result c.place_of-place.ensures

end : (c : goal.After-share_len-len) → (c.place_of-place.result + 1) * c.share_len-len.result ≤ length c.args.memory.now
end c = part-end c.place_of-place.result (length c.args.partials.now) c.share_len-len.result (length c.args.memory.now) (inside c) c.share_len-len.ensures.within

pub overflow_mul-part : goal.overflow_mul-part
overflow_mul-part c = let fits : length c.args.memory.now < 18446744073709551616 = search rules in omega (arith, end c, fits)

pub overflow_mul-part-2 : goal.overflow_mul-part-2
overflow_mul-part-2 c = let fits : length c.args.memory.now < 18446744073709551616 = search rules in omega (arith, end c, fits)

pub slice_bounds-part-end : goal.slice_bounds-part-end
slice_bounds-part-end c =
    let fits = end c in
    let order : c.place_of-place.result * c.share_len-len.result ≤ (c.place_of-place.result + 1) * c.share_len-len.result = omega arith in
    search rules

pub returns : goal.returns
returns c =
    let partials = c.args.partials.now in
    let memory = c.args.memory.now in
    let i = c.place_of-place.result in
    let s = c.share_len-len.result in
    let low : c.place_of-place.result < length c.args.partials.now =
    place-inside c.args.partials.now c.args.now c.args.key.now c.place_of-place.result c.place_of-place.ensures in
    let fits : (c.place_of-place.result + 1) * c.share_len-len.result ≤ length c.args.memory.now =
    part-end c.place_of-place.result (length c.args.partials.now) c.share_len-len.result (length c.args.memory.now) low c.share_len-len.ensures.within in
    let long : length c.add.new.part ≡ (c.place_of-place.result + 1) * c.share_len-len.result - c.place_of-place.result * c.share_len-len.result = search rules in
    record {
      key = c.args.key.now;
      is = c.requires.fragment;
      fits = c.requires.fits;
      place = i;
      place_is = c.place_of-place.ensures;
      adds = adds-here c.args.now c.args.key.now c.args.link.now c.args.packet.now c.args.out.now c.add.new.out c.add.result partials memory c.add.new.part c.add.new.partial _ i s
          c.share_len-len.ensures.value low fits long c.add.ensures;
      others = λ j other. others partials memory c.add.new.part c.add.new.partial i j s c.share_len-len.ensures.value fits long other;
    }
