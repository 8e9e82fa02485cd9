use Rattle.std.proofs.Common.{◌≡◌, ◌+◌, ◌-◌, ◌++◌, append_assoc, drop, rules, slice_range, sym, ◌∙◌}
use Rattle.std.proofs.lemmas.List.{drop-drop}
use Rattle.app_fragment.specs.Ipv6Fragments.{fragment_header}
use Rattle.app_fragment.proofs.ipv6.cut.Goals as goal

pub returns : goal.returns
returns c =
    let bytes = c.args.packet.now in
    let n = c.args.next - c.args.at in
    let back : c.split_at_mut-header.result.1.now ≡ drop 48 c.args.out.now = search rules in
    let part : c.copy_from_slice.new.self ≡ slice_range bytes (40 + c.args.at) (40 + c.args.next) = c.copy_from_slice.ensures.after in
    let rest : drop n c.split_at_mut-header.result.1.now ≡ drop (48 + n) c.args.out.now = (λ i. drop n (back i)) ∙ drop-drop n 48 c.args.out.now in
    (λ i. c.write_header.ensures i ++ (part i ++ rest i))
    ∙ sym (append_assoc (fragment_header c.args.ident bytes c.args.at c.args.next) (slice_range bytes (40 + c.args.at) (40 + c.args.next)) (drop (48 + n) c.args.out.now))
