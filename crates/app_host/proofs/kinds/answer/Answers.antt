use Rattle.std.proofs.Common.{◌≡◌, ◌∙◌, drop, refl, rules, sym}
use Rattle.app_host.proofs.KindReplies.{no-link, unread}
use Rattle.app_host.proofs.Skips.{itself, without-header}
use Rattle.ip_wire.proofs.Found.{reads-nothing}
use Rattle.ip_wire.specs.Ethernet as ethernet
use Rattle.ip_wire.specs.Frame.{all_checked}
use Rattle.ip_wire.specs.declared.Carried.TheVariants as carried
use Rattle.ip_wire.specs.declared.Frame.{Frame}
use Rattle.ip_wire.specs.Arp as arp
use Rattle.app_host.proofs.kinds.answer.Goals as goal

pub returns-in_default : goal.returns-in_default
returns-in_default c =
    let view : ethernet.frame_bytes c.new_unchecked-view.result ≡ c.args.frame.now = search rules in
    let reads = rw view at c.parse.ensures.reads in
    no-link c.args.host.now c.args.frame.now c.args.out.now (λ link r. let ok = (reads link).1 r in absurd (let other = c.in_default.is in cc))

pub returns-in-Ok-parse : goal.returns-in-Ok-parse
returns-in-Ok-parse c =
    let frame = c.args.frame.now in
    let view : ethernet.frame_bytes c.new_unchecked-view.result ≡ frame = search rules in
    let reads = rw view at c.parse.ensures.reads in
    let inside : arp.packet_bytes c.new_unchecked.result ≡ drop 14 frame = search rules in
    let message = rw inside at c.parse-in-Arp.ensures.reads in
    let link_reads = (reads c.in-Ok.link).0 c.in-Ok.is in
    let request : Frame = record { header = c.in-Ok.link; carried = carried.Arp c.in-Ok-parse.message } in
    c.answer_arp.ensures frame (itself frame request (without-header frame c.in-Ok.link link_reads (rw c.in-Arp.is refl)) (record { header = link_reads; carried = (c.in-Arp.is, (message c.in-Ok-parse.message).0 c.in-Ok-parse.is) }))

pub returns-in-Err : goal.returns-in-Err
returns-in-Err c =
    let frame = c.args.frame.now in
    let view : ethernet.frame_bytes c.new_unchecked-view.result ≡ frame = search rules in
    let reads = rw view at c.parse.ensures.reads in
    let inside : arp.packet_bytes c.new_unchecked.result ≡ drop 14 frame = search rules in
    let message = rw inside at c.parse-in-Arp.ensures.reads in
    let following : c.payload-bytes.result.now ≡ drop 14 frame = search rules in
    let link = c.in-Ok.link in
    unread c.args.host.now frame (record { header = link; carried = carried.Unread c.payload-bytes.result }) c.args.out.now
    (itself frame _ (without-header frame link ((reads link).0 c.in-Ok.is) (rw c.in-Arp.is refl)) (record {
      header = (reads link).0 c.in-Ok.is;
      carried = (
        reads-nothing all_checked link.ethertype (drop 14 frame) (λ w type r. let ok = (message w).1 r in let is = c.in-Err.is in cc)
            (λ w type r. let apart = sym c.in-Arp.is ∙ type in cc) (λ w type r. let apart = sym c.in-Arp.is ∙ type in cc),
        following,
      );
    }))
    refl

pub returns-in-Unknown : goal.returns-in-Unknown
returns-in-Unknown c =
    let frame = c.args.frame.now in
    let view : ethernet.frame_bytes c.new_unchecked-view.result ≡ frame = search rules in
    let reads = rw view at c.parse.ensures.reads in
    let following : c.payload-bytes.result.now ≡ drop 14 frame = search rules in
    let link = c.in-Ok.link in
    unread c.args.host.now frame (record { header = link; carried = carried.Unread c.payload-bytes.result }) c.args.out.now
    (itself frame _ (without-header frame link ((reads link).0 c.in-Ok.is) (rw c.in-Unknown.is refl)) (record {
      header = (reads link).0 c.in-Ok.is;
      carried = (
        reads-nothing all_checked link.ethertype (drop 14 frame) (λ w type r. let apart = sym c.in-Unknown.is ∙ type in cc)
            (λ w type r. let apart = sym c.in-Unknown.is ∙ type in cc) (λ w type r. let apart = sym c.in-Unknown.is ∙ type in cc),
        following,
      );
    }))
    refl

pub answer_ipv4-requires-clause-link : goal.answer_ipv4-requires-clause-link
answer_ipv4-requires-clause-link c =
    let view : ethernet.frame_bytes c.new_unchecked-view.result ≡ c.args.frame.now = search rules in
    let reads = rw view at c.parse.ensures.reads in
    (reads c.in-Ok.link).0 c.in-Ok.is

pub answer_ipv6-requires-clause-link : goal.answer_ipv6-requires-clause-link
answer_ipv6-requires-clause-link c =
    let view : ethernet.frame_bytes c.new_unchecked-view.result ≡ c.args.frame.now = search rules in
    let reads = rw view at c.parse.ensures.reads in
    (reads c.in-Ok.link).0 c.in-Ok.is
