use Rattle.std.proofs.Common.{IfErr, ◌≡◌, ◌∙◌, ◌-◌, Some, drop, rules, take}
use Rattle.std.proofs.lemmas.List.{take_rest}
use Rattle.std.proofs.lemmas.Result.{IfErr-weaker}
use Rattle.app_router.proofs.Forwards.{by-type, forwarded, unread}
use Rattle.app_router.specs.Forward.{fault_of, packet_fault, with_hop_limit}
use Rattle.ip_wire.specs.Ethernet.{frame_bytes, frame_bytes_mut}
use Rattle.ip_wire.specs.Field.{with_range}
use Rattle.ip_wire.specs.Ip.{hop_limit_of}
use Rattle.app_router.proofs.router.forward.Goals as goal

pub returns-in_default-clause-rejected : goal.returns-in_default-clause-rejected
returns-in_default-clause-rejected c =
    let view : frame_bytes c.new_unchecked.result ≡ c.args.frame.now = search rules in
    unread c.args.frame.now c.parse.result c.in_default.field-0 (rw view at c.parse.ensures.value) (search rules)

pub returns-in_err-header-clause-rejected : goal.returns-in_err-header-clause-rejected
returns-in_err-header-clause-rejected c =
    let frame = c.args.frame.now in
    let view : frame_bytes c.new_unchecked.result ≡ frame = search rules in
    let found = by-type frame c.parse.result c.in-Ok.link (rw view at c.parse.ensures.value) c.in-Ok.is in
    let why : IfErr c.accept.result (λ fault. packet_fault c.in-Ok.link.ethertype (drop 14 frame) ≡ Some fault) = rw (take_rest frame 14) at c.accept.ensures.rejected in
    let whole : IfErr c.accept.result (λ fault. fault_of frame ≡ Some fault) = IfErr-weaker c.accept.result _ _ (λ fault is. found ∙ is) why in
    search rules

pub returns-clause-forwarded : goal.returns-clause-forwarded
returns-clause-forwarded c =
    let frame = c.args.frame.now in
    let view : frame_bytes c.new_unchecked.result ≡ frame = search rules in
    let reads = rw view at c.parse.ensures.reads in
    let link : frame_bytes_mut c.new_unchecked-front.result ≡ take 14 frame = search rules in
    let once : frame_bytes_mut c.set_src_addr.new.self ≡ with_range (take 14 frame) 6 12 c.args.src_addr.0 = rw link at c.set_src_addr.ensures.holds in
    let front : frame_bytes_mut c.set_dst_addr.new.self ≡ with_range (with_range (take 14 frame) 6 12 c.args.src_addr.0) 0 6 c.args.dst_addr.0 =
    rw once at c.set_dst_addr.ensures.holds in
    let following : c.split_at_mut-front.result.1.now ≡ drop 14 frame = search rules in
    let header = c.in_ok-header.header in
    let packet : c.take_hop.new.packet ≡ with_hop_limit header (drop 14 frame) (hop_limit_of header - 1) = rw following at c.take_hop.ensures.bytes in
    forwarded frame _ _ c.take_hop.new.packet c.args.src_addr c.args.dst_addr c.in-Ok.link header c.one_less.result (search rules) (search rules)
    ((reads c.in-Ok.link).0 c.in-Ok.is) (rw (take_rest frame 14) at c.in_ok-header.ensures.carries) c.in_ok-header.ensures.alive front packet c.take_hop.ensures.reads (search rules) (search rules)
