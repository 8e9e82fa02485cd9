use Rattle.std.proofs.Common.{◌≡◌, ◌∙◌, Ok, Some, ap, length, rules, sym, subst}
use Rattle.ip_wire.specs.Frame.{all_checked, other, packet}
use Rattle.ip_wire.specs.Types.{Ipv6}
use Rattle.wire_icmp.specs.Icmp.{packet_bytes}
use Rattle.wire_icmp.specs.declared.NdiscRepr.TheVariants.{NeighborSolicit}
use Rattle.app_host.proofs.Neighbours.{advertised, no_advert}
use Rattle.app_host.specs.Message.{Gives}
use Rattle.app_host.specs.Neighbour.{IsAnsweredTo, IsNeighbourReply, IsSolicited}
use Rattle.app_host.proofs.neighbour.reply_to.Goals as goal

pub returns-in-Some-clause-reply : goal.returns-in-Some-clause-reply
returns-in-Some-clause-reply c =
    let ours = c.args.ours.now in
    let link = c.args.link.now in
    let ip = c.args.header.now in
    let request = c.args.request.now in
    let caps : c.default-caps.result ≡ all_checked = search rules in
    let view : packet_bytes c.new_unchecked-packet.result ≡ request = search rules in
    let reads = rw (caps, view) at c.parse.ensures.reads in
    let named = c.in-NeighborSolicit.lladdr in
    let target : c.in-NeighborSolicit.target_addr ≡ ours.ipv6_addr = search rules in
    let read = (reads (NeighborSolicit ours.ipv6_addr named)).0 (c.in-Ok.is ∙ ap Ok (c.in-NeighborSolicit.is ∙ ap (λ t. NeighborSolicit t named) target)) in
    let for_us : IsSolicited ours link ip = search rules in
    let len : length ours.ipv6_addr ≡ 16 = search rules in
    let six : length ours.hardware_addr.0 ≡ 6 = search rules in
    subst (λ f. Gives (IsNeighbourReply ours link (packet (Ipv6 ip) (other request))) (Some f)) (sym c.advert.ensures)
    (advertised ours link ip request named c.in-Some.to.0 c.in-Some.to.1 c.in-Some.to.2 for_us read c.in-Some.ensures.some len six)

pub returns-then-ne-clause-reply : goal.returns-then-ne-clause-reply
returns-then-ne-clause-reply c =
    let ours = c.args.ours.now in
    let request = c.args.request.now in
    let caps : c.default-caps.result ≡ all_checked = search rules in
    let view : packet_bytes c.new_unchecked-packet.result ≡ request = search rules in
    let reads = rw (caps, view) at c.parse.ensures.reads in
    no_advert ours c.args.link.now c.args.header.now request (λ named hardware dst solicited for_us r to.
    let ok = (reads (NeighborSolicit ours.ipv6_addr named)).1 r in
    let is = c.in-Ok.is in
    let value = c.in-NeighborSolicit.is in
    let same : c.in-NeighborSolicit.target_addr ≡ ours.ipv6_addr = cc in
    absurd (search (rules, same)))

pub returns-in-None-clause-reply : goal.returns-in-None-clause-reply
returns-in-None-clause-reply c =
    let ours = c.args.ours.now in
    let request = c.args.request.now in
    let caps : c.default-caps.result ≡ all_checked = search rules in
    let view : packet_bytes c.new_unchecked-packet.result ≡ request = search rules in
    let reads = rw (caps, view) at c.parse.ensures.reads in
    no_advert ours c.args.link.now c.args.header.now request (λ named hardware dst solicited for_us r to.
    let ok = (reads (NeighborSolicit ours.ipv6_addr named)).1 r in
    let is = c.in-Ok.is in
    let value = c.in-NeighborSolicit.is in
    let same : named ≡ c.in-NeighborSolicit.lladdr = cc in
    c.answered_to.ensures.none c.in-None.is hardware dst solicited (subst (λ n. IsAnsweredTo ours c.args.link.now c.args.header.now n hardware dst solicited) same to))

pub returns-in_default-clause-reply : goal.returns-in_default-clause-reply
returns-in_default-clause-reply c =
    let ours = c.args.ours.now in
    let request = c.args.request.now in
    let caps : c.default-caps.result ≡ all_checked = search rules in
    let view : packet_bytes c.new_unchecked-packet.result ≡ request = search rules in
    let reads = rw (caps, view) at c.parse.ensures.reads in
    no_advert ours c.args.link.now c.args.header.now request (λ named hardware dst solicited for_us r to.
    let ok = (reads (NeighborSolicit ours.ipv6_addr named)).1 r in
    let is = c.in-Ok.is in
    let same : c.in-Ok.value ≡ NeighborSolicit ours.ipv6_addr named = cc in
    c.in_default.not-NeighborSolicit ours.ipv6_addr named same)

pub returns-in-Err-clause-reply : goal.returns-in-Err-clause-reply
returns-in-Err-clause-reply c =
    let ours = c.args.ours.now in
    let request = c.args.request.now in
    let caps : c.default-caps.result ≡ all_checked = search rules in
    let view : packet_bytes c.new_unchecked-packet.result ≡ request = search rules in
    let reads = rw (caps, view) at c.parse.ensures.reads in
    no_advert ours c.args.link.now c.args.header.now request (λ named hardware dst solicited for_us r to.
    let ok = (reads (NeighborSolicit ours.ipv6_addr named)).1 r in
    absurd (let is = c.in-Err.is in cc))
