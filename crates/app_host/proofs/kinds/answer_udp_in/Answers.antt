use Rattle.std.proofs.Common.{◌≡◌, ◌≤◌, ◌<◌, false, refl, rules, subst, sym, true}
use Rattle.app_host.proofs.Echoes.{echoed, sound, unasked}
use Rattle.app_host.proofs.HostReplies.{by_echo}
use Rattle.app_host.proofs.KindReplies.{by-frame, no-udp}
use Rattle.app_host.proofs.Tried.{closed-tried, told-tried}
use Rattle.app_host.specs.Host.{IsServed}
use Rattle.app_host.specs.Interface.{IsForUs}
use Rattle.ip_wire.proofs.Rewritten.{fits-frame}
use Rattle.ip_wire.specs.declared.Carried.TheVariants as carried
use Rattle.ip_wire.specs.declared.Frame.{Frame}
use Rattle.ip_wire.specs.declared.Transport.TheVariants as transport
use Rattle.app_host.proofs.kinds.answer_udp_in.Goals as goal

pub returns-then-not-is_for_us : goal.returns-then-not-is_for_us
returns-then-not-is_for_us V6 c =
    let host = c.args.host.now in
    let link = c.args.link in
    let v = c.args.header in
    let u = c.args.ports in
    let payload = c.args.payload in
    let off : c.accepts-is_for_us.result ≡ false = search rules in
    let apart : ¬ IsForUs host.interface link v = λ for_us. let on : c.accepts-is_for_us.result ≡ true = c.accepts-is_for_us.ensures.1 for_us in cc in
    no-udp host c.args.frame.now link v u payload c.args.out.now (unasked host.interface host.echo_port link v u payload (λ for_us. absurd (apart for_us)))
    (λ h d (asked, is, e). let asks = e.asks in let same : e.ip ≡ v = cc in apart (subst (IsForUs host.interface link) same e.for_us)) c.requires

pub returns-then-is_asked : goal.returns-then-is_asked
returns-then-is_asked V6 c =
    let host = c.args.host.now in
    let v = c.args.header in
    let u = c.args.ports in
    let payload = c.args.payload in
    let request : Frame = record { header = c.args.link; carried = carried.Packet v (transport.Udp u payload) } in
    let for_us : IsForUs host.interface c.args.link v = search rules in
    let asked : (u.dst_port ≡ host.echo_port) × (1024 ≤ u.src_port) × (host.echo_port < u.src_port) = search rules in
    let can = sound host.interface c.args.link v u payload asked.1 (fits-frame _ _ _ c.requires).0 in
    let gives = echoed host.interface host.echo_port request c.echo_of-echo.result v u payload refl asked.0 asked.1 asked.2 for_us c.echo_of-echo.ensures can in
    by-frame host c.args.frame.now request c.args.out.now c.send_inlined.new.out c.send_inlined.result c.requires
    (record { reply = c.echo_of-echo.result; gives = by_echo host request c.echo_of-echo.result gives; sends = c.send_inlined.ensures })

pub send_inlined-requires : goal.send_inlined-requires
send_inlined-requires V6 c =
    let host = c.args.host.now in
    let v = c.args.header in
    let u = c.args.ports in
    let payload = c.args.payload in
    let request : Frame = record { header = c.args.link; carried = carried.Packet v (transport.Udp u payload) } in
    let for_us : IsForUs host.interface c.args.link v = search rules in
    let asked : (u.dst_port ≡ host.echo_port) × (1024 ≤ u.src_port) × (host.echo_port < u.src_port) = search rules in
    let can = sound host.interface c.args.link v u payload asked.1 (fits-frame _ _ _ c.requires).0 in
    (echoed host.interface host.echo_port request c.echo_of-echo.result v u payload refl asked.0 asked.1 asked.2 for_us c.echo_of-echo.ensures can).0

pub returns-then-serves : goal.returns-then-serves
returns-then-serves V6 c =
    let host = c.args.host.now in
    let link = c.args.link in
    let v = c.args.header in
    let u = c.args.ports in
    let payload = c.args.payload in
    let off : c.is_asked.result ≡ false = search rules in
    let served : IsServed host u.dst_port = search rules in
    no-udp host c.args.frame.now link v u payload c.args.out.now
    (unasked host.interface host.echo_port link v u payload (λ for_us asked. let on : c.is_asked.result ≡ true = c.is_asked.ensures.1 asked in cc))
    (λ h d (asked, is, e). let asks = e.asks in let same : e.udp ≡ u = cc in e.closed (subst (λ x. IsServed host x.dst_port) (sym same) served)) c.requires

pub returns : goal.returns
returns V6 c =
    let host = c.args.host.now in
    let link = c.args.link in
    let v = c.args.header in
    let u = c.args.ports in
    let payload = c.args.payload in
    let request : Frame = record { header = link; carried = carried.Packet v (transport.Udp u payload) } in
    let off : c.is_asked.result ≡ false = search rules in
    let for_us : IsForUs host.interface link v = search rules in
    let closed : ¬ IsServed host u.dst_port = λ served. let on : c.serves.result ≡ true = c.serves.ensures.1 served in let none = c.if-serves.false in cc in
    closed-tried host c.args.frame.now link v u payload c.args.out.now c.try_error.new.out c.try_error.result
    (unasked host.interface host.echo_port link v u payload (λ for_us asked. let on : c.is_asked.result ≡ true = c.is_asked.ensures.1 asked in cc))
    (told-tried host c.args.frame.now request v u payload c.args.out.now c.try_error.new.out c.try_error.result refl for_us closed c.try_error.ensures) c.requires
