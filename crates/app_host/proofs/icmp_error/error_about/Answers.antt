use Rattle.std.proofs.Common.{◌≡◌, Some, drop, false, rules, subst, sym, true}
use Rattle.ip_wire.specs.Ip.{version_of}
use Rattle.app_host.proofs.IcmpErrors.{told, untold}
use Rattle.app_host.proofs.MessagesOnce.{header-once, link-once}
use Rattle.app_host.specs.IcmpError.{IsErrorTo, IsToReceiver, IsToldOf, header_from, quoted}
use Rattle.app_host.specs.Message.{Gives}
use Rattle.app_host.proofs.icmp_error.error_about.Goals as goal

pub returns-then-not-is_to_receiver-clause-error : goal.returns-then-not-is_to_receiver-clause-error
returns-then-not-is_to_receiver-clause-error c =
    let frame = c.args.frame.now in
    let link = c.args.link.now in
    let v = c.args.header.now in
    let hosts : ¬ IsToReceiver c.args.about c.args.ours.now link v = search rules in
    untold c.args.about c.args.ours.now frame c.args.message link v (λ l r. link-once frame l link r c.requires.link) (λ w r. header-once (drop 14 frame) w v r c.requires.header) (λ both. hosts both.0)

pub returns-then-not-is_told_of-clause-error : goal.returns-then-not-is_told_of-clause-error
returns-then-not-is_told_of-clause-error c =
    let frame = c.args.frame.now in
    let link = c.args.link.now in
    let v = c.args.header.now in
    let inside : c.payload-packet.result.now ≡ drop 14 frame = search rules in
    let tells = rw inside at c.is_told_of.ensures in
    let told_of : ¬ IsToldOf c.args.about v (drop 14 frame) = λ may. let on : c.is_told_of.result ≡ true = tells.1 may in let off : c.is_told_of.result ≡ false = search rules in cc in
    untold c.args.about c.args.ours.now frame c.args.message link v (λ l r. link-once frame l link r c.requires.link) (λ w r. header-once (drop 14 frame) w v r c.requires.header) (λ both. told_of both.1)

pub returns-clause-error : goal.returns-clause-error
returns-clause-error c =
    let frame = c.args.frame.now in
    let ours = c.args.ours.now in
    let link = c.args.link.now in
    let v = c.args.header.now in
    let inside : c.payload-packet.result.now ≡ drop 14 frame = search rules in
    let hosts : IsToReceiver c.args.about ours link v = search rules in
    let tells = rw inside at c.is_told_of.ensures in
    let on : c.is_told_of.result ≡ true = search rules in
    let told_of : IsToldOf c.args.about v (drop 14 frame) = tells.0 on in
    let back : c.header_from-back.result ≡ header_from ours v = search rules in
    let quotes : c.quoted-quote.result.now ≡ quoted (version_of v) (drop 14 frame) = rw inside at c.quoted-quote.ensures in
    subst (λ f. Gives (IsErrorTo c.args.about ours frame c.args.message) (Some f)) (sym (rw back at c.icmp.ensures))
    (told c.args.about ours frame c.args.message link v c.quoted-quote.result c.requires.link c.requires.header hosts told_of quotes)
