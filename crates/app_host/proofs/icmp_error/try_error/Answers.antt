use Rattle.std.proofs.Common.{◌≡◌, drop, refl, rules, subst, true}
use Rattle.ip_wire.specs.Ethernet as ethernet
use Rattle.ip_wire.specs.Ip.{Reads, packet_bytes}
use Rattle.ip_wire.specs.Checksum.{verifies}
use Rattle.app_host.proofs.IcmpErrors.{no_header, no_link}
use Rattle.app_host.specs.declared.icmp_error.About.TheVariants.{Hosts}
use Rattle.app_host.proofs.icmp_error.try_error.Goals as goal

pub returns-in_default : goal.returns-in_default
returns-in_default c =
    let view : ethernet.frame_bytes c.new_unchecked-view.result ≡ c.args.frame.now = search rules in
    let reads = rw view at c.parse.ensures.reads in
    (refl, no_link Hosts c.args.ours.now c.args.frame.now c.args.message (λ link r. let ok = (reads link).1 r in absurd (let other = c.in_default.is in cc)))

pub returns-in-Err : goal.returns-in-Err
returns-in-Err c =
    let verified : verifies c.default-caps.result.ipv4 ≡ true = search rules in
    let view : packet_bytes c.new_unchecked.result ≡ drop 14 c.args.frame.now = search rules in
    let reads = rw (verified, view) at c.parse-2.ensures.reads in
    (refl, no_header Hosts c.args.ours.now c.args.frame.now c.args.message (λ v r. let ok = (reads v).1 r in absurd (let other = c.in-Err.is in cc)))

pub try_error_about-requires-clause-link : goal.try_error_about-requires-clause-link
try_error_about-requires-clause-link c =
    let view : ethernet.frame_bytes c.new_unchecked-view.result ≡ c.args.frame.now = search rules in
    let reads = rw view at c.parse.ensures.reads in
    (reads c.in-Ok.link).0 c.in-Ok.is

pub try_error_about-requires-clause-header : goal.try_error_about-requires-clause-header
try_error_about-requires-clause-header c =
    let verified : verifies c.default-caps.result.ipv4 ≡ true = search rules in
    let inside : packet_bytes c.new_unchecked.result ≡ drop 14 c.args.frame.now = search rules in
    let reads = rw (verified, inside) at c.parse-2.ensures.reads in
    subst (Reads (drop 14 c.args.frame.now) true) c.in-Ipv4.is ((reads c.in-Ok-parse.header).0 c.in-Ok-parse.is)

pub try_error_about-requires-in-Ipv6-clause-link : goal.try_error_about-requires-in-Ipv6-clause-link
try_error_about-requires-in-Ipv6-clause-link c =
    let view : ethernet.frame_bytes c.new_unchecked-view.result ≡ c.args.frame.now = search rules in
    let reads = rw view at c.parse.ensures.reads in
    (reads c.in-Ok.link).0 c.in-Ok.is

pub try_error_about-requires-in-Ipv6-clause-header : goal.try_error_about-requires-in-Ipv6-clause-header
try_error_about-requires-in-Ipv6-clause-header c =
    let verified : verifies c.default-caps.result.ipv4 ≡ true = search rules in
    let inside : packet_bytes c.new_unchecked.result ≡ drop 14 c.args.frame.now = search rules in
    let reads = rw (verified, inside) at c.parse-2.ensures.reads in
    subst (Reads (drop 14 c.args.frame.now) true) c.in-Ipv6.is ((reads c.in-Ok-parse.header).0 c.in-Ok-parse.is)
