use Rattle.std.proofs.Common.{◌≡◌, drop, rules, true}
use Rattle.ip_wire.specs.Ethernet as ethernet
use Rattle.ip_wire.specs.Ip.{packet_bytes}
use Rattle.ip_wire.specs.Checksum.{verifies}
use Rattle.app_host.proofs.IcmpErrors.{no_header, no_link}
use Rattle.app_host.proofs.icmp_error.error_to.Goals as goal

pub returns-in_default-clause-error : goal.returns-in_default-clause-error
returns-in_default-clause-error c =
    let view : ethernet.frame_bytes c.new_unchecked-view.result ≡ c.args.frame.now = search rules in
    let reads = rw view at c.parse.ensures.reads in
    no_link c.args.about c.args.ours.now c.args.frame.now c.args.message (λ link r. let ok = (reads link).1 r in absurd (let other = c.in_default.is in cc))

pub returns-in-Err-clause-error : goal.returns-in-Err-clause-error
returns-in-Err-clause-error c =
    let verified : verifies c.default-caps.result.ipv4 ≡ true = search rules in
    let view : packet_bytes c.new_unchecked.result ≡ drop 14 c.args.frame.now = search rules in
    let reads = rw (verified, view) at c.parse-2.ensures.reads in
    no_header c.args.about c.args.ours.now c.args.frame.now c.args.message (λ v r. let ok = (reads v).1 r in absurd (let other = c.in-Err.is in cc))

pub error_about-requires-clause-link : goal.error_about-requires-clause-link
error_about-requires-clause-link c =
    let view : ethernet.frame_bytes c.new_unchecked-view.result ≡ c.args.frame.now = search rules in
    let reads = rw view at c.parse.ensures.reads in
    (reads c.in-Ok.link).0 c.in-Ok.is

pub error_about-requires-clause-header : goal.error_about-requires-clause-header
error_about-requires-clause-header c =
    let verified : verifies c.default-caps.result.ipv4 ≡ true = search rules in
    let inside : packet_bytes c.new_unchecked.result ≡ drop 14 c.args.frame.now = search rules in
    let reads = rw (verified, inside) at c.parse-2.ensures.reads in
    (reads c.in-Ok-parse.header).0 c.in-Ok-parse.is
