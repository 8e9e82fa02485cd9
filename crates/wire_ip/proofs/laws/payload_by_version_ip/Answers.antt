use Rattle.std.proofs.Common.{Err, IsTrue, Ok, Result, ap, refl, ◌∙◌}
use Rattle.std.specs.Prelude.{IsOk}
use Rattle.std.specs.Result.{is_err}
use Rattle.std.proofs.lemmas.Bool.{false≢true}
use Rattle.wire_addr.specs.declared.ip_version.IpVersion.TheVariants as version
use Rattle.wire_ip.proofs.laws.payload_by_version_ip.Goals as goal

-- a result that is not `Ok` is an error
not_ok : {V E : Type 0} (r : Result V E) → ¬ (IsOk r) → IsTrue (is_err r)
not_ok (Ok v) never = absurd (never refl)
not_ok (Err e) never = refl

pub returns-in-Err-payload : goal.returns-in-Err-payload
returns-in-Err-payload c =
    let is = (c.in-Ok-Ipv4.ensures.version version.Ipv4).0 (ap Ok c.in-Ok-Ipv4.field-0-is) in
    let whole = rw c.new_unchecked.ensures at c.in-Err-payload.ensures.ok version.Ipv4 in
    let lengths = rw c.new_unchecked-packet.ensures at c.check_len.ensures.0 in
    c.is_err.ensures.value ∙ not_ok c.check_len.result (λ ok. false≢true ((whole is).1 (lengths ok)))

pub returns-in-Err-payload-2 : goal.returns-in-Err-payload-2
returns-in-Err-payload-2 c =
    let is = (c.in-Ok-Ipv6.ensures.version version.Ipv6).0 (ap Ok c.in-Ok-Ipv6.field-0-is) in
    let whole = rw c.new_unchecked.ensures at c.in-Err-payload-2.ensures.ok version.Ipv6 in
    let lengths = rw c.new_unchecked-packet-in-Ok-Ipv6.ensures at c.check_len-in-Err-payload-2.ensures.0 in
    c.is_err-in-Err-payload-2.ensures.value
    ∙ not_ok c.check_len-in-Err-payload-2.result (λ ok. false≢true ((whole is).1 (lengths ok)))
