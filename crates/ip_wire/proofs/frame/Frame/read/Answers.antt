use Rattle.std.proofs.Common.{◌≡◌, ◌∙◌, ap, arith, drop, None, refl, rules}
use Rattle.std.proofs.lemmas.Bool.Decides.{nat_tests}
use Rattle.ip_wire.proofs.Rewritten.{fits-frame}
use Rattle.ip_wire.specs.FrameValue.{Finds}
use Rattle.wire_ethernet.specs.Ethernet.{ethernet_of}
use Rattle.ip_wire.proofs.frame.Frame.read.Goals as goal

pub returns-in_err-header-clause-ok : goal.returns-in_err-header-clause-ok
unfolding ethernet_of
returns-in_err-header-clause-ok c =
    let unread : ethernet_of c.args.bytes.now ≡ None = rw c.new_unchecked-frame.ensures at c.in_err-header.ensures.value in
    ((λ ok. search rules), (λ whole. absurd (grind (arith, nat_tests, unread, whole))))

found : (c : goal.After-read-carried) → Finds c.args.caps.now c.args.bytes.now (record { header = c.in_ok-header.header; carried = c.read-carried.result })
found c =
    let read = ((rw c.new_unchecked-frame.ensures at c.in_ok-header.ensures.reads) c.in_ok-header.header).0 refl in
    let payload : c.payload.result.now ≡ drop 14 c.args.bytes.now = c.payload.ensures ∙ ap (λ slice. drop 14 slice.now) c.new_unchecked-frame.ensures in
    record { header = read; carried = rw payload at c.read-carried.ensures }

pub returns-clause-value : goal.returns-clause-value
returns-clause-value c = found c

pub returns-clause-fits : goal.returns-clause-fits
returns-clause-fits c = (fits-frame _ _ _ (found c)).0

pub returns-clause-no_longer : goal.returns-clause-no_longer
returns-clause-no_longer c = (fits-frame _ _ _ (found c)).1
