use Rattle.std.proofs.Common.{◌≡◌, ◌∙◌, ◌≤◌, ◌<◌, ◌+◌, None, arith, false, length, suc, subst, sym}
use Rattle.app_host.specs.Ipv6Fault.{header_fault, headers_fault, is_fragment, is_last}
use Rattle.app_host.proofs.Ipv6Faults.{fault-of, header_end-later, headers-end, headers-go, headers-part, headers-stop}
use Rattle.app_host.proofs.ipv6_fault.first_fault.Goals as goal

pub loop-fault-init : goal.loop-fault-init
loop-fault-init c = let payload = c.args.payload.now in record { within = omega arith; left = (suc (length payload), omega arith, sym (fault-of c.args.next_header payload)) }

pub loop-fault-preserved : goal.loop-fault-preserved
loop-fault-preserved c =
    let payload = c.args.payload.now in
    let start = c.loop-fault.start in
    let (n, few, same) = c.loop-fault.invariant.left in
    let more : is_last c.loop-fault.number ≡ false = sym c.is_last.ensures ∙ c.loop-fault-test.true in
    let none : header_fault payload c.loop-fault.number c.loop-fault.pointer start ≡ None = sym c.header_fault.ensures.fault ∙ c.in_default.is in
    let whole : is_fragment payload c.loop-fault.number start ≡ false = sym c.is_fragment.ensures ∙ c.if-is_fragment.false in
    let (k, fewer, step) = headers-go n payload c.loop-fault.number c.loop-fault.pointer start few c.loop-fault.invariant.within more none whole in
    record {
      within = subst (λ s. s ≤ length payload) (sym c.header_end-end.ensures) (c.header_fault.ensures.whole c.in_default.is);
      left = (
        k,
        subst (λ s. length payload < k + s) (sym c.header_end-end.ensures) fewer,
        (λ i. headers_fault k payload (c.byte_at-number.ensures i) (c.pointer_to-pointer.ensures i) (c.header_end-end.ensures i)) ∙ sym step ∙ same,
      );
    }

pub loop-fault-smaller : goal.loop-fault-smaller
loop-fault-smaller c =
    omega (arith, c.header_end-end.ensures, header_end-later c.args.payload.now c.loop-fault.number c.loop-fault.start, c.header_fault.ensures.whole c.in_default.is)

pub returns-then-is_fragment : goal.returns-then-is_fragment
returns-then-is_fragment c =
    let (n, few, same) = c.loop-fault.invariant.left in
    sym (headers-part n c.args.payload.now c.loop-fault.number c.loop-fault.pointer c.loop-fault.start (sym c.header_fault.ensures.fault ∙ c.in_default.is)
    (sym c.is_fragment.ensures ∙ c.if-is_fragment.true)) ∙ same

pub returns-in-Some : goal.returns-in-Some
returns-in-Some c =
    let (n, few, same) = c.loop-fault.invariant.left in
    let more : is_last c.loop-fault.number ≡ false = sym c.is_last.ensures ∙ c.loop-fault-test.true in
    sym (headers-stop n c.args.payload.now c.loop-fault.number c.loop-fault.pointer c.loop-fault.start c.in-Some.fault few c.loop-fault.invariant.within more
    (sym c.header_fault.ensures.fault ∙ c.in-Some.is)) ∙ same

pub returns : goal.returns
returns c =
    let (n, few, same) = c.loop-fault.invariant.left in
    sym (headers-end n c.args.payload.now c.loop-fault.number c.loop-fault.pointer c.loop-fault.start (sym c.is_last.ensures ∙ c.loop-fault-test.false)) ∙ same
