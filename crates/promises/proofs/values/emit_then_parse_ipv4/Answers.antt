use Rattle.std.proofs.Common.{ℕ, ◌≡◌, ◌-◌, ◌++◌, ◌∙◌, Bor, List, ap, drop, length, subst, sym, take}
use Rattle.ip_wire.specs.Ipv4.{Reads, bytes_of, normal}
use Rattle.ip_wire.specs.Checksum.{computes, verifies}
use Rattle.std.proofs.lemmas.List.{take_rest}
use Rattle.promises.proofs.values.emit_then_parse_ipv4.Goals as goal

pub returns-clause-value : goal.returns-clause-value
returns-clause-value c =
    let value = c.args.value in
    let computed = computes c.args.sent.now.ipv4 in
    let verified = verifies c.args.received.now.ipv4 in
    let written : c.new_unchecked.result.buffer.now ≡ bytes_of value computed ++ drop 20 c.args.buffer.now = ap (λ (b : Bor (List ℕ)). b.now) c.new_unchecked.ensures ∙ c.emit_ipv4.ensures in
    let rest = take (length c.args.buffer.now - 20) (drop 20 c.args.buffer.now) in
    let back : Reads (bytes_of value computed ++ rest) verified (normal value) = rw (← c.tx.ensures, ← c.rx.ensures) c.emit_reads_back_ipv4.ensures in
    let law = subst (λ rest. Reads (bytes_of value computed ++ rest) verified (normal value)) (take_rest c.args.buffer.now 20) back in
    (c.parse.ensures.reads (normal value)).1 (subst (λ bytes. Reads bytes verified (normal value)) (sym written) law)
