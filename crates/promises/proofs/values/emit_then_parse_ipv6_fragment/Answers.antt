use Rattle.std.proofs.Common.{ℕ, ◌≡◌, ◌++◌, ◌∙◌, Bor, List, ap, drop, subst, sym}
use Rattle.ip_wire.specs.Ipv6Fragment.{Reads, bytes_of, normal}
use Rattle.std.proofs.lemmas.List.{take_rest}
use Rattle.promises.proofs.values.emit_then_parse_ipv6_fragment.Goals as goal

pub returns-clause-value : goal.returns-clause-value
returns-clause-value c =
    let value = c.args.value in
    let written : c.new_unchecked.result.buffer.now ≡ bytes_of value ++ drop 6 c.args.buffer.now = ap (λ (b : Bor (List ℕ)). b.now) c.new_unchecked.ensures ∙ c.emit_ipv6_fragment.ensures in
    let law = subst (λ rest. Reads (bytes_of value ++ rest) (normal value)) (take_rest c.args.buffer.now 6) c.emit_reads_back_ipv6_fragment.ensures in
    (c.parse.ensures.reads (normal value)).1 (subst (λ bytes. Reads bytes (normal value)) (sym written) law)
