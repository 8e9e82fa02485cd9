use Rattle.std.proofs.Common.{ℕ, ◌≡◌, ◌++◌, ◌∙◌, Bor, List, ap, drop, subst, sym}
use Rattle.ip_wire.specs.Arp.{Reads, bytes_of, normal}
use Rattle.std.proofs.lemmas.List.{take_rest}
use Rattle.promises.proofs.values.emit_then_parse_arp.Goals as goal

pub returns-clause-value : goal.returns-clause-value
returns-clause-value c =
    let value = c.args.value in
    let written : c.new_unchecked.result.buffer.now ≡ bytes_of value ++ drop 28 c.args.buffer.now = ap (λ (b : Bor (List ℕ)). b.now) c.new_unchecked.ensures ∙ c.emit_arp.ensures in
    let law = subst (λ rest. Reads (bytes_of value ++ rest) (normal value)) (take_rest c.args.buffer.now 28) c.emit_reads_back_arp.ensures in
    (c.parse.ensures.reads (normal value)).1 (subst (λ bytes. Reads bytes (normal value)) (sym written) law)
