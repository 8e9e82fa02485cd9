use Rattle.std.proofs.Common.{List, ℕ, ◌≡◌, ◌++◌, ◌∙◌, ap, arith, length, rules, sym, take}
use Rattle.app_nat.proofs.Quotes.{inner-header, inner_of, requoted}
use Rattle.app_nat.specs.Errors.{after_header}
use Rattle.app_nat.specs.Nat.{with_address}
use Rattle.ip_wire.specs.Ipv4.{header_len}
use Rattle.app_nat.proofs.errors.rewrite_quoted.Goals as goal

pub returns-clause-quotes : goal.returns-clause-quotes
returns-clause-quotes c q named r =
    let bytes = c.args.bytes.now in
    let h = header_len bytes in
    let part = c.rewrite_end.new.bytes in
    let len : c.from-len.result ≡ h = search rules in
    let front : c.split_at_mut-after_header.result.0.now ≡ take h bytes = search rules in
    let back : c.split_at_mut-after_header.result.1.now ≡ after_header bytes = search rules in
    let inner : c.split_at_mut-after_header.result.0.now ++ part ≡ inner_of bytes part = ap (λ (l : List ℕ). l ++ part) front in
    let long : length part ≡ length (after_header bytes) = c.rewrite_end.auto.bytes ∙ ap length back in
    let at = c.set_addr.ensures.bytes ∙ ap (with_address c.args.side c.args.addr) inner in
    requoted c.args.side bytes part c.set_addr.new.packet c.args.addr c.args.port c.args.protocol q (search rules) named at long c.rewrite_end.ensures.port
    (rw back at c.rewrite_end.ensures.echo) r

pub returns-clause-summed : goal.returns-clause-summed
returns-clause-summed c =
    let bytes = c.args.bytes.now in
    let h = header_len bytes in
    let part = c.rewrite_end.new.bytes in
    let len : c.from-len.result ≡ h = search rules in
    let front : c.split_at_mut-after_header.result.0.now ≡ take h bytes = search rules in
    let back : c.split_at_mut-after_header.result.1.now ≡ after_header bytes = search rules in
    let inner : c.split_at_mut-after_header.result.0.now ++ part ≡ inner_of bytes part = ap (λ (l : List ℕ). l ++ part) front in
    let long : length part ≡ length (after_header bytes) = c.rewrite_end.auto.bytes ∙ ap length back in
    let same = inner-header bytes part long c.requires.least (omega (arith, c.requires.room)) in
    let stays = (rw inner at c.set_addr.ensures.summed) same.least same.whole in
    (λ valid. stays.0 (same.summed ∙ valid), λ valid. sym same.summed ∙ stays.1 valid)
