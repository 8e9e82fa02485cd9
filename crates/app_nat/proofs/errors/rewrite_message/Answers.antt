use Rattle.std.proofs.Common.{List, ℕ, ◌≡◌, ◌↔◌, ◌≤◌, ◌++◌, ◌∙◌, ap, arith, drop, length, length-drop, rules, subst, sym, take}
use Rattle.app_nat.proofs.Quotes.{message, reported}
use Rattle.app_nat.specs.Errors.{Quotes, Reports, quoting, with_message_checksum}
use Rattle.ip_wire.specs.Ipv4.{HasChecksum}
use Rattle.wire_icmp.specs.Icmp.{packet_bytes_mut}
use Rattle.app_nat.proofs.errors.rewrite_message.Goals as goal

pub returns-clause-reports : goal.returns-clause-reports
returns-clause-reports c q named r =
    let bytes = c.args.bytes.now in
    let part = c.rewrite_quoted.new.bytes in
    let other = quoting q c.args.addr c.args.port in
    let front : c.split_at_mut-quoted.result.0.now ≡ take 8 bytes = search rules in
    let back : c.split_at_mut-quoted.result.1.now ≡ drop 8 bytes = search rules in
    let view : packet_bytes_mut c.new_unchecked.result ≡ c.split_at_mut-quoted.result.0.now ++ part = search rules in
    let filled : packet_bytes_mut c.fill_checksum.new.self ≡ with_message_checksum (c.split_at_mut-quoted.result.0.now ++ part) = rw view at c.fill_checksum.ensures.holds in
    let at : packet_bytes_mut c.fill_checksum.new.self ≡ with_message_checksum (take 8 bytes ++ part) = filled ∙ ap (λ (l : List ℕ). with_message_checksum (l ++ part)) front in
    let quotes : Quotes c.args.side part other = (rw back at c.rewrite_quoted.ensures.quotes) q named r.quotes in
    let room : 8 ≤ length bytes = omega (arith, length-drop 8 bytes, c.requires.least, c.requires.room) in
    subst (λ (l : List ℕ). Reports c.args.side l other) (search rules) (reported c.args.side bytes part (packet_bytes_mut c.fill_checksum.new.self) q other room at quotes r)

pub returns-clause-summed : goal.returns-clause-summed
returns-clause-summed c =
    let bytes = c.args.bytes.now in
    let part = c.rewrite_quoted.new.bytes in
    let front : c.split_at_mut-quoted.result.0.now ≡ take 8 bytes = search rules in
    let back : c.split_at_mut-quoted.result.1.now ≡ drop 8 bytes = search rules in
    let view : packet_bytes_mut c.new_unchecked.result ≡ c.split_at_mut-quoted.result.0.now ++ part = search rules in
    let filled : packet_bytes_mut c.fill_checksum.new.self ≡ with_message_checksum (c.split_at_mut-quoted.result.0.now ++ part) = rw view at c.fill_checksum.ensures.holds in
    let at : packet_bytes_mut c.fill_checksum.new.self ≡ with_message_checksum (take 8 bytes ++ part) = filled ∙ ap (λ (l : List ℕ). with_message_checksum (l ++ part)) front in
    let room : 8 ≤ length bytes = omega (arith, length-drop 8 bytes, c.requires.least, c.requires.room) in
    let after_header : drop 8 (packet_bytes_mut c.fill_checksum.new.self) ≡ part = ap (drop 8) at ∙ (message bytes part room).after_header in
    let stays : HasChecksum (drop 8 bytes) ↔ HasChecksum part = rw back at c.rewrite_quoted.ensures.summed in
    search (rules, subst (λ (l : List ℕ). HasChecksum (drop 8 bytes) ↔ HasChecksum l) (sym after_header) stays)
