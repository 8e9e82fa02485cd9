use Rattle.std.proofs.Common.{◌≡◌, ℕ, ◌++◌, List, ap, ap₂, sym, ◌∙◌, rules, arith}
use Rattle.std.proofs.lemmas.Grind.{put_four}
use Rattle.std.specs.Result.{IsOk}
use Rattle.net_base.specs.Field.{field}
use Rattle.wire_tcp.proofs.TcpTexts.{packet_text-none, packet_text-some}
use Rattle.wire_tcp.specs.Tcp.{HasLengths, options_of}
use Rattle.wire_tcp.specs.TcpText.{fields_text, flags_text, options_text, packet_text, ports_text}
use Rattle.wire_tcp.proofs.tcp.text.TcpPacketDisplay.fmt.Goals as goal
use Rattle.std.proofs.lemmas.Grind.{common_steps}
use Rattle.std.proofs.lemmas.Bool.Decides.{nat_tests}

pub returns-in_ok-write_fields-in-Ok-clause-writes : goal.returns-in_ok-write_fields-in-Ok-clause-writes
returns-in_ok-write_fields-in-Ok-clause-writes g c =
    let bytes = c.args.self.now.buffer.now in
    let took = g.W.Write.write_str_gives in
    let lengths : HasLengths bytes = search rules in
    let ports : ports_text c.src_port-src.result c.dst_port-dst.result ≡ ports_text (field bytes 0 16) (field bytes 16 16) = ap₂ ports_text c.src_port-src.ensures c.dst_port-dst.ensures in
    let options : options_text c.options.result.now ≡ options_text (options_of bytes) = ap options_text c.options.ensures in
    let first : IsOk c.write.result = search rules in
    let second : IsOk c.write_flags.result = search rules in
    let third : IsOk c.write_fields.result = search rules in
    λ plain ok.
    let one = c.write.ensures.writes plain first in
    let two = c.write_flags.ensures one.plain second in
    let three = c.write_fields.ensures two.plain third in
    let four = c.write-in-Ok.ensures.writes three.plain ok in
    put_four took _ _ _ _ _ (ports_text c.src_port-src.result c.dst_port-dst.result) (flags_text bytes) (fields_text bytes) (options_text c.options.result.now) (packet_text bytes)
    one two three four
    (ap₂ (λ (p t : List ℕ). p ++ (flags_text bytes ++ (fields_text bytes ++ t))) ports options ∙ sym (packet_text-some bytes lengths))

pub returns-in-Err-clause-writes : goal.returns-in-Err-clause-writes
returns-in-Err-clause-writes g c = grind (arith, common_steps, nat_tests, packet_text-none)
