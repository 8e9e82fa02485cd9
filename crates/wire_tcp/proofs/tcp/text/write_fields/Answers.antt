use Rattle.std.proofs.Common.{◌≡◌, ◌-◌, ℕ, List, length, length-drop, ap, ◌∙◌, rules, subst, sym}
use Rattle.std.specs.Fmt.{WritesOnOk}
use Rattle.net_base.specs.Field.{field}
use Rattle.net_base.proofs.Readings.{flag_test}
use Rattle.wire_tcp.specs.Tcp.{header_len}
use Rattle.wire_tcp_options.specs.TcpSeq.{number}
use Rattle.wire_tcp.specs.TcpText.{fields_text, numbers_text}
use Rattle.wire_tcp.proofs.TcpTexts.{fields_text-values}
use Rattle.wire_tcp.proofs.tcp.text.write_fields.Goals as goal

pub returns : goal.returns
returns g c =
    let bytes = c.args.packet.now.buffer.now in
    let seq = number c.seq_number.result in
    let ack : c.cast_unsigned.result ≡ field bytes 64 32 = search rules in
    let urgent : c.into.result ≡ field bytes 144 16 = search rules in
    let len : length c.payload.result.now ≡ length bytes - header_len bytes = ap length c.payload.ensures ∙ length-drop (header_len bytes) bytes in
    let text = fields_text-values bytes c.ack.result c.urg.result seq c.cast_unsigned.result c.window_len.result c.into.result (length c.payload.result.now)
    (flag_test c.ack.result (field bytes 107 1) c.ack.ensures) (flag_test c.urg.result (field bytes 106 1) c.urg.ensures)
    c.seq_number.ensures ack c.window_len.ensures urgent len in
    let same : numbers_text seq c.number_if-ack.result c.window_len.result c.number_if-urgent.result (length c.payload.result.now) ≡ fields_text bytes =
    rw (c.number_if-ack.ensures, c.number_if-urgent.ensures) (sym text) in
    subst (λ (t : List ℕ). WritesOnOk g.W.Write.write_str_gives c.args.f.now c.write_numbers.result t c.write_numbers.new.f) same c.write_numbers.ensures
